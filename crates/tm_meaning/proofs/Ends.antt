-- Ends of runs.
use Rattle.std.proofs.Common.{◌≡◌, ℕ, List, [], ◌++◌, sym, ◌∙◌, ap, subst, append_assoc}
use Rattle.std.proofs.lemmas.List.{append-nil}
use Rattle.tm_meaning.specs.Machine.{Program, Config, Base, back_to, Next, More}
use Rattle.tm_meaning.specs.Steps.{step, Final, Leads, over, more, restart, nest}

pub one_end : {p : Program} {f : Base} {t : List ℕ} {n : Next} {o q : Final} → Leads p f t n o → Leads p f t n q → o ≡ q
one_end (over {e = a} x y) (over {e = b} z u) = let s : a ≡ b = cc in cc
one_end (over x y) (more z u) = cc
one_end (over x y) (restart z u) = cc
one_end (over x y) (nest z u v) = cc
one_end (more x y) (over z u) = cc
one_end {p = p} {f = f} {t = t} {q = q} (more {d = d'} {c = c1} x y) (more {d = d''} {c = c2} z u) =
    let kd : d'' ≡ d' = cc in
    let kc : c2 ≡ c1 = cc in
    one_end y (subst (λ d. Leads p f (t ++ d) (step p f c1) q) kd (subst (λ c. Leads p f (t ++ d'') (step p f c) q) kc u))
one_end (more x y) (restart z u) = cc
one_end (more x y) (nest z u v) = cc
one_end (restart x y) (over z u) = cc
one_end (restart x y) (more z u) = cc
one_end {p = p} {f = f} {t = t} {q = q} (restart {c = c1} x y) (restart {c = c2} z u) =
    let kc : c2 ≡ c1 = cc in
    one_end y (subst (λ c. Leads p f t (step p f c) q) kc u)
one_end (restart x y) (nest z u v) = cc
one_end (nest x y w) (over z u) = cc
one_end (nest x y w) (more z u) = cc
one_end (nest x y w) (restart z u) = cc
one_end {p = p} {f = f} {t = t} {q = q} (nest {g = g1} {c = c1} {back = b1} {e = e1} x y w)
    (nest {g = g2} {c = c2} {back = b2} {e = e2} z u v) =
    let kg : g2 ≡ g1 = cc in
    let kc : c2 ≡ c1 = cc in
    let kb : b2 ≡ b1 = cc in
    let u1 : Leads p g1 t (step p g1 c1) e2 = subst (λ c. Leads p g1 t (step p g1 c) e2) kc
    (subst (λ g. Leads p g t (step p g c2) e2) kg u) in
    let ke : e2 ≡ e1 = sym (one_end y u1) in
    one_end w (subst (λ (e : Final). Leads p f e.text (back_to b1 e.end) q) ke (subst (λ b. Leads p f e2.text (back_to b e2.end) q) kb v))

-- what the writer has got, and what a step writes, stand before what follows
pub text_grows : {p : Program} {f : Base} {t : List ℕ} {n : Next} {o : Final} → Leads p f t n o → (rest : List ℕ) × (o.text ≡ t ++ rest)
text_grows {t = t} {o = o} (over {e = e} x y) = ([], ap (λ (w : Final). w.text) y ∙ sym (append-nil t))
text_grows {t = t} (more {d = d} x y) =
    let more = text_grows y in
    (d ++ more.0, more.1 ∙ append_assoc t d more.0)
text_grows (restart x y) = text_grows y
text_grows {t = t} (nest x y z) =
    let inner = text_grows y in
    let outer = text_grows z in
    (inner.0 ++ outer.0, outer.1 ∙ ap (λ w. w ++ outer.0) inner.1 ∙ append_assoc t inner.0 outer.0)

-- a step that goes on leads where the next place leads
pub more_only : {p : Program} {f : Base} {t d : List ℕ} {n : Next} {c : Config} {o : Final} → n ≡ More d c → Leads p f t n o →
    Leads p f (t ++ d) (step p f c) o
more_only e (over x y) = cc
more_only {p = p} {f = f} {t = t} {d = d} {c = c} {o = o} e (more {d = d''} {c = c2} x y) =
    let kd : d'' ≡ d = cc in
    let kc : c2 ≡ c = cc in
    subst (λ d. Leads p f (t ++ d) (step p f c) o) kd (subst (λ c. Leads p f (t ++ d'') (step p f c) o) kc y)
more_only e (restart x y) = cc
more_only e (nest x y z) = cc
