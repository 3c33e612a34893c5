-- A run does the same whatever the writer has got before it.
use Rattle.std.proofs.Common.{◌≡◌, List, ℕ, ◌++◌, [], refl, ap, sym, ◌∙◌, subst, append_assoc}
use Rattle.std.proofs.lemmas.List.{append-nil}
use Rattle.tm_meaning.specs.Machine.{Config, Next, More, Restart, Nest, Back, Program, back_to}
use Rattle.tm_meaning.specs.Steps.{step, Final, Leads, over, more, restart, nest}
use Rattle.tm_meaning.specs.declared.base.Base.{Base}

-- the same end, after a text
abbrev pub after : List ℕ → Final → Final
after s o = record { text = s ++ o.text; end = o.end }

after_after : (s t : List ℕ) (o : Final) → after s (after t o) ≡ after (s ++ t) o
after_after s t o = ap (λ x. record { text = x; end = o.end }) (sym (append_assoc s t o.text))

-- with more text before it
pub shift : {p : Program} {f : Base} {t : List ℕ} {n : Next} {o : Final} → (s : List ℕ) → Leads p f t n o →
    Leads p f (s ++ t) n (after s o)
shift s (over e q) = over e (ap (after s) q)
shift {p = p} {f = f} {t = t} {o = o} s (more {d = d} {c = c} e l) =
    more e (subst (λ u. Leads p f u (step p f c) (after s o)) (sym (append_assoc s t d)) (shift s l))
shift s (restart e l) = restart e (shift s l)
shift s (nest e l r) = nest e (shift s l) (shift s r)

-- A run after a text, as the run by itself.
pub record Alone (p : Program) (f : Base) (t : List ℕ) (n : Next) (o : Final) : Type 0 where
  pub end : Final
  pub leads : Leads p f [] n end
  pub same : o ≡ after t end

-- a run that goes on, by itself
alone_more : {p : Program} {f : Base} {t d : List ℕ} {n : Next} {c : Config} {o : Final} → n ≡ More d c
    → Alone p f (t ++ d) (step p f c) o → Alone p f t n o
alone_more {p = p} {f = f} {t = t} {d = d} {c = c} e a = record {
  end = after d a.end;
  leads = more e (subst (λ u. Leads p f u (step p f c) (after d a.end)) (append-nil d) (shift d a.leads));
  same = a.same ∙ sym (after_after t d a.end);
}

-- a run that restarts, by itself
alone_restart : {p : Program} {f : Base} {t : List ℕ} {n : Next} {c : Config} {o : Final} → n ≡ Restart c
    → Alone p f t (step p f c) o → Alone p f t n o
alone_restart e a = record { end = a.end; leads = restart e a.leads; same = a.same }

-- a run after another, by itself
alone_nest : {p : Program} {f g : Base} {t : List ℕ} {n : Next} {c : Config} {back : Back} {e o : Final}
    → n ≡ Nest g c back → (a : Alone p g t (step p g c) e) → Alone p f e.text (back_to back e.end) o → Alone p f t n o
alone_nest {p = p} {f = f} {t = t} {back = back} {e = e} {o = o} at a b =
    let same_text : e.text ≡ t ++ a.end.text = ap (λ (x : Final). x.text) a.same in
    let same_end : e.end ≡ a.end.end = ap (λ (x : Final). x.end) a.same in
    record {
      end = after a.end.text b.end;
      leads = nest at a.leads
          (subst (λ u. Leads p f u (back_to back a.end.end) (after a.end.text b.end)) (append-nil a.end.text)
          (shift a.end.text (subst (λ x. Leads p f [] (back_to back x) b.end) same_end b.leads)));
      same = b.same ∙ ap (λ u. after u b.end) same_text ∙ sym (after_after t a.end.text b.end);
    }

pub alone : {p : Program} {f : Base} {t : List ℕ} {n : Next} {o : Final} → Leads p f t n o → Alone p f t n o
alone {t = t} (over {e = x} e q) =
    record {
      end = record { text = []; end = x };
      leads = over e refl;
      same = q
          ∙ ap (λ u. record { text = u; end = x }) (sym (append-nil t));
    }
alone (more e l) = alone_more e (alone l)
alone (restart e l) = alone_restart e (alone l)
alone (nest e l r) = alone_nest e (alone l) (alone r)

-- from a step on, after a text
pub after_text : {p : Program} {f : Base} {n : Next} {o : Final} (t : List ℕ) → Leads p f [] n o → Leads p f t n (after t o)
after_text {p = p} {f = f} {n = n} {o = o} t l = subst (λ u. Leads p f u n (after t o)) (append-nil t) (shift t l)
