-- A look-up answers as names are found.
use Rattle.std.proofs.Common.{◌≡◌, ◌∙◌, ℕ, List, [], ◌∷◌, Option, Some, None, Ok, Err, Bool, true, false, refl, sym, ap, subst}
use Rattle.std.specs.Prelude.{codes, slice_get, option_and_then, ◌&&◌, if◌then◌else◌}
use Rattle.tm_values.specs.Answer.{Answer}
use Rattle.tm_values.specs.Val.{Val, loop}
use Rattle.tm_meaning.specs.declared.mark.LoopMark.{LoopMark}
use Rattle.tm_meaning.specs.World.{Bindings, View, Scope, find, same_name, marked_loop, read_closure, in_scope, in_frames}
use Rattle.tm_meaning.specs.World.{context_member, or_else, or_on, or_on_answer}
use Rattle.tm_meaning.specs.World.{find_name}
use Rattle.tm_meaning.specs.LookUp.{HasNone, Finds, in_locals, as_loop, in_closure, in_context, refused, outward}
use Rattle.tm_meaning.specs.LookUp.{in_globals, IsNoLoop}

-- ---------------------------------------------------------------- a scope's own names
not_named : (id : ℕ) (m : LoopMark) (variable : Bool) (x : List ℕ) → m.variable ≡ variable →
    (m.variable ≡ true → same_name x (codes "loop") ≡ false) → marked_loop id (Some m) x ≡ None
not_named id m false x e h = rw e refl
not_named id m true x e h = rw (e, h e) refl

no_loop : (id : ℕ) (m : Option LoopMark) (x : List ℕ) →
    ((k : LoopMark) → m ≡ Some k → k.variable ≡ true → same_name x (codes "loop") ≡ false) → marked_loop id m x ≡ None
no_loop id None x h = refl
no_loop id (Some m) x h = not_named id m m.variable x refl (h m refl)

not_read : (closures : List Bindings) (x : List ℕ) (o : Option Bindings) → ((c : Bindings) → o ≡ Some c → find x c ≡ None) →
    option_and_then (find x) o ≡ None
not_read closures x None h = refl
not_read closures x (Some c) h = h c refl

not_enclosed : (closures : List Bindings) (reads : Option ℕ) (x : List ℕ) →
    ((n : ℕ) (c : Bindings) → reads ≡ Some n → slice_get closures n ≡ Some c → find x c ≡ None) → read_closure closures reads x ≡ None
not_enclosed closures None x h = refl
not_enclosed closures (Some n) x h = not_read closures x (slice_get closures n) (λ c e. h n c refl e)

has_none : (view : View) (x : List ℕ) (s : Scope) → HasNone view x s → in_scope view x s ≡ None
has_none view x s h =
    rw (h.locals, no_loop view.records.state s.mark x h.no_loop, not_enclosed view.closures s.reads x h.not_enclosed) refl

-- ---------------------------------------------------------------- scopes
abbrev Answers : View → List ℕ → List Scope → Answer (Option Val) → Type 0
Answers view x ss a = or_on_answer (in_frames view x ss) (λ _. Ok (find x view.globals)) ≡ a

found : (view : View) (x : List ℕ) (ss : List Scope) (a : Answer (Option Val)) → Finds view x ss a → Answers view x ss a
found view x [] _ in_globals = refl
found view x (s ∷ ss) _ (in_locals e) = rw e refl
found view x (s ∷ ss) _ (as_loop e l) = rw (e, l.0, l.1) refl
found view x (s ∷ ss) _ (in_closure e l (n, c, r, g, f)) = rw (e, no_loop view.records.state s.mark x l, r, g, f) refl
found view x (s ∷ ss) _ (in_context h e) = rw (has_none view x s h, e) refl
found view x (s ∷ ss) _ (refused h e) = rw (has_none view x s h, e) refl
found view x (s ∷ ss) a (outward h e r) = rw (has_none view x s h, e) (found view x ss a r)

pub names_are_found : (view : View) (x : List ℕ) (a : Answer (Option Val)) → Finds view x view.frames a → find_name view x ≡ a
names_are_found view x a h = found view x view.frames a h

-- ---------------------------------------------------------------- what a look-up answers is found
unnamed : (variable named : Bool) (v : Val) → (if variable && named then Some v else None) ≡ None → variable ≡ true → named ≡ false
unnamed true true v e h = absurd (cc e)
unnamed true false v e h = refl
unnamed false named v e h = absurd (cc h)

is_no_loop : (id : ℕ) (m : Option LoopMark) (x : List ℕ) → marked_loop id m x ≡ None → (k : LoopMark) → m ≡ Some k → k.variable ≡ true →
    same_name x (codes "loop") ≡ false
is_no_loop id None x e k is v = absurd (cc is)
is_no_loop id (Some m) x e k is v =
    let same : m ≡ k = cc is in
    unnamed m.variable (same_name x (codes "loop")) (loop id m.number) e (ap (λ (l : LoopMark). l.variable) same ∙ v)

is_named : (variable named : Bool) (v u : Val) → (if variable && named then Some v else None) ≡ Some u →
    (variable ≡ true) × (named ≡ true) × (v ≡ u)
is_named true true v u e = (refl, refl, cc e)
is_named true false v u e = absurd (cc e)
is_named false named v u e = absurd (cc e)

is_its_loop : (id : ℕ) (m : Option LoopMark) (x : List ℕ) (v : Val) → marked_loop id m x ≡ Some v →
    (n : ℕ) × (m ≡ Some (record { number = n; variable = true })) × (same_name x (codes "loop") ≡ true) × (loop id n ≡ v)
is_its_loop id None x v e = absurd (cc e)
is_its_loop id (Some m) x v e =
    let is = is_named m.variable (same_name x (codes "loop")) (loop id m.number) v e in
    (m.number, ap (λ b. Some (record m { variable = b })) is.0, is.1, is.2)

enclosed_by : (x : List ℕ) (o : Option Bindings) (v : Val) → option_and_then (find x) o ≡ Some v →
    (c : Bindings) × (o ≡ Some c) × (find x c ≡ Some v)
enclosed_by x None v e = absurd (cc e)
enclosed_by x (Some c) v e = (c, refl, e)

is_enclosed : (closures : List Bindings) (reads : Option ℕ) (x : List ℕ) (v : Val) → read_closure closures reads x ≡ Some v →
    (n : ℕ) × (c : Bindings) × (reads ≡ Some n) × (slice_get closures n ≡ Some c) × (find x c ≡ Some v)
is_enclosed closures None x v e = absurd (cc e)
is_enclosed closures (Some n) x v e =
    let by = enclosed_by x (slice_get closures n) v e in (n, by.0, refl, by.1, by.2)

is_not_enclosed : (closures : List Bindings) (reads : Option ℕ) (x : List ℕ) → read_closure closures reads x ≡ None →
    (n : ℕ) (c : Bindings) → reads ≡ Some n → slice_get closures n ≡ Some c → find x c ≡ None
is_not_enclosed closures None x e n c r g = absurd (cc r)
is_not_enclosed closures (Some k) x e n c r g =
    let same : k ≡ n = cc r in
    sym (ap (option_and_then (find x)) (ap (slice_get closures) same ∙ g)) ∙ e

-- what is answered, by what a scope's parts have
abbrev by_parts : View → List ℕ → List Scope → Option Val → Option Val → Option Val → Answer (Option Val) → Answer (Option Val)
by_parts view x ss locals marked enclosed member =
    or_on_answer (or_on (or_else locals (or_else marked enclosed)) (λ _. or_on_answer member (λ _. in_frames view x ss)))
    (λ _. Ok (find x view.globals))

module _ (view : View) (x : List ℕ) (s : Scope) (ss : List Scope)
    (rest : Finds view x ss (or_on_answer (in_frames view x ss) (λ _. Ok (find x view.globals)))) where
  by_context : (member : Answer (Option Val)) → context_member view.records x s.context ≡ member → HasNone view x s →
      Finds view x (s ∷ ss) (by_parts view x ss None None None member)
  by_context (Ok (Some v)) e h = in_context h e
  by_context (Ok None) e h = outward h e rest
  by_context (Err chain) e h = refused h e

  by_closure : (enclosed : Option Val) → read_closure view.closures s.reads x ≡ enclosed → find x s.locals ≡ None → IsNoLoop x s →
      Finds view x (s ∷ ss) (by_parts view x ss None None enclosed (context_member view.records x s.context))
  by_closure (Some v) e l n = in_closure l n (is_enclosed view.closures s.reads x v e)
  by_closure None e l n =
      by_context (context_member view.records x s.context) refl
      (record { locals = l; no_loop = n; not_enclosed = is_not_enclosed view.closures s.reads x e })

  by_loop : (marked : Option Val) → marked_loop view.records.state s.mark x ≡ marked → find x s.locals ≡ None →
      Finds view x (s ∷ ss) (by_parts view x ss None marked (read_closure view.closures s.reads x)
      (context_member view.records x s.context))
  by_loop (Some v) e l =
      let is = is_its_loop view.records.state s.mark x v e in
      subst (λ u. Finds view x (s ∷ ss) (Ok (Some u))) is.3 (as_loop l (is.1, is.2))
  by_loop None e l =
      by_closure (read_closure view.closures s.reads x) refl l (is_no_loop view.records.state s.mark x e)

  by_locals : (locals : Option Val) → find x s.locals ≡ locals →
      Finds view x (s ∷ ss) (by_parts view x ss locals (marked_loop view.records.state s.mark x)
      (read_closure view.closures s.reads x) (context_member view.records x s.context))
  by_locals (Some v) e = in_locals e
  by_locals None e = by_loop (marked_loop view.records.state s.mark x) refl e

is_found : (view : View) (x : List ℕ) (ss : List Scope) →
    Finds view x ss (or_on_answer (in_frames view x ss) (λ _. Ok (find x view.globals)))
is_found view x [] = in_globals
is_found view x (s ∷ ss) = by_locals view x s ss (is_found view x ss) (find x s.locals) refl

pub answers_are_found : (view : View) (x : List ℕ) (a : Answer (Option Val)) → find_name view x ≡ a → Finds view x view.frames a
answers_are_found view x a e = subst (λ b. Finds view x view.frames b) e (is_found view x view.frames)
