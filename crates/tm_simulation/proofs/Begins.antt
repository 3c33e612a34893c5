-- The loops and the macros of trees in their code, each at its number.
use Rattle.std.proofs.Common.{◌≡◌, ℕ, zero, suc, ◌+◌, ◌⊎◌, List, [], ◌∷◌, ◌++◌, length, Option, Some, None, true, refl}
use Rattle.std.proofs.Common.{sym, ap, subst, ◌∙◌, arith}
use Rattle.std.specs.Prelude.{slice_get}
use Rattle.std.proofs.lemmas.List.{append-nil}
use Rattle.tm_trees.specs.Instructions.{Instruction, LoopFlags, LoopPlace}
use Rattle.tm_trees.specs.Instructions.instructions as i
use Rattle.tm_syntax.specs.declared.jump.JumpKind.{JumpKind}
use Rattle.tm_syntax.specs.declared.jump.JumpKind.TheVariants.{IfFalse}
use Rattle.tm_syntax.specs.Code.{for_flags, target_code, parameters_code, statements_code}
use Rattle.tm_syntax.specs.Loops.{begins, with_place, loop_places, Numbers, within_macro, FoundLoop, FoundMacro}
use Rattle.tm_syntax.specs.Fragments.{Fragment, straight, ◌⨾◌, jump_out, bounded, fork, looped, break_loop, next_round, declares}
use Rattle.tm_syntax.specs.Fragments.{MacroHead, after_body, beyond, Labels, outward, inward, jump, assemble, ending_at, over, either}
use Rattle.tm_syntax.proofs.Standing.{HasAt, At, beyond_is}
use Rattle.tm_simulation.proofs.Counts.{Unbegun, Loopless, plain, jump_none, none_loops, after_loops, none_places}
use Rattle.tm_simulation.proofs.Counts.{one_loop_more, counted, counted_none, Has, it, front, back}
use Rattle.tm_simulation.proofs.Entries.{entered, entered_none, Counts}

-- ---------------------------------------------------------------- lists side by side
-- Two lists are as long, and each item of one stands in a relation to that of the other.
abbrev pub Paired : {A B : Type 0} → (A → B → Type 0) → List A → List B → Type 0
Paired R [] [] = Unit {0}
Paired R [] (y ∷ ys) = ⊥
Paired R (x ∷ xs) [] = ⊥
Paired R (x ∷ xs) (y ∷ ys) = R x y × Paired R xs ys

paired_both : {A B : Type 0} (R : A → B → Type 0) (a b : List A) (p q : List B) → Paired R a p → Paired R b q →
    Paired R (a ++ b) (p ++ q)
paired_both R [] b [] q h k = k
paired_both R [] b (y ∷ p) q h k = absurd h
paired_both R (x ∷ a) b [] q h k = absurd h
paired_both R (x ∷ a) b (y ∷ p) q h k = (h.0, paired_both R a b p q h.1 k)

-- the two of a number
abbrev pub Both : {A B : Type 0} → (A → B → Type 0) → Option A → Option B → Type 0
Both R None None = Unit {0}
Both R (Some x) (Some y) = R x y
Both R None (Some y) = ⊥
Both R (Some x) None = ⊥

pub paired_at : {A B : Type 0} (R : A → B → Type 0) (xs : List A) (ys : List B) (n : ℕ) → Paired R xs ys →
    Both R (slice_get xs n) (slice_get ys n)
paired_at R [] [] n h = tt
paired_at R [] (y ∷ ys) n h = absurd h
paired_at R (x ∷ xs) [] n h = absurd h
paired_at R (x ∷ xs) (y ∷ ys) zero h = h.0
paired_at R (x ∷ xs) (y ∷ ys) (suc n) h = paired_at R xs ys n h.1

-- ---------------------------------------------------------------- places of loops
with_place_front : (o : Option LoopFlags) (pc : ℕ) (a b : List LoopPlace) → with_place o pc (a ++ b) ≡ with_place o pc a ++ b
with_place_front None pc a b = refl
with_place_front (Some g) pc a b = refl

places_both : (pc : ℕ) (a b : List Instruction) → loop_places pc (a ++ b) ≡ loop_places pc a ++ loop_places (pc + length a) b
places_both pc [] b =
    let place : pc ≡ pc + 0 = omega arith in
    ap (λ n. loop_places n b) place
places_both pc (x ∷ a) b =
    let place : pc + 1 + length a ≡ pc + length (x ∷ a) = omega arith in
    ap (with_place (begins x) pc) (places_both (pc + 1) a b) ∙ with_place_front (begins x) pc (loop_places (pc + 1) a)
    (loop_places (pc + 1 + length a) b)
    ∙ ap (λ n. loop_places pc (x ∷ a) ++ loop_places n b) place

places_then : (l : Labels) (pc : ℕ) (c : Fragment) (b : List Instruction) →
    loop_places pc (assemble l pc c ++ b) ≡ loop_places pc (assemble l pc c) ++ loop_places (beyond pc c) b
places_then l pc c b = places_both pc (assemble l pc c) b ∙ ap (λ n. loop_places pc (assemble l pc c) ++ loop_places n b)
    (sym (beyond_is l pc c))

-- ---------------------------------------------------------------- matches
-- Where a loop's code stands that can be called, and what stands after its rounds.
pub record Looped (all : List Instruction) (l : FoundLoop) (place : ℕ) : Type 0 where
  pub labels : Labels
  pub after : Fragment
  pub code : At all labels place (looped (for_flags true) (target_code l.target ⨾ statements_code [] l.body.row) after)
  pub exit : let end = beyond (place + 1 + 1) (target_code l.target ⨾ statements_code [] l.body.row) + 1 in HasAt all end
      (i.PopLoopFrame ∷ []) ⊎ HasAt all end (i.PushDidNotIterate ∷ i.PopLoopFrame ∷ [])
  pub numbered : Counts all l.at (beyond (place + 1 + 1) (target_code l.target)) (statements_code [] l.body.row)

-- A loop of a tree is this one of the code.
abbrev pub IsAt : List Instruction → FoundLoop → LoopPlace → Type 0
IsAt all l p = (p.flags.recursive ≡ l.recursive) × (l.recursive ≡ true → (p.flags ≡ for_flags true) × Looped all l p.place)

-- what a call of a macro runs
abbrev pub body_code : FoundMacro → Fragment
body_code m = parameters_code m.parameters ⨾ statements_code [] m.body.row

-- A macro of a tree is the one that is entered there: its code stands at the place, before a return.
pub record Stands (all : List Instruction) (m : FoundMacro) (place : ℕ) : Type 0 where
  pub code : At all (ending_at (beyond place (body_code m))) place (body_code m)
  pub exit : slice_get all (beyond place (body_code m)) ≡ Some i.Return
  pub numbered : Counts all m.at (beyond place (parameters_code m.parameters)) (statements_code [] m.body.row)

abbrev pub IsEntered : List Instruction → FoundMacro → ℕ × ℕ → Type 0
IsEntered all m e = (e.1 ≡ length m.parameters) × Stands all m e.0

-- ---------------------------------------------------------------- what code begins
-- Wherever this code stands after so many loops and macros, these are its loops and its macros, and so many stand before what follows it.
pub record Begins (at : Numbers) (c : Fragment) (ls : List FoundLoop) (ms : List FoundMacro) (to : Numbers) : Type 0 where
  pub plain_code : Unbegun c
  pub number : counted at c ≡ to
  pub found : (all : List Instruction) (l : Labels) (pc : ℕ) → At all l pc c → Counts all at pc c →
      Paired (IsAt all) ls (loop_places pc (assemble l pc c))
  pub declared : (all : List Instruction) (l : Labels) (pc : ℕ) → At all l pc c → Counts all at pc c →
      Paired (IsEntered all) ms (entered pc c)

-- one, and then the other
pub both_begin : {at m to : Numbers} {c d : Fragment} {ls ks : List FoundLoop} {ms ns : List FoundMacro} → Begins at c ls ms m →
    Begins m d ks ns to → Begins at (c ⨾ d) (ls ++ ks) (ms ++ ns) to
both_begin {c = c} {d = d} {ls = ls} {ks = ks} {ms = ms} {ns = ns} f g = record {
  plain_code = (f.plain_code, g.plain_code);
  number = ap (λ x. counted x d) f.number ∙ g.number;
  found = λ all l pc is n.
      subst (λ ps. Paired (IsAt all) (ls ++ ks) ps) (sym (places_then l pc c (assemble l (beyond pc c) d)))
      (paired_both (IsAt all) ls ks _ _ (f.found all l pc is.0 n.0)
      (g.found all l (beyond pc c) is.1 (subst (λ x. Counts all x (beyond pc c) d) f.number n.1)));
  declared = λ all l pc is n.
      paired_both (IsEntered all) ms ns _ _ (f.declared all l pc is.0 n.0)
      (g.declared all l (beyond pc c) is.1 (subst (λ x. Counts all x (beyond pc c) d) f.number n.1));
}

bounded_begins : {at to : Numbers} {c : Fragment} {ls : List FoundLoop} {ms : List FoundMacro} → Begins at c ls ms to →
    Begins at (bounded c) ls ms to
bounded_begins {c = c} f = record {
  plain_code = f.plain_code;
  number = f.number;
  found = λ all l pc is n. f.found all (outward (beyond pc c) l) pc is n;
  declared = λ all l pc is n. f.declared all (outward (beyond pc c) l) pc is n;
}

fork_begins : {at m to : Numbers} {c d : Fragment} {ls ks : List FoundLoop} {ms ns : List FoundMacro} → Begins at c ls ms m →
    Begins m d ks ns to → Begins at (fork c d) (ls ++ ks) (ms ++ ns) to
fork_begins {c = c} {d = d} {ls = ls} {ks = ks} {ms = ms} {ns = ns} f g = record {
  plain_code = (f.plain_code, g.plain_code);
  number = ap (λ x. counted x d) f.number ∙ g.number;
  found = λ all l pc is n.
      let second = beyond pc c + 1 in
      subst (λ ps. Paired (IsAt all) (ls ++ ks) ps)
      (sym (places_then (outward second l) pc c (i.Jump (beyond second d) ∷ assemble l second d)))
      (paired_both (IsAt all) ls ks _ _ (f.found all (outward second l) pc is.0 n.0)
      (g.found all l second is.2 (subst (λ x. Counts all x second d) f.number n.1)));
  declared = λ all l pc is n.
      let second = beyond pc c + 1 in
      paired_both (IsEntered all) ms ns _ _ (f.declared all (outward second l) pc is.0 n.0)
      (g.declared all l second is.2 (subst (λ x. Counts all x second d) f.number n.1));
}

-- A loop of code is this one of the tree.
abbrev pub IsLoop : FoundLoop → Numbers → LoopFlags → Fragment → Fragment → Type 0
IsLoop f at g c d = (all : List Instruction) (l : Labels) (pc : ℕ) → At all l pc (looped g c d) → Counts all (one_loop_more at) (pc + 1 + 1) c →
    IsAt all f (record { place = pc; flags = g })

pub loop_begins : {at m to : Numbers} {f : FoundLoop} {g : LoopFlags} {c d : Fragment} {ls ks : List FoundLoop} {ms ns : List FoundMacro} →
    IsLoop f at g c d → Begins (one_loop_more at) c ls ms m → Begins m d ks ns to →
    Begins at (looped g c d) (f ∷ (ls ++ ks)) (ms ++ ns) to
loop_begins {f = f} {g = g} {c = c} {d = d} {ls = ls} {ks = ks} {ms = ms} {ns = ns} one r s = record {
  plain_code = (r.plain_code, s.plain_code);
  number = ap (λ x. counted x d) r.number ∙ s.number;
  found = λ all l pc is n.
      let end = beyond (pc + 1 + 1) c + 1 in
      let k = inward (pc + 1) end l in (
        one all l pc is n.1,
        subst (λ ps. Paired (IsAt all) (ls ++ ks) ps) (sym (places_then k (pc + 1 + 1) c (i.Jump (pc + 1) ∷ assemble l end d)))
            (paired_both (IsAt all) ls ks _ _ (r.found all k (pc + 1 + 1) is.2 n.1)
            (s.found all l end is.4 (subst (λ x. Counts all x end d) r.number n.2))),
      );
  declared = λ all l pc is n.
      let end = beyond (pc + 1 + 1) c + 1 in
      let k = inward (pc + 1) end l in
      paired_both (IsEntered all) ms ns _ _ (r.declared all k (pc + 1 + 1) is.2 n.1)
      (s.declared all l end is.4 (subst (λ x. Counts all x end d) r.number n.2));
}

-- A macro of code is this one of the tree.
abbrev pub IsMacro : FoundMacro → Numbers → MacroHead → Fragment → Type 0
IsMacro f at m c = (all : List Instruction) (pc : ℕ) → At all (ending_at (beyond (pc + 1) c)) (pc + 1) c →
    slice_get all (beyond (pc + 1) c) ≡ Some i.Return → Counts all (within_macro at) (pc + 1) c →
    IsEntered all f (pc + 1, length m.parameters)

pub macro_begins : {at to : Numbers} {f : FoundMacro} {m : MacroHead} {c : Fragment} {ls : List FoundLoop} {ms : List FoundMacro} →
    IsMacro f at m c → Begins (within_macro at) c ls ms to → Begins at (declares m c) ls (f ∷ ms) to
macro_begins {m = m} {c = c} {ls = ls} one r = record {
  plain_code = r.plain_code;
  number = r.number;
  found = λ all l pc is n.
      let end = beyond (pc + 1) c in
      let none = none_places end (after_body m (pc + 1)) (after_loops m (pc + 1)) in
      subst (λ ps. Paired (IsAt all) ls ps)
      (sym (places_then (ending_at end) (pc + 1) c (after_body m (pc + 1))
      ∙ ap (λ ps. loop_places (pc + 1) (assemble (ending_at end) (pc + 1) c) ++ ps) none ∙ append-nil _))
      (r.found all (ending_at end) (pc + 1) is.1 n.1);
  declared = λ all l pc is n.
      let end = beyond (pc + 1) c in
      (one all pc is.1 is.2.0 n.1, r.declared all (ending_at end) (pc + 1) is.1 n.1);
}

-- ---------------------------------------------------------------- code that begins none
none_found : (l : Labels) (pc : ℕ) (c : Fragment) → Loopless c → loop_places pc (assemble l pc c) ≡ []
none_found l pc (straight is) n = none_places pc is (none_loops is n)
none_found l pc (c ⨾ d) n =
    places_then l pc c (assemble l (beyond pc c) d) ∙ ap (λ ps. ps ++ loop_places (beyond pc c) (assemble l (beyond pc c) d))
    (none_found l pc c n.0) ∙ none_found l (beyond pc c) d n.1
none_found l pc (jump_out j) n = none_places pc (jump j l.out ∷ []) (none_loops (jump j l.out ∷ []) (jump_none j l.out, tt))
none_found l pc (bounded c) n = none_found (outward (beyond pc c) l) pc c n
none_found l pc (fork c d) n =
    let second = beyond pc c + 1 in
    places_then (outward second l) pc c (i.Jump (beyond second d) ∷ assemble l second d)
    ∙ ap (λ ps. ps ++ loop_places second (assemble l second d)) (none_found (outward second l) pc c n.0) ∙ none_found l second d n.1
none_found l pc (looped g c d) n = absurd n
none_found l pc break_loop n = refl
none_found l pc next_round n = refl
none_found l pc (declares m c) n = absurd n

pub none_begin : (at : Numbers) (c : Fragment) → Loopless c → Begins at c [] [] at
none_begin at c n = record {
  plain_code = plain c n;
  number = counted_none at c n;
  found = λ all l pc is k. subst (λ ps. Paired (IsAt all) [] ps) (sym (none_found l pc c n)) tt;
  declared = λ all l pc is k. subst (λ es. Paired (IsEntered all) [] es) (sym (entered_none pc c n)) tt;
}

-- a jump over code
pub over_begins : {at to : Numbers} {c : Fragment} {ls : List FoundLoop} {ms : List FoundMacro} (j : JumpKind) → Begins at c ls ms to →
    Begins at (over j c) ls ms to
over_begins {at = at} j f = bounded_begins (both_begin (none_begin at (jump_out j) tt) f)

-- either of two
pub either_begins : {at m to : Numbers} {c d : Fragment} {ls ks : List FoundLoop} {ms ns : List FoundMacro} → Begins at c ls ms m →
    Begins m d ks ns to → Begins at (either c d) (ls ++ ks) (ms ++ ns) to
either_begins {at = at} f g = fork_begins (both_begin (none_begin at (jump_out IfFalse) tt) f) g

-- after and before code that begins none
pub after_none : {at to : Numbers} {d : Fragment} {ls : List FoundLoop} {ms : List FoundMacro} (c : Fragment) → Loopless c →
    Begins at d ls ms to → Begins at (c ⨾ d) ls ms to
after_none {at = at} c n g = both_begin (none_begin at c n) g

pub before_none : {at to : Numbers} {c : Fragment} {ls : List FoundLoop} {ms : List FoundMacro} (d : Fragment) → Loopless d →
    Begins at c ls ms to → Begins at (c ⨾ d) ls ms to
before_none {at = at} {to = to} {c = c} {ls = ls} {ms = ms} d n f =
    subst (λ ks. Begins at (c ⨾ d) ks ms to) (append-nil ls)
    (subst (λ ns. Begins at (c ⨾ d) (ls ++ []) ns to) (append-nil ms) (both_begin f (none_begin to d n)))

-- code whose one part begins these
pub one_part_begins : {at to : Numbers} {x c : Fragment} {ls : List FoundLoop} {ms : List FoundMacro} → Has x c → Begins at x ls ms to →
    Begins at c ls ms to
one_part_begins it f = f
one_part_begins (front {d = d} one none) f = before_none d none (one_part_begins one f)
one_part_begins (back {c = c} none one) f = after_none c none (one_part_begins one f)
