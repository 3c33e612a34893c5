-- How many loops and macros stand before each part of code, and where its macros are entered.
use Rattle.std.proofs.Common.{◌≡◌, ℕ, zero, suc, ◌+◌, List, [], ◌∷◌, Option, Some, None, Bool, true, false, refl}
use Rattle.std.proofs.Common.{ap, ◌∙◌, arith}
use Rattle.std.specs.Prelude.{slice_get}
use Rattle.tm_trees.specs.Instructions.{Instruction, LoopFlags}
use Rattle.tm_trees.specs.Instructions.instructions as i
use Rattle.tm_syntax.specs.declared.jump.JumpKind.{JumpKind}
use Rattle.tm_syntax.specs.declared.jump.JumpKind.TheVariants.{IfFalse, IfFalseOrPop, IfTrueOrPop}
use Rattle.tm_syntax.specs.Loops.{begins, with_place, one_more_loop, loops_before, loop_places, Numbers, within_macro}
use Rattle.tm_syntax.specs.Fragments.{Fragment, straight, ◌⨾◌, jump_out, bounded, fork, looped, break_loop, next_round, declares}
use Rattle.tm_syntax.specs.Fragments.{MacroHead, building, after_body, beyond_all, beyond, Labels, outward, inward, jump}
use Rattle.tm_syntax.specs.Fragments.{assemble, ending_at}
use Rattle.tm_syntax.proofs.Standing.{HasAt, At, AtWhere}
use Rattle.tm_simulation.specs.Uncached.{is_uncached, AllUncached}
use Rattle.tm_simulation.proofs.Numbered.{both_uncached}

-- ---------------------------------------------------------------- code that begins none
abbrev pub builds : Instruction → Bool
builds (i.BuildMacro x place caller) = true
builds x = false

-- whether an instruction begins no loop and builds no macro, and no name of its has a cache
abbrev pub is_simple : Instruction → Bool
is_simple (i.PushLoop _) = false
is_simple (i.BuildMacro _ _ _) = false
is_simple x = is_uncached x

simple_begins : (x : Instruction) → is_simple x ≡ true → begins x ≡ None
simple_begins (i.PushLoop _) e = absurd (cc e)
simple_begins _ e = refl

simple_uncached : (x : Instruction) → is_simple x ≡ true → is_uncached x ≡ true
simple_uncached (i.PushLoop _) e = refl
simple_uncached (i.ApplyFilter x n cache) e = e
simple_uncached (i.PerformTest x n cache) e = e
simple_uncached (i.BuildMacro x place caller) e = refl
simple_uncached _ e = refl

pub simple_builds : (x : Instruction) → is_simple x ≡ true → builds x ≡ false
simple_builds (i.BuildMacro x place caller) e = absurd (cc e)
simple_builds _ e = refl

abbrev pub NoneBegins : List Instruction → Type 0
NoneBegins [] = Unit {0}
NoneBegins (x ∷ is) = (is_simple x ≡ true) × NoneBegins is

-- code whose loops and macros are its own parts
abbrev pub Unbegun : Fragment → Type 0
Unbegun (straight is) = NoneBegins is
Unbegun (c ⨾ d) = Unbegun c × Unbegun d
Unbegun (jump_out j) = Unit {0}
Unbegun (bounded c) = Unbegun c
Unbegun (fork c d) = Unbegun c × Unbegun d
Unbegun (looped g c d) = Unbegun c × Unbegun d
Unbegun break_loop = Unit {0}
Unbegun next_round = Unit {0}
Unbegun (declares m c) = Unbegun c

-- and code that has none
abbrev pub Loopless : Fragment → Type 0
Loopless (straight is) = NoneBegins is
Loopless (c ⨾ d) = Loopless c × Loopless d
Loopless (jump_out j) = Unit {0}
Loopless (bounded c) = Loopless c
Loopless (fork c d) = Loopless c × Loopless d
Loopless (looped g c d) = ⊥
Loopless break_loop = Unit {0}
Loopless next_round = Unit {0}
Loopless (declares m c) = ⊥

pub plain : (c : Fragment) → Loopless c → Unbegun c
plain (straight is) h = h
plain (c ⨾ d) h = (plain c h.0, plain d h.1)
plain (jump_out j) h = tt
plain (bounded c) h = plain c h
plain (fork c d) h = (plain c h.0, plain d h.1)
plain (looped g c d) h = absurd h
plain break_loop h = tt
plain next_round h = tt
plain (declares m c) h = absurd h

pub jump_none : (j : JumpKind) (to : ℕ) → is_simple (jump j to) ≡ true
jump_none IfFalse to = refl
jump_none IfFalseOrPop to = refl
jump_none IfTrueOrPop to = refl

-- In code that has no macro nothing is marked.
pub marked_so : (marks : ℕ → Bool) (all : List Instruction) (l : Labels) (pc : ℕ) (c : Fragment) → Loopless c → At all l pc c →
    AtWhere marks all l pc c
marked_so marks all l pc (straight is) n h = h
marked_so marks all l pc (c ⨾ d) n h = (marked_so marks all l pc c n.0 h.0, marked_so marks all l (beyond pc c) d n.1 h.1)
marked_so marks all l pc (jump_out j) n h = h
marked_so marks all l pc (bounded c) n h = marked_so marks all (outward (beyond pc c) l) pc c n h
marked_so marks all l pc (fork c d) n h =
    (marked_so marks all (outward (beyond pc c + 1) l) pc c n.0 h.0, h.1, marked_so marks all l (beyond pc c + 1) d n.1 h.2)
marked_so marks all l pc (looped g c d) n h = absurd n
marked_so marks all l pc break_loop n h = h
marked_so marks all l pc next_round n h = h
marked_so marks all l pc (declares m c) n h = absurd n

pub unmarked : (marks : ℕ → Bool) (all : List Instruction) (l : Labels) (pc : ℕ) (c : Fragment) → Loopless c →
    AtWhere marks all l pc c → At all l pc c
unmarked marks all l pc (straight is) n h = h
unmarked marks all l pc (c ⨾ d) n h = (unmarked marks all l pc c n.0 h.0, unmarked marks all l (beyond pc c) d n.1 h.1)
unmarked marks all l pc (jump_out j) n h = h
unmarked marks all l pc (bounded c) n h = unmarked marks all (outward (beyond pc c) l) pc c n h
unmarked marks all l pc (fork c d) n h =
    (unmarked marks all (outward (beyond pc c + 1) l) pc c n.0 h.0, h.1, unmarked marks all l (beyond pc c + 1) d n.1 h.2)
unmarked marks all l pc (looped g c d) n h = absurd n
unmarked marks all l pc break_loop n h = h
unmarked marks all l pc next_round n h = h
unmarked marks all l pc (declares m c) n h = absurd n

-- A part of code, the rest of which has neither loops nor macros.
pub data Has (x : Fragment) : Fragment → Type 0 where
  it : Has x x
  front : {c d : Fragment} → Has x c → Loopless d → Has x (c ⨾ d)
  back : {c d : Fragment} → Loopless c → Has x d → Has x (c ⨾ d)

-- ---------------------------------------------------------------- no name has a cache
none_cached : (is : List Instruction) → NoneBegins is → AllUncached is
none_cached [] n = tt
none_cached (x ∷ is) n = (simple_uncached x n.0, none_cached is n.1)

building_uncached : (xs : List (List ℕ)) (m : MacroHead) (place : ℕ) → AllUncached (building xs m place)
building_uncached [] m place = (refl, (refl, (refl, tt)))
building_uncached (x ∷ xs) m place = (refl, building_uncached xs m place)

pub plain_uncached : (l : Labels) (pc : ℕ) (c : Fragment) → Unbegun c → AllUncached (assemble l pc c)
plain_uncached l pc (straight is) h = none_cached is h
plain_uncached l pc (c ⨾ d) h =
    both_uncached (assemble l pc c) (assemble l (beyond pc c) d) (plain_uncached l pc c h.0) (plain_uncached l (beyond pc c) d h.1)
plain_uncached l pc (jump_out j) h = (simple_uncached (jump j l.out) (jump_none j l.out), tt)
plain_uncached l pc (bounded c) h = plain_uncached (outward (beyond pc c) l) pc c h
plain_uncached l pc (fork c d) h =
    let second = beyond pc c + 1 in
    both_uncached (assemble (outward second l) pc c) (i.Jump (beyond second d) ∷ assemble l second d)
    (plain_uncached (outward second l) pc c h.0) (refl, plain_uncached l second d h.1)
plain_uncached l pc (looped g c d) h =
    let end = beyond (pc + 1 + 1) c + 1 in
    let k = inward (pc + 1) end l in (
      refl,
      (
        refl,
        both_uncached (assemble k (pc + 1 + 1) c) (i.Jump (pc + 1) ∷ assemble l end d)
            (plain_uncached k (pc + 1 + 1) c h.0) (refl, plain_uncached l end d h.1),
      ),
    )
plain_uncached l pc break_loop h = (refl, tt)
plain_uncached l pc next_round h = (refl, tt)
plain_uncached l pc (declares m c) h =
    let k = ending_at (beyond (pc + 1) c) in (
      refl,
      both_uncached (assemble k (pc + 1) c) (after_body m (pc + 1)) (plain_uncached k (pc + 1) c h)
          (refl, building_uncached m.free m (pc + 1)),
    )

-- ---------------------------------------------------------------- loops before a place
one_more_out : (o : Option LoopFlags) (g : Option LoopFlags) (n : ℕ) → one_more_loop o (one_more_loop g n) ≡ one_more_loop g
    (one_more_loop o n)
one_more_out None g n = refl
one_more_out (Some a) None n = refl
one_more_out (Some a) (Some b) n = refl

pub after_one : (pc : ℕ) (all : List Instruction) (x : Instruction) → slice_get all pc ≡ Some x →
    loops_before (pc + 1) all ≡ one_more_loop (begins x) (loops_before pc all)
after_one zero [] x e = absurd (cc e)
after_one zero (y ∷ all) x e = let same : y ≡ x = cc e in ap (λ z. one_more_loop (begins z) 0) same
after_one (suc pc) [] x e = absurd (cc e)
after_one (suc pc) (y ∷ all) x e =
    let place : suc pc + 1 ≡ suc (pc + 1) = omega arith in
    ap (λ n. loops_before n (y ∷ all)) place ∙ ap (one_more_loop (begins y)) (after_one pc all x e) ∙ one_more_out (begins y) (begins x)
    (loops_before pc all)

-- instructions that begin no loop
abbrev pub NoLoops : List Instruction → Type 0
NoLoops [] = Unit {0}
NoLoops (x ∷ is) = (begins x ≡ None) × NoLoops is

pub none_loops : (is : List Instruction) → NoneBegins is → NoLoops is
none_loops [] n = tt
none_loops (x ∷ is) n = (simple_begins x n.0, none_loops is n.1)

building_loops : (xs : List (List ℕ)) (m : MacroHead) (place : ℕ) → NoLoops (building xs m place)
building_loops [] m place = (refl, (refl, (refl, tt)))
building_loops (x ∷ xs) m place = (refl, building_loops xs m place)

pub after_loops : (m : MacroHead) (place : ℕ) → NoLoops (after_body m place)
after_loops m place = (refl, building_loops m.free m place)

pub one_begins : (all : List Instruction) (pc at : ℕ) (x : Instruction) → begins x ≡ None → slice_get all pc ≡ Some x →
    loops_before pc all ≡ at → loops_before (pc + 1) all ≡ at
one_begins all pc at x none is e = after_one pc all x is ∙ ap (λ o. one_more_loop o (loops_before pc all)) none ∙ e

loops_kept : (all : List Instruction) (pc at : ℕ) (is : List Instruction) → NoLoops is → HasAt all pc is → loops_before pc all ≡ at →
    loops_before (beyond_all pc is) all ≡ at
loops_kept all pc at [] n h e = e
loops_kept all pc at (x ∷ is) n h e = loops_kept all (pc + 1) at is n.1 h.1 (one_begins all pc at x n.0 h.0 e)

pub none_places : (pc : ℕ) (is : List Instruction) → NoLoops is → loop_places pc is ≡ []
none_places pc [] n = refl
none_places pc (x ∷ is) n = ap (λ o. with_place o pc (loop_places (pc + 1) is)) n.0 ∙ none_places (pc + 1) is n.1

-- ---------------------------------------------------------------- what stands before what follows code
abbrev pub one_loop_more : Numbers → Numbers
one_loop_more at = record at { loops = at.loops + 1 }

abbrev pub counted : Numbers → Fragment → Numbers
counted at (straight is) = at
counted at (c ⨾ d) = counted (counted at c) d
counted at (jump_out j) = at
counted at (bounded c) = counted at c
counted at (fork c d) = counted (counted at c) d
counted at (looped g c d) = counted (counted (one_loop_more at) c) d
counted at break_loop = at
counted at next_round = at
counted at (declares m c) = counted (within_macro at) c

pub counted_none : (at : Numbers) (c : Fragment) → Loopless c → counted at c ≡ at
counted_none at (straight is) h = refl
counted_none at (c ⨾ d) h = counted_none (counted at c) d h.1 ∙ counted_none at c h.0
counted_none at (jump_out j) h = refl
counted_none at (bounded c) h = counted_none at c h
counted_none at (fork c d) h = counted_none (counted at c) d h.1 ∙ counted_none at c h.0
counted_none at (looped g c d) h = absurd h
counted_none at break_loop h = refl
counted_none at next_round h = refl
counted_none at (declares m c) h = absurd h

pub loops_counted : (all : List Instruction) (l : Labels) (at : Numbers) (pc : ℕ) (c : Fragment) → At all l pc c → Unbegun c →
    loops_before pc all ≡ at.loops → loops_before (beyond pc c) all ≡ (counted at c).loops
loops_counted all l at pc (straight is) h p e = loops_kept all pc at.loops is (none_loops is p) h e
loops_counted all l at pc (c ⨾ d) h p e =
    loops_counted all l (counted at c) (beyond pc c) d h.1 p.1 (loops_counted all l at pc c h.0 p.0 e)
loops_counted all l at pc (jump_out j) h p e =
    one_begins all pc at.loops (jump j l.out) (simple_begins (jump j l.out) (jump_none j l.out)) h e
loops_counted all l at pc (bounded c) h p e = loops_counted all (outward (beyond pc c) l) at pc c h p e
loops_counted all l at pc (fork c d) h p e =
    let second = beyond pc c + 1 in
    loops_counted all l (counted at c) second d h.2 p.1
    (one_begins all (beyond pc c) (counted at c).loops (i.Jump (beyond second d)) refl h.1
    (loops_counted all (outward second l) at pc c h.0 p.0 e))
loops_counted all l at pc (looped g c d) h p e =
    let end = beyond (pc + 1 + 1) c + 1 in
    let k = inward (pc + 1) end l in
    let first = after_one (pc + 1) all (i.Iterate end) h.1 ∙ after_one pc all (i.PushLoop g) h.0 ∙ ap (λ n. n + 1) e in
    loops_counted all l (counted (one_loop_more at) c) end d h.4 p.1
    (one_begins all (beyond (pc + 1 + 1) c) (counted (one_loop_more at) c).loops (i.Jump (pc + 1)) refl h.3
    (loops_counted all k (one_loop_more at) (pc + 1 + 1) c h.2 p.0 first))
loops_counted all l at pc break_loop h p e = one_begins all pc at.loops (i.Jump l.after) refl h e
loops_counted all l at pc next_round h p e = one_begins all pc at.loops (i.Jump l.again) refl h e
loops_counted all l at pc (declares m c) h p e =
    let end = beyond (pc + 1) c in
    loops_kept all end (counted (within_macro at) c).loops (after_body m (pc + 1)) (after_loops m (pc + 1)) h.2
    (loops_counted all (ending_at end) (within_macro at) (pc + 1) c h.1 p
    (one_begins all pc at.loops (i.Jump (end + 1)) refl h.0 e))
