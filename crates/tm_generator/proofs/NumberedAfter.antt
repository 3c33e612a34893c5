-- Code whose names are numbered one after the other.
use Rattle.std.proofs.Common.{◌≡◌, ℕ, zero, suc, ◌+◌, ◌≤◌, List, [], ◌∷◌, length, Option, None, Some, refl, sym, ap, ◌∙◌, arith}
use Rattle.std.proofs.Common.{◌<◌, subst, get_or, length-set}
use Rattle.std.proofs.lemmas.Option.{slice_get_read}
use Rattle.std.specs.Prelude.{slice_get, slice_set}
use Rattle.tm_syntax.specs.CacheNumbers.{numbered_from}
use Rattle.tm_trees.specs.Instructions.{Instruction}
use Rattle.tm_generator.specs.Caches.{IsNumberedOne}
use Rattle.tm_generator.specs.declared.caches.CacheNames.{CacheNames}

-- numbers the instructions from a place on; those before it are numbered already
abbrev pub numbered_after : ℕ → List (List ℕ) → List (List ℕ) → List Instruction → List Instruction
numbered_after zero fs ts is = numbered_from fs ts is
numbered_after (suc n) fs ts [] = []
numbered_after (suc n) fs ts (x ∷ is) = x ∷ numbered_after n fs ts is

pub one_set : (n : ℕ) (is : List Instruction) (x y : Instruction) (old new : CacheNames) → slice_get is n ≡ Some x →
    IsNumberedOne old new x (Some y) →
    numbered_after (n + 1) new.filters new.tests (slice_set is n y) ≡ numbered_after n old.filters old.tests is
one_set n [] x y old new at is = absurd (cc at)
one_set zero (z ∷ more) x y old new at is =
    let same : x ≡ z = cc at in
    sym (is more) ∙ ap (λ o. numbered_from old.filters old.tests (o ∷ more)) same
one_set (suc n) (z ∷ more) x y old new at is =
    let next : suc n + 1 ≡ suc (n + 1) = omega arith in
    ap (λ m. numbered_after m new.filters new.tests (z ∷ slice_set more n y)) next
    ∙ ap (λ l. z ∷ l) (one_set n more x y old new at is)

pub one_kept : (n : ℕ) (is : List Instruction) (x : Instruction) (old new : CacheNames) → slice_get is n ≡ Some x →
    IsNumberedOne old new x None →
    numbered_after (n + 1) new.filters new.tests is ≡ numbered_after n old.filters old.tests is
one_kept n [] x old new at is = absurd (cc at)
one_kept zero (z ∷ more) x old new at is =
    let same : z ≡ x = cc at in
    ap (λ o. o ∷ numbered_from new.filters new.tests more) same ∙ sym (is more)
    ∙ ap (λ o. numbered_from old.filters old.tests (o ∷ more)) (sym same)
one_kept (suc n) (z ∷ more) x old new at is =
    let next : suc n + 1 ≡ suc (n + 1) = omega arith in
    ap (λ m. numbered_after m new.filters new.tests (z ∷ more)) next ∙ ap (λ l. z ∷ l) (one_kept n more x old new at is)

pub all_numbered : (n : ℕ) (fs ts : List (List ℕ)) (is : List Instruction) → length is ≤ n → numbered_after n fs ts is ≡ is
all_numbered zero fs ts [] past = refl
all_numbered zero fs ts (x ∷ is) past = absurd (omega (arith, past))
all_numbered (suc n) fs ts [] past = refl
all_numbered (suc n) fs ts (x ∷ is) past = ap (λ l. x ∷ l) (all_numbered n fs ts is (omega (arith, past)))

-- the code with a new instruction at a place, if there is one
abbrev pub placed : Option Instruction → ℕ → List Instruction → List Instruction
placed (Some y) n is = slice_set is n y
placed None n is = is

-- The invariant of the loop over code holds after one more instruction.
pub goes_on : (n : ℕ) (is js goal : List Instruction) (x : Instruction) (old new : CacheNames) (made : Option Instruction) → n < length is →
    x ≡ get_or is n x → IsNumberedOne old new x made → js ≡ placed made n is →
    numbered_after n old.filters old.tests is ≡ goal →
    (n + 1 ≤ length js) × (numbered_after (n + 1) new.filters new.tests js ≡ goal)
goes_on n is js goal x old new None within read one put before =
    let at = slice_get_read is (length is) n x refl within read in (
      subst (λ l. n + 1 ≤ length l) (sym put) (omega (arith, within)),
      ap (λ l. numbered_after (n + 1) new.filters new.tests l) put ∙ one_kept n is x old new at one ∙ before,
    )
goes_on n is js goal x old new (Some y) within read one put before =
    let at = slice_get_read is (length is) n x refl within read in (
      subst (λ l. n + 1 ≤ length l) (sym put) (omega (arith, within, length-set is n y)),
      ap (λ l. numbered_after (n + 1) new.filters new.tests l) put ∙ one_set n is x y old new at one ∙ before,
    )
