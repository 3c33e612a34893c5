-- What results tell.
use Rattle.std.proofs.Common.{◌≡◌, ◌∙◌, ◌≤◌, ◌-◌, ℕ, zero, suc, List, [], ◌∷◌, Bool, true, false, ◌&&◌, ◌||◌, Result, Ok, Err, IfErr, OnOk, refl, sym, ap, subst, arith}
use Rattle.std.proofs.Common.{length, take, drop, get_or}
use Rattle.std.specs.Result.{IsErrAnd}
use Rattle.tm_trees.specs.Instructions.{Instruction}
use Rattle.tm_shapes.specs.Accepts.{all_seeds, entry_seeds, start_seed}
use Rattle.tm_shapes.specs.Shapes.{entry_shape}
use Rattle.tm_shapes.specs.Searched.{seed_of, seeds_of}
use Rattle.tm_shapes.specs.declared.search.Seed.{Seed}

module _ {A E : Type 0} where
  -- what holds of a fault holds of what passes it on
  pub passed : (r : Result A E) (e : E) (P : E → Type 0) → IsErrAnd r (λ x. x ≡ e) → P e → IfErr r P
  passed (Ok a) e P is h = tt
  passed (Err x) e P is h = subst P (sym is) h

  pub if_err : (r : Result A E) (P Q : E → Type 0) → IfErr r P → ((e : E) → P e → Q e) → IfErr r Q
  if_err (Ok a) P Q h k = tt
  if_err (Err e) P Q h k = k e h

  pub on_ok : (r : Result A E) (X Y : Type 0) → OnOk r X → (X → Y) → OnOk r Y
  on_ok (Ok a) X Y h k = k h
  on_ok (Err e) X Y h k = tt

pub second_false : (a b : Bool) → b ≡ false → (a && b) ≡ false
second_false true b e = e
second_false false b e = refl

pub first_false : (a b : Bool) → a ≡ false → (a && b) ≡ false
first_false a b e = ap (λ x. x && b) e

pub both_true : (a b : Bool) → a ≡ true → b ≡ true → (a && b) ≡ true
both_true a b e f = rw (e, f) refl

-- the first of all places where runs begin is the start, and the others are the entries
pub first_seed : (seeds : List Seed) (code : List Instruction) (d : Seed) → seeds_of seeds ≡ all_seeds code →
    ((get_or seeds 0 d).place, entry_shape (get_or seeds 0 d).values) ∷ [] ≡ start_seed
first_seed [] code d e = absurd (cc e)
first_seed (s ∷ seeds) code d e = ap (λ x. x ∷ []) (cc e)

take_whole : {A : Type 0} (xs : List A) (n : ℕ) → n ≡ length xs → take n xs ≡ xs
take_whole [] zero e = refl
take_whole [] (suc n) e = refl
take_whole (x ∷ xs) zero e = absurd (cc e)
take_whole (x ∷ xs) (suc n) e = ap (λ ys. x ∷ ys) (take_whole xs n (cc e))

pub other_seeds : (seeds : List Seed) (code : List Instruction) → seeds_of seeds ≡ all_seeds code →
    seeds_of (take (length seeds - 1) (drop 1 seeds)) ≡ entry_seeds code
other_seeds [] code e = absurd (cc e)
other_seeds (s ∷ seeds) code e =
    let long : length (s ∷ seeds) - 1 ≡ length seeds = omega arith in
    ap seeds_of (take_whole seeds (length (s ∷ seeds) - 1) long) ∙ cc e

pub second_true : (a b : Bool) → b ≡ true → (a || b) ≡ true
second_true true b e = refl
second_true false b e = e
