-- Marks of places.
use Rattle.std.proofs.Common.{◌≡◌, ◌<◌, ◌≤◌, ℕ, zero, suc, ◌||◌, List, [], ◌∷◌, length, Bool, true, false, nat_eq, ◌+◌, Option, None, Some, refl, arith, replicate, slice_set}
use Rattle.std.proofs.lemmas.Bool.Decides.{nat_tests}
use Rattle.tm_shapes.specs.Marks.{is_among, with_mark}
use Rattle.tm_shapes.specs.Placed.{is_at, is_within}
use Rattle.tm_shapes.specs.Sites.{is_marked}

pub none_marked : (k n : ℕ) → is_marked (replicate k false) n ≡ false
none_marked zero n = refl
none_marked (suc k) zero = refl
none_marked (suc k) (suc n) = none_marked k n

-- one mark more
pub one_marked : (marks : List Bool) (m n : ℕ) → m < length marks → is_marked (slice_set marks m true) n ≡ (nat_eq m n || is_marked marks n)
one_marked [] m n h = absurd (omega (arith, h))
one_marked (b ∷ marks) zero zero h = refl
one_marked (b ∷ marks) zero (suc n) h =
    let e : nat_eq 0 (suc n) ≡ false = grind (arith, nat_tests) in rw e refl
one_marked (b ∷ marks) (suc m) zero h =
    let e : nat_eq (suc m) 0 ≡ false = grind (arith, nat_tests) in rw e refl
one_marked (b ∷ marks) (suc m) (suc n) h =
    let e : nat_eq (suc m) (suc n) ≡ nat_eq m n = grind (arith, nat_tests) in rw e (one_marked marks m n (omega (arith, h)))

-- a mark more, where what is left begins with its place
pub mark_moves : (here marked left all : Bool) → (marked || (here || left)) ≡ all → ((here || marked) || left) ≡ all
mark_moves true true left all e = e
mark_moves true false left all e = e
mark_moves false marked left all e = e

pub among_within : (size : ℕ) (o : Option ℕ) → is_among (size + 1) o ≡ is_within size o
among_within size None = refl
among_within size (Some n) = grind (arith, nat_tests)

-- what is marked by a place, if there is one
pub with_marked : (o : Option ℕ) (marks : List Bool) (n : ℕ) → is_among (length marks) o ≡ true →
    is_marked (with_mark o marks) n ≡ (is_at o n || is_marked marks n)
with_marked None marks n h = refl
with_marked (Some m) marks n h = one_marked marks m n (grind (arith, nat_tests, h))

pub or_false : (b : Bool) → (b || false) ≡ b
or_false true = refl
or_false false = refl
