-- The cache numbers of numbered code fit.
use Rattle.std.proofs.Common.{◌≡◌, ℕ, zero, suc, ◌+◌, ◌≤◌, ◌⊎◌, inl, inr, List, [], ◌∷◌, ◌++◌, length, Option, Some, None}
use Rattle.std.proofs.Common.{Bool, true, false, refl, sym, ap, ◌∙◌, subst, arith, length-append}
use Rattle.std.specs.Prelude.{slice_get, nat_eq, nat_lt, not, ◌&&◌, ◌||◌, if◌then◌else◌}
use Rattle.std.proofs.lemmas.Bool.Decides.{nat_tests}
use Rattle.std.proofs.lemmas.Slice.Eq.{bytes_eq-Decides}
use Rattle.tm_trees.specs.Instructions.{Instruction}
use Rattle.tm_trees.specs.Instructions.instructions as i
use Rattle.tm_syntax.specs.CacheNumbers.{no_cache, cache_count, place_from, number_by, number_in, joined_by, joined}
use Rattle.tm_syntax.specs.CacheNumbers.{numbered_from, numbered}
use Rattle.tm_syntax.specs.Named.{same_name}
use Rattle.tm_shapes.specs.Placed.{Numbered, filters_in, tests_in, agrees, caches_fit}

-- ---------------------------------------------------------------- names with their numbers
-- A name has this number among those that have one, or none.
abbrev pub Given : List (List ℕ) → List ℕ → ℕ → Type 0
Given names x k = (k ≡ no_cache) ⊎ ((nat_lt k cache_count ≡ true) × (slice_get names k ≡ Some x))

-- a name stands so many places after the one from which is counted
abbrev StandsAt : List ℕ → List (List ℕ) → ℕ → ℕ → Type 0
StandsAt x ys m n = (j : ℕ) × (n ≡ m + j) × (slice_get ys j ≡ Some x)

there_by : (x y : List ℕ) (ys : List (List ℕ)) (m n : ℕ) → (place_from (m + 1) x ys ≡ Some n → StandsAt x ys (m + 1) n) →
    (b : Bool) → same_name x y ≡ b → (if b then Some m else place_from (m + 1) x ys) ≡ Some n → StandsAt x (y ∷ ys) m n
there_by x y ys m n more true same e =
    let is : n ≡ m = cc e in
    (0, is ∙ omega arith, ap (λ z. Some z) (sym ((bytes_eq-Decides x y).0 same)))
there_by x y ys m n more false same e = let r = more e in (suc r.0, r.1 ∙ omega arith, r.2)

place_there : (x : List ℕ) (ys : List (List ℕ)) (m n : ℕ) → place_from m x ys ≡ Some n → StandsAt x ys m n
place_there x [] m n e = absurd (cc e)
place_there x (y ∷ ys) m n e = there_by x y ys m n (place_there x ys (m + 1) n) (same_name x y) refl e

last_there : (names : List (List ℕ)) (x : List ℕ) → slice_get (names ++ x ∷ []) (length names) ≡ Some x
last_there [] x = refl
last_there (y ∷ ys) x = last_there ys x

still_there : (names more : List (List ℕ)) (k : ℕ) (x : List ℕ) → slice_get names k ≡ Some x → slice_get (names ++ more) k ≡ Some x
still_there [] more k x e = absurd (cc e)
still_there (y ∷ ys) more zero x e = e
still_there (y ∷ ys) more (suc k) x e = still_there ys more k x e

within : (names : List (List ℕ)) (k : ℕ) (x : List ℕ) → slice_get names k ≡ Some x → suc k ≤ length names
within [] k x e = absurd (cc e)
within (y ∷ ys) zero x e = omega arith
within (y ∷ ys) (suc k) x e = omega (arith, within ys k x e)

-- the names that have numbers after one more
module _ (x : List ℕ) (names : List (List ℕ)) (room : length names ≤ cache_count) where
  given_by : (o : Option ℕ) → place_from 0 x names ≡ o → (b : Bool) → nat_lt (length names) cache_count ≡ b →
      Given (joined_by o x names) x (number_by o names)
  given_by (Some n) there b e =
      let r = place_there x names 0 n there in
      let at : slice_get names n ≡ Some x = ap (slice_get names) (r.1 ∙ omega arith) ∙ r.2 in
      inr (grind (arith, nat_tests, within names n x at, room), at)
  given_by None there true e = rw e (inr (e, last_there names x))
  given_by None there false e = rw e (inl refl)

  joined_gives : Given (joined x names) x (number_in x names)
  joined_gives = given_by (place_from 0 x names) refl (nat_lt (length names) cache_count) refl

  kept_by : (o : Option ℕ) (b : Bool) → nat_lt (length names) cache_count ≡ b → (k : ℕ) (y : List ℕ) → slice_get names k ≡ Some y →
      slice_get (joined_by o x names) k ≡ Some y
  kept_by (Some n) b e k y at = at
  kept_by None true e k y at = rw e (still_there names (x ∷ []) k y at)
  kept_by None false e k y at = rw e at

  joined_keeps : (k : ℕ) (y : List ℕ) → slice_get names k ≡ Some y → slice_get (joined x names) k ≡ Some y
  joined_keeps k y at = kept_by (place_from 0 x names) (nat_lt (length names) cache_count) refl k y at

  room_by : (o : Option ℕ) (b : Bool) → nat_lt (length names) cache_count ≡ b → length (joined_by o x names) ≤ cache_count
  room_by (Some n) b e = room
  room_by None true e = rw e (grind (arith, nat_tests, length-append names (x ∷ []), e))
  room_by None false e = rw e room

  joined_room : length (joined x names) ≤ cache_count
  joined_room = room_by (place_from 0 x names) (nat_lt (length names) cache_count) refl

-- ---------------------------------------------------------------- all of them
-- the names that have numbers after code
abbrev filters_after : List (List ℕ) → List Instruction → List (List ℕ)
filters_after fs [] = fs
filters_after fs (i.ApplyFilter x n k ∷ is) = filters_after (joined x fs) is
filters_after fs (_ ∷ is) = filters_after fs is

abbrev tests_after : List (List ℕ) → List Instruction → List (List ℕ)
tests_after ts [] = ts
tests_after ts (i.PerformTest x n k ∷ is) = tests_after (joined x ts) is
tests_after ts (_ ∷ is) = tests_after ts is

filters_kept : (fs : List (List ℕ)) (is : List Instruction) → length fs ≤ cache_count → (k : ℕ) (y : List ℕ) → slice_get fs k ≡ Some y →
    slice_get (filters_after fs is) k ≡ Some y
filters_kept fs [] room k y at = at
filters_kept fs (i.ApplyFilter x n m ∷ is) room k y at =
    filters_kept (joined x fs) is (joined_room x fs room) k y (joined_keeps x fs room k y at)
filters_kept fs (_ ∷ is) room k y at = filters_kept fs is room k y at

tests_kept : (ts : List (List ℕ)) (is : List Instruction) → length ts ≤ cache_count → (k : ℕ) (y : List ℕ) → slice_get ts k ≡ Some y →
    slice_get (tests_after ts is) k ≡ Some y
tests_kept ts [] room k y at = at
tests_kept ts (i.PerformTest x n m ∷ is) room k y at =
    tests_kept (joined x ts) is (joined_room x ts room) k y (joined_keeps x ts room k y at)
tests_kept ts (_ ∷ is) room k y at = tests_kept ts is room k y at

given_still : (names more : List (List ℕ)) (x : List ℕ) (k : ℕ) →
    ((j : ℕ) (y : List ℕ) → slice_get names j ≡ Some y → slice_get more j ≡ Some y) → Given names x k → Given more x k
given_still names more x k kept (inl none) = inl none
given_still names more x k kept (inr there) = inr (there.0, kept k x there.1)

-- Each number is that of its name, or none.
abbrev AllGiven : List (List ℕ) → Numbered → Type 0
AllGiven names [] = Unit {0}
AllGiven names (u ∷ more) = Given names u.0 u.1 × AllGiven names more

filters_given : (fs ts : List (List ℕ)) (is : List Instruction) → length fs ≤ cache_count →
    AllGiven (filters_after fs is) (filters_in (numbered_from fs ts is))
filters_given fs ts [] room = tt
filters_given fs ts (i.ApplyFilter x n m ∷ is) room = (
  given_still (joined x fs) (filters_after (joined x fs) is) x (number_in x fs) (filters_kept (joined x fs) is (joined_room x fs room))
      (joined_gives x fs room),
  filters_given (joined x fs) ts is (joined_room x fs room),
)
filters_given fs ts (i.PerformTest x n m ∷ is) room = filters_given fs (joined x ts) is room
filters_given fs ts (_ ∷ is) room = filters_given fs ts is room

tests_given : (fs ts : List (List ℕ)) (is : List Instruction) → length ts ≤ cache_count →
    AllGiven (tests_after ts is) (tests_in (numbered_from fs ts is))
tests_given fs ts [] room = tt
tests_given fs ts (i.PerformTest x n m ∷ is) room = (
  given_still (joined x ts) (tests_after (joined x ts) is) x (number_in x ts) (tests_kept (joined x ts) is (joined_room x ts room))
      (joined_gives x ts room),
  tests_given fs (joined x ts) is (joined_room x ts room),
)
tests_given fs ts (i.ApplyFilter x n m ∷ is) room = tests_given (joined x fs) ts is room
tests_given fs ts (_ ∷ is) room = tests_given fs ts is room

-- ---------------------------------------------------------------- numbers that fit
same_self : (x : List ℕ) → same_name x x ≡ true
same_self x = (bytes_eq-Decides x x).1 refl

-- another name has another number
apart : (names : List (List ℕ)) (x y : List ℕ) (k j : ℕ) → nat_lt k cache_count ≡ true → slice_get names k ≡ Some x → Given names y j →
    (b : Bool) → nat_eq j k ≡ b → (not b || same_name y x) ≡ true
apart names x y k j small at g false e = refl
apart names x y k j small at (inl none) true e = absurd (let bad : ⊥ = grind (arith, nat_tests, small, none, e) in bad)
apart names x y k j small at (inr there) true e =
    let same : j ≡ k = grind (arith, nat_tests, e) in
    let one : y ≡ x = cc (sym there.1 ∙ ap (slice_get names) same ∙ at) in
    subst (λ z. same_name y z ≡ true) one (same_self y)

agree : (names : List (List ℕ)) (x : List ℕ) (k : ℕ) (more : Numbered) → nat_lt k cache_count ≡ true → slice_get names k ≡ Some x →
    AllGiven names more → agrees x k more ≡ true
agree names x k [] small at h = refl
agree names x k (u ∷ more) small at h =
    rw (apart names x u.0 k u.1 small at h.0 (nat_eq u.1 k) refl) (agree names x k more small at h.1)

first_fits : (names : List (List ℕ)) (u : List ℕ × ℕ) (more : Numbered) → Given names u.0 u.1 → AllGiven names more →
    (nat_eq u.1 no_cache || (nat_lt u.1 cache_count && agrees u.0 u.1 more)) ≡ true
first_fits names u more (inl none) h =
    let same : nat_eq u.1 no_cache ≡ true = grind (arith, nat_tests, none) in rw same refl
first_fits names u more (inr there) h =
    let other : nat_eq u.1 no_cache ≡ false = grind (arith, nat_tests, there.0) in
    rw (other, there.0) (agree names u.0 u.1 more there.0 there.1 h)

all_fit : (names : List (List ℕ)) (us : Numbered) → AllGiven names us → caches_fit us ≡ true
all_fit names [] h = refl
all_fit names (u ∷ more) h = rw (first_fits names u more h.0 h.1) (all_fit names more h.1)

pub filters_fit : (is : List Instruction) → caches_fit (filters_in (numbered is)) ≡ true
filters_fit is = all_fit (filters_after [] is) (filters_in (numbered is)) (filters_given [] [] is (omega arith))

pub tests_fit : (is : List Instruction) → caches_fit (tests_in (numbered is)) ≡ true
tests_fit is = all_fit (tests_after [] is) (tests_in (numbered is)) (tests_given [] [] is (omega arith))
