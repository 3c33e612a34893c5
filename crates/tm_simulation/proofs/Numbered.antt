-- Code with its cache numbers, against the code before it.
use Rattle.std.proofs.Common.{◌≡◌, ℕ, zero, suc, ◌+◌, ◌≤◌, ◌⊎◌, inl, inr, List, [], ◌∷◌, ◌++◌, length, Option, Some, None}
use Rattle.std.proofs.Common.{Bool, true, false, refl, sym, ap, ◌∙◌, arith, length-append, eqb-true}
use Rattle.std.specs.Prelude.{slice_get, nat_lt, if◌then◌else◌}
use Rattle.std.proofs.lemmas.Bool.Decides.{nat_tests}
use Rattle.std.proofs.lemmas.Slice.Eq.{bytes_eq-Decides}
use Rattle.tm_trees.specs.Instructions.{Instruction}
use Rattle.tm_trees.specs.Instructions.instructions as i
use Rattle.tm_syntax.specs.CacheNumbers.{no_cache, cache_count, place_from, number_by, number_in, joined_by, joined}
use Rattle.tm_syntax.specs.CacheNumbers.{numbered_from, numbered}
use Rattle.tm_syntax.specs.Loops.{begins, with_place, loop_places, one_more_loop, loops_before}
use Rattle.tm_syntax.specs.Entries.{Entries, entries_from, name_count, with_entry}
use Rattle.tm_syntax.specs.Named.{same_name}
use Rattle.tm_simulation.specs.Uncached.{AllUncached}

-- ---------------------------------------------------------------- code before it
pub both_uncached : (a b : List Instruction) → AllUncached a → AllUncached b → AllUncached (a ++ b)
both_uncached [] b h k = k
both_uncached (x ∷ a) b h k = (h.0, both_uncached a b h.1 k)

-- ---------------------------------------------------------------- names with their numbers
-- A name has this number among those that have one, or none.
abbrev pub Given : List (List ℕ) → List ℕ → ℕ → Type 0
Given names x k = (k ≡ no_cache) ⊎ ((nat_lt k cache_count ≡ true) × (slice_get names k ≡ Some x))

-- a name stands so many places after the one from which is counted
abbrev StandsAt : List ℕ → List (List ℕ) → ℕ → ℕ → Type 0
StandsAt x ys m n = (j : ℕ) × (n ≡ m + j) × (slice_get ys j ≡ Some x)

there_by : (x y : List ℕ) (ys : List (List ℕ)) (m n : ℕ) → (place_from (m + 1) x ys ≡ Some n → StandsAt x ys (m + 1) n) →
    (b : Bool) → same_name x y ≡ b → (if b then Some m else place_from (m + 1) x ys) ≡ Some n → StandsAt x (y ∷ ys) m n
there_by x y ys m n more true same e =
    let is : n ≡ m = cc e in
    (0, is ∙ omega arith, ap (λ z. Some z) (sym ((bytes_eq-Decides x y).0 same)))
there_by x y ys m n more false same e = let r = more e in (suc r.0, r.1 ∙ omega arith, r.2)

place_there : (x : List ℕ) (ys : List (List ℕ)) (m n : ℕ) → place_from m x ys ≡ Some n → StandsAt x ys m n
place_there x [] m n e = absurd (cc e)
place_there x (y ∷ ys) m n e = there_by x y ys m n (place_there x ys (m + 1) n) (same_name x y) refl e

last_there : (names : List (List ℕ)) (x : List ℕ) → slice_get (names ++ x ∷ []) (length names) ≡ Some x
last_there [] x = refl
last_there (y ∷ ys) x = last_there ys x

still_there : (names more : List (List ℕ)) (k : ℕ) (x : List ℕ) → slice_get names k ≡ Some x → slice_get (names ++ more) k ≡ Some x
still_there [] more k x e = absurd (cc e)
still_there (y ∷ ys) more zero x e = e
still_there (y ∷ ys) more (suc k) x e = still_there ys more k x e

within : (names : List (List ℕ)) (k : ℕ) (x : List ℕ) → slice_get names k ≡ Some x → suc k ≤ length names
within [] k x e = absurd (cc e)
within (y ∷ ys) zero x e = omega arith
within (y ∷ ys) (suc k) x e = omega (arith, within ys k x e)

-- the names that have numbers after one more
module _ (x : List ℕ) (names : List (List ℕ)) (room : length names ≤ cache_count) where
  given_by : (o : Option ℕ) → place_from 0 x names ≡ o → (b : Bool) → nat_lt (length names) cache_count ≡ b →
      Given (joined_by o x names) x (number_by o names)
  given_by (Some n) there b e =
      let r = place_there x names 0 n there in
      let at : slice_get names n ≡ Some x = ap (slice_get names) (r.1 ∙ omega arith) ∙ r.2 in
      inr (grind (arith, nat_tests, within names n x at, room), at)
  given_by None there true e = rw e (inr (e, last_there names x))
  given_by None there false e = rw e (inl refl)

  pub joined_gives : Given (joined x names) x (number_in x names)
  joined_gives = given_by (place_from 0 x names) refl (nat_lt (length names) cache_count) refl

  kept_by : (o : Option ℕ) (b : Bool) → nat_lt (length names) cache_count ≡ b → (k : ℕ) (y : List ℕ) → slice_get names k ≡ Some y →
      slice_get (joined_by o x names) k ≡ Some y
  kept_by (Some n) b e k y at = at
  kept_by None true e k y at = rw e (still_there names (x ∷ []) k y at)
  kept_by None false e k y at = rw e at

  pub joined_keeps : (k : ℕ) (y : List ℕ) → slice_get names k ≡ Some y → slice_get (joined x names) k ≡ Some y
  joined_keeps k y at = kept_by (place_from 0 x names) (nat_lt (length names) cache_count) refl k y at

  room_by : (o : Option ℕ) (b : Bool) → nat_lt (length names) cache_count ≡ b → length (joined_by o x names) ≤ cache_count
  room_by (Some n) b e = room
  room_by None true e = rw e (grind (arith, nat_tests, length-append names (x ∷ []), e))
  room_by None false e = rw e room

  pub joined_room : length (joined x names) ≤ cache_count
  joined_room = room_by (place_from 0 x names) (nat_lt (length names) cache_count) refl

-- ---------------------------------------------------------------- code with its numbers
-- An instruction before it has its number, and with it, where these filters and tests have theirs.
abbrev pub Numbers : List (List ℕ) → List (List ℕ) → Instruction → Instruction → Type 0
Numbers fs ts (i.ApplyFilter x n m) y = (k : ℕ) × (m ≡ no_cache) × (y ≡ i.ApplyFilter x n k) × Given fs x k
Numbers fs ts (i.PerformTest x n m) y = (k : ℕ) × (m ≡ no_cache) × (y ≡ i.PerformTest x n k) × Given ts x k
Numbers fs ts x y = y ≡ x

abbrev pub EachNumbers : List (List ℕ) → List (List ℕ) → List Instruction → List Instruction → Type 0
EachNumbers fs ts [] [] = Unit {0}
EachNumbers fs ts (x ∷ is) [] = ⊥
EachNumbers fs ts [] (y ∷ js) = ⊥
EachNumbers fs ts (x ∷ is) (y ∷ js) = Numbers fs ts x y × EachNumbers fs ts is js

-- the names that have numbers after code
abbrev filters_after : List (List ℕ) → List Instruction → List (List ℕ)
filters_after fs [] = fs
filters_after fs (i.ApplyFilter x n k ∷ is) = filters_after (joined x fs) is
filters_after fs (_ ∷ is) = filters_after fs is

abbrev tests_after : List (List ℕ) → List Instruction → List (List ℕ)
tests_after ts [] = ts
tests_after ts (i.PerformTest x n k ∷ is) = tests_after (joined x ts) is
tests_after ts (_ ∷ is) = tests_after ts is

filters_kept : (fs : List (List ℕ)) (is : List Instruction) → length fs ≤ cache_count → (k : ℕ) (y : List ℕ) → slice_get fs k ≡ Some y →
    slice_get (filters_after fs is) k ≡ Some y
filters_kept fs [] room k y at = at
filters_kept fs (i.ApplyFilter x n m ∷ is) room k y at =
    filters_kept (joined x fs) is (joined_room x fs room) k y (joined_keeps x fs room k y at)
filters_kept fs (_ ∷ is) room k y at = filters_kept fs is room k y at

tests_kept : (ts : List (List ℕ)) (is : List Instruction) → length ts ≤ cache_count → (k : ℕ) (y : List ℕ) → slice_get ts k ≡ Some y →
    slice_get (tests_after ts is) k ≡ Some y
tests_kept ts [] room k y at = at
tests_kept ts (i.PerformTest x n m ∷ is) room k y at =
    tests_kept (joined x ts) is (joined_room x ts room) k y (joined_keeps x ts room k y at)
tests_kept ts (_ ∷ is) room k y at = tests_kept ts is room k y at

given_still : (names more : List (List ℕ)) (x : List ℕ) (k : ℕ) →
    ((j : ℕ) (y : List ℕ) → slice_get names j ≡ Some y → slice_get more j ≡ Some y) → Given names x k → Given more x k
given_still names more x k kept (inl none) = inl none
given_still names more x k kept (inr there) = inr (there.0, kept k x there.1)

walked : (fs ts : List (List ℕ)) (is : List Instruction) → AllUncached is → length fs ≤ cache_count → length ts ≤ cache_count →
    EachNumbers (filters_after fs is) (tests_after ts is) is (numbered_from fs ts is)
walked fs ts [] h f t = tt
walked fs ts (i.ApplyFilter x n m ∷ is) h f t =
    let after = filters_after (joined x fs) is in
    let given = given_still (joined x fs) after x (number_in x fs) (filters_kept (joined x fs) is (joined_room x fs f))
    (joined_gives x fs f) in
    let none : m ≡ no_cache = eqb-true m no_cache h.0 in
    ((number_in x fs, none, refl, given), walked (joined x fs) ts is h.1 (joined_room x fs f) t)
walked fs ts (i.PerformTest x n m ∷ is) h f t =
    let after = tests_after (joined x ts) is in
    let given = given_still (joined x ts) after x (number_in x ts) (tests_kept (joined x ts) is (joined_room x ts t))
    (joined_gives x ts t) in
    let none : m ≡ no_cache = eqb-true m no_cache h.0 in
    ((number_in x ts, none, refl, given), walked fs (joined x ts) is h.1 f (joined_room x ts t))
walked fs ts (_ ∷ is) h f t = (refl, walked fs ts is h.1 f t)

-- Code before it has its numbers, and with them.
abbrev pub IsNumbered : List Instruction → List Instruction → Type 0
IsNumbered is js = (fs : List (List ℕ)) × (ts : List (List ℕ)) × EachNumbers fs ts is js

pub numbered_is : (is : List Instruction) → AllUncached is → IsNumbered is (numbered is)
numbered_is is h = (filters_after [] is, tests_after [] is, walked [] [] is h (omega arith) (omega arith))

-- ---------------------------------------------------------------- what numbers leave as it is
module _ (fs ts : List (List ℕ)) where
  pub as_long : (is js : List Instruction) → EachNumbers fs ts is js → length js ≡ length is
  as_long [] [] h = refl
  as_long [] (y ∷ js) h = absurd h
  as_long (x ∷ is) [] h = absurd h
  as_long (x ∷ is) (y ∷ js) h = ap (λ n. suc n) (as_long is js h.1)

  same_begins : (x y : Instruction) → Numbers fs ts x y → begins y ≡ begins x
  same_begins (i.ApplyFilter x n m) y h = ap begins h.2
  same_begins (i.PerformTest x n m) y h = ap begins h.2
  same_begins x y h = ap begins h

  pub same_places : (pc : ℕ) (is js : List Instruction) → EachNumbers fs ts is js → loop_places pc js ≡ loop_places pc is
  same_places pc [] [] h = refl
  same_places pc [] (y ∷ js) h = absurd h
  same_places pc (x ∷ is) [] h = absurd h
  same_places pc (x ∷ is) (y ∷ js) h =
      ap (λ o. with_place o pc (loop_places (pc + 1) js)) (same_begins x y h.0)
      ∙ ap (with_place (begins x) pc) (same_places (pc + 1) is js h.1)

  pub same_entries : (es : Entries) (before : Option ℕ) (is js : List Instruction) → EachNumbers fs ts is js →
      entries_from es before js ≡ entries_from es before is
  same_entries es before [] [] h = refl
  same_entries es before [] (y ∷ js) h = absurd h
  same_entries es before (x ∷ is) [] h = absurd h
  same_entries es before (i.ApplyFilter x n m ∷ is) (y ∷ js) h =
      ap (λ z. entries_from es before (z ∷ js)) h.0.2 ∙ same_entries es None is js h.1
  same_entries es before (i.PerformTest x n m ∷ is) (y ∷ js) h =
      ap (λ z. entries_from es before (z ∷ js)) h.0.2 ∙ same_entries es None is js h.1
  same_entries es before (i.LoadConst v ∷ is) (y ∷ js) h =
      ap (λ z. entries_from es before (z ∷ js)) h.0 ∙ same_entries es (Some (name_count v)) is js h.1
  same_entries es before (i.BuildMacro x place caller ∷ is) (y ∷ js) h =
      ap (λ z. entries_from es before (z ∷ js)) h.0 ∙ same_entries (with_entry before place es) None is js h.1
  same_entries es before (x ∷ is) (y ∷ js) h = ap (λ z. entries_from es before (z ∷ js)) h.0 ∙ same_entries es None is js h.1

  pub same_before : (n : ℕ) (is js : List Instruction) → EachNumbers fs ts is js → loops_before n js ≡ loops_before n is
  same_before zero is js h = refl
  same_before (suc n) [] [] h = refl
  same_before (suc n) [] (y ∷ js) h = absurd h
  same_before (suc n) (x ∷ is) [] h = absurd h
  same_before (suc n) (x ∷ is) (y ∷ js) h =
      ap (λ o. one_more_loop o (loops_before n js)) (same_begins x y h.0)
      ∙ ap (one_more_loop (begins x)) (same_before n is js h.1)

  -- what stands at a place
  abbrev pub NumbersAt : Option Instruction → Option Instruction → Type 0
  NumbersAt None None = Unit {0}
  NumbersAt (Some x) (Some y) = Numbers fs ts x y
  NumbersAt None (Some y) = ⊥
  NumbersAt (Some x) None = ⊥

  pub numbers_at : (n : ℕ) (is js : List Instruction) → EachNumbers fs ts is js → NumbersAt (slice_get is n) (slice_get js n)
  numbers_at n [] [] h = tt
  numbers_at n [] (y ∷ js) h = absurd h
  numbers_at n (x ∷ is) [] h = absurd h
  numbers_at zero (x ∷ is) (y ∷ js) h = h.0
  numbers_at (suc n) (x ∷ is) (y ∷ js) h = numbers_at n is js h.1
