-- The names that use cache numbers, in the order of a walk.
use Rattle.std.specs.Prelude.{◌≡◌, ◌⊎◌, ℕ, List, [], ◌∷◌, Option, None, Some, Bool, true, false, nat_eq, option_and_then, replicate, slice_get, slice_set}
use Rattle.std.specs.Borrow.{Bor}
use Rattle.tm_syntax.specs.Choices.{choose}
use Rattle.tm_trees.specs.Instructions.{Instruction}
use Rattle.tm_syntax.specs.CacheNumbers.{no_cache}
use Rattle.tm_syntax.specs.Named.{same_name}
use Rattle.tm_shapes.specs.Placed.{Numbered, filter_of, test_of}

-- the name that uses each number, if any
abbrev pub Names : Type 0
Names = List (Option (List ℕ))

abbrev pub no_names : Names
no_names = replicate 50 None

abbrev pub taken_by : Option (Option (List ℕ)) → List ℕ → ℕ → Names → Option Names
taken_by None x k t = None
taken_by (Some None) x k t = Some (slice_set t k (Some x))
taken_by (Some (Some y)) x k t = choose (same_name x y) (λ _. Some t) (λ _. None)

-- The number means no cache, or is a cache that no other name uses; then this name uses it.
abbrev pub taken : List ℕ → ℕ → Names → Option Names
taken x k t = choose (nat_eq k no_cache) (λ _. Some t) (λ _. taken_by (slice_get t k) x k t)

abbrev pub all_taken : Numbered → Names → Option Names
all_taken [] t = Some t
all_taken (u ∷ us) t = option_and_then (all_taken us) (taken u.0 u.1 t)

abbrev pub told : Bool → Names → Option Names
told true t = Some t
told false t = None

abbrev pub name_of : Option (Bor (List ℕ)) → Option (List ℕ)
name_of None = None
name_of (Some x) = Some x.now

abbrev pub names_of : List (Option (Bor (List ℕ))) → Names
names_of [] = []
names_of (o ∷ os) = name_of o ∷ names_of os

-- The cache numbers of an instruction, for filters and for tests, can be used.
abbrev pub CachesTaken : Instruction → Names → Names → Names → Names → Type 0
CachesTaken x filters tests filters1 tests1 =
    (all_taken (filter_of x) filters ≡ Some filters1) × (all_taken (test_of x) tests ≡ Some tests1)

abbrev pub CachesRefused : Instruction → Names → Names → Type 0
CachesRefused x filters tests = (all_taken (filter_of x) filters ≡ None) ⊎ (all_taken (test_of x) tests ≡ None)
