-- The cache numbers in the code of a stream: the first 50 filter names are numbered 0 to 49, in
-- order of first occurrence, and so are the test names. All others have 255, which means no cache.
use Rattle.std.specs.Prelude.{ℕ, ◌+◌, List, [], ◌∷◌, ◌++◌, length, Option, Some, None, nat_lt, if◌then◌else◌}
use Rattle.tm_syntax.specs.declared.instruction.Instruction.{Instruction}
use Rattle.tm_syntax.specs.declared.instruction.Instruction.TheVariants as i
use Rattle.tm_syntax.specs.Named.{same_name}

abbrev pub no_cache : ℕ
no_cache = 255

abbrev pub cache_count : ℕ
cache_count = 50

-- the index of the first occurrence of a name, counted from n
abbrev pub place_from : ℕ → List ℕ → List (List ℕ) → Option ℕ
place_from n x [] = None
place_from n x (y ∷ ys) = if same_name x y then Some n else place_from (n + 1) x ys

-- the number of a name, given the numbered names in order
abbrev pub number_by : Option ℕ → List (List ℕ) → ℕ
number_by (Some n) names = n
number_by None names = if nat_lt (length names) cache_count then length names else no_cache

abbrev pub number_in : List ℕ → List (List ℕ) → ℕ
number_in x names = number_by (place_from 0 x names) names

-- the numbered names after it
abbrev pub joined_by : Option ℕ → List ℕ → List (List ℕ) → List (List ℕ)
joined_by (Some n) x names = names
joined_by None x names = if nat_lt (length names) cache_count then names ++ x ∷ [] else names

abbrev pub joined : List ℕ → List (List ℕ) → List (List ℕ)
joined x names = joined_by (place_from 0 x names) x names

-- numbers the code, given the filters and tests that are numbered already
abbrev pub numbered_from : List (List ℕ) → List (List ℕ) → List Instruction → List Instruction
numbered_from fs ts [] = []
numbered_from fs ts (i.ApplyFilter x n k ∷ is) = i.ApplyFilter x n (number_in x fs) ∷ numbered_from (joined x fs) ts is
numbered_from fs ts (i.PerformTest x n k ∷ is) = i.PerformTest x n (number_in x ts) ∷ numbered_from fs (joined x ts) is
numbered_from fs ts (x ∷ is) = x ∷ numbered_from fs ts is

abbrev pub numbered : List Instruction → List Instruction
numbered is = numbered_from [] [] is
