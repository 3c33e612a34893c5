-- Checks of every instruction in a stream, reached or not.
use Rattle.std.specs.Prelude.{ℕ, ◌+◌, ◌-◌, List, [], ◌∷◌, ◌++◌, length, Option, Some, None, Bool, true, false, nat_eq, nat_lt, not, is_some, ◌&&◌, ◌||◌}
use Rattle.tm_trees.specs.Instructions.{Instruction}
use Rattle.tm_trees.specs.Instructions.instructions as i
use Rattle.tm_shapes.specs.declared.before.Before.{Before}
use Rattle.tm_shapes.specs.declared.before.Before.TheVariants as befores
use Rattle.tm_syntax.specs.CacheNumbers.{no_cache, cache_count}
use Rattle.tm_syntax.specs.Named.{same_name}
use Rattle.tm_syntax.specs.Entries.{names_in}

-- ---------------------------------------------------------------- targets
-- the place that an instruction may lead to, besides the next one
abbrev pub target : Instruction → Option ℕ
target (i.Jump n) = Some n
target (i.JumpIfFalse n) = Some n
target (i.JumpIfFalseOrPop n) = Some n
target (i.JumpIfTrueOrPop n) = Some n
target (i.Iterate n) = Some n
target (i.BuildMacro x n caller) = Some n
target x = None

abbrev pub is_at : Option ℕ → ℕ → Bool
is_at None n = false
is_at (Some m) n = nat_eq m n

-- whether a jump or a macro's entry leads to a place
abbrev pub is_entered : List Instruction → ℕ → Bool
is_entered [] n = false
is_entered (x ∷ more) n = is_at (target x) n || is_entered more n

-- a target is a place, or the end
abbrev pub is_within : ℕ → Option ℕ → Bool
is_within size None = true
is_within size (Some n) = not (nat_lt size n)

abbrev pub targets_within : ℕ → List Instruction → Bool
targets_within size [] = true
targets_within size (x ∷ more) = is_within size (target x) && targets_within size more

-- ---------------------------------------------------------------- cache numbers
-- names with their cache numbers
abbrev pub Numbered : Type 0
Numbered = List (List ℕ × ℕ)

abbrev pub filter_of : Instruction → Numbered
filter_of (i.ApplyFilter x n k) = (x, k) ∷ []
filter_of x = []

abbrev pub test_of : Instruction → Numbered
test_of (i.PerformTest x n k) = (x, k) ∷ []
test_of x = []

abbrev pub filters_in : List Instruction → Numbered
filters_in [] = []
filters_in (x ∷ more) = filter_of x ++ filters_in more

abbrev pub tests_in : List Instruction → Numbered
tests_in [] = []
tests_in (x ∷ more) = test_of x ++ tests_in more

-- no other name uses the number
abbrev pub agrees : List ℕ → ℕ → Numbered → Bool
agrees x k [] = true
agrees x k (u ∷ more) = (not (nat_eq u.1 k) || same_name u.0 x) && agrees x k more

-- Each number means no cache, or is a cache used by one name only.
abbrev pub caches_fit : Numbered → Bool
caches_fit [] = true
caches_fit (u ∷ more) = (nat_eq u.1 no_cache || (nat_lt u.1 cache_count && agrees u.0 u.1 more)) && caches_fit more

-- ---------------------------------------------------------------- macros
-- the parts of a macro before the next place
abbrev pub names_by : Bool → Before
names_by true = befores.Names
names_by false = befores.Nothing

abbrev pub before_next : Before → Instruction → Before
before_next before i.GetClosure = befores.Closure
before_next befores.Closure (i.LoadConst v) = names_by (is_some (names_in v))
before_next before x = befores.Nothing

abbrev pub is_names : Before → Bool
is_names befores.Names = true
is_names before = false

-- A macro is built directly after its other parts, and nothing jumps between them.
abbrev pub build_fits : List Instruction → ℕ → Before → Instruction → Bool
build_fits code n before (i.BuildMacro x place caller) = is_names before && not (is_entered code n || is_entered code (n - 1))
build_fits code n before x = true

-- whether the parts of each macro in the rest of the code are adjacent
abbrev pub parts_fit : List Instruction → ℕ → Before → List Instruction → Bool
parts_fit code n before [] = true
parts_fit code n before (x ∷ more) = build_fits code n before x && parts_fit code (n + 1) (before_next before x) more

-- ---------------------------------------------------------------- all checks
abbrev pub is_placed : List Instruction → Bool
is_placed code = targets_within (length code) code && caches_fit (filters_in code) && caches_fit (tests_in code) && parts_fit code 0 befores.Nothing code
