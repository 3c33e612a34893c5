-- Cache numbers, while they are assigned.
use Rattle.std.specs.Prelude.{◌≡◌, ◌≤◌, ◌∷◌, List, Option, None, Some, length}
use Rattle.tm_generator.specs.declared.caches.CacheNames.{CacheNames}
use Rattle.tm_syntax.specs.CacheNumbers.{cache_count, numbered_from}
use Rattle.tm_trees.specs.Instructions.{Instruction}

-- At most `cache_count` filters and at most as many tests have numbers.
pub record HasRoom (names : CacheNames) : Type 0 where
  pub filters : length names.filters ≤ cache_count
  pub tests : length names.tests ≤ cache_count

-- the new instruction, or the old one if there is none
abbrev pub made_or : Option Instruction → Instruction → Instruction
made_or (Some y) x = y
made_or None x = x

-- Numbering an instruction makes `made`, or keeps the instruction if that is none, and turns the
-- numbered names `old` into `new`, whatever code follows.
abbrev pub IsNumberedOne : CacheNames → CacheNames → Instruction → Option Instruction → Type 0
IsNumberedOne old new x made =
    (more : List Instruction) →
    numbered_from old.filters old.tests (x ∷ more) ≡ made_or made x ∷ numbered_from new.filters new.tests more
