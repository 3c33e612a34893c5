-- Where runs begin.
use Rattle.std.proofs.Common.{◌≡◌, ◌∙◌, ℕ, List, [], ◌∷◌, ◌++◌, Option, None, Some, Bool, true, false, ◌||◌, refl, ap, append_assoc}
use Rattle.tm_trees.specs.Instructions.{Instruction}
use Rattle.tm_trees.specs.Instructions.instructions as i
use Rattle.tm_shapes.specs.Accepts.{Seeds, entry_seeds_from, has_zero, loads_zero}
use Rattle.tm_shapes.specs.Searched.{count_after, entry_of, seed_of, seeds_of}
use Rattle.tm_shapes.specs.declared.search.Seed.{Seed}

-- the entries of an instruction, and those of what is left
pub entry_first : (before : Option ℕ) (x : Instruction) (more : List Instruction) →
    entry_seeds_from before (x ∷ more) ≡ entry_of before x ++ entry_seeds_from (count_after x) more
entry_first None (i.BuildMacro x place caller) more = refl
entry_first (Some n) (i.BuildMacro x place caller) more = refl
entry_first before x more = refl

pub seeds_after : (es fs : List Seed) → seeds_of (es ++ fs) ≡ seeds_of es ++ seeds_of fs
seeds_after [] fs = refl
seeds_after (e ∷ es) fs = ap (λ s. (e.place, Rattle.tm_shapes.specs.Shapes.entry_shape e.values) ∷ s) (seeds_after es fs)
