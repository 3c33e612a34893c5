-- Values that a run makes.
use Rattle.std.specs.Prelude.{ℕ, Bool, true, false, List, [], ◌∷◌}
use Rattle.tm_trees.specs.Instructions.{Instruction}
use Rattle.tm_trees.specs.Instructions.instructions
use Rattle.tm_values.specs.Val.{Val, val_size}

-- Whether the value that the instruction leaves on top is one that it, or what it calls, made.
-- Other instructions push what there is already, a part of that, or a value of size 1.
abbrev pub makes : Instruction → Bool
makes instructions.Slice = true
makes (instructions.BuildList count) = true
makes (instructions.BuildTuple count) = true
makes (instructions.BuildMap count) = true
makes (instructions.BuildKwargs count) = true
makes (instructions.MergeKwargs count) = true
makes instructions.Add = true
makes instructions.StringConcat = true
makes (instructions.CallFunction name count) = true
makes (instructions.CallMethod name count) = true
makes (instructions.CallObject count) = true
makes (instructions.ApplyFilter name count cache) = true
makes (instructions.PerformTest name count cache) = true
makes instructions.ExportLocals = true
makes instructions.EndCapture = true
makes _ = false

-- the size of the value on top, 0 if there is none
abbrev pub size_on_top : List Val → ℕ
size_on_top [] = 0
size_on_top (v ∷ vs) = val_size v
