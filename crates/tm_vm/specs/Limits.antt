-- How large the values that a run makes may be.
use Rattle.std.specs.Prelude.{◌≡◌, ℕ, ◌≤◌, true, List, Result, Ok}
use Rattle.tm_parts.specs.declared.halt.Halt.{Halt}
use Rattle.tm_runs.specs.Making.{makes, size_on_top}
use Rattle.tm_trees.specs.Instructions.{Instruction}
use Rattle.tm_values.specs.Val.{Val}
use Rattle.tm_vm.specs.declared.flow.Flow.{Flow}
use Rattle.tm_vm.specs.declared.flow.Flow.TheVariants as flow

-- If the run goes on, a value that the instruction made is no larger than `most`.
abbrev pub MakesWithin : ℕ → Instruction → Result Flow Halt → List Val → Type 0
MakesWithin most i (Ok flow.GoOn) operands = makes i ≡ true → size_on_top operands ≤ most
MakesWithin most i (Ok flow.Called) operands = makes i ≡ true → size_on_top operands ≤ most
MakesWithin most i _ operands = Unit {0}
