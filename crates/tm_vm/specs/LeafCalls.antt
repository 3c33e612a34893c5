-- The results of calling a macro that is a leaf.
use Rattle.std.specs.Prelude.{◌≡◌, ◌≤◌, ◌+◌, ◌∷◌, ℕ, List, Some, Result, Ok, Err, Bool, true, false, drop}
use Rattle.tm_values.specs.Val.{Val}
use Rattle.tm_values.specs.declared.error.ErrorKind.{ErrorKind}
use Rattle.tm_meaning.specs.Instructions.{call_function_of}
use Rattle.tm_meaning.specs.Machine.{Config, Next, Program}
use Rattle.tm_parts.specs.declared.halt.Halt.TheVariants as halt
use Rattle.tm_vm.specs.Answers.{Needs}
use Rattle.tm_vm.specs.declared.flow.Flow.TheVariants as flow

-- The call of name x with `count` values is a leaf's, its text is the value v, and `left` fuel is
-- left.
abbrev pub GivesText : Program → List ℕ → ℕ → Config → Val → ℕ → Type 0
GivesText p x count c v left = (left ≤ c.world.fuel) × ((new : Config) → new ≡ record c {
  run = record c.run { place = c.run.place + 1; operands = v ∷ drop count c.run.operands };
  world = record c.world { fuel = left };
} → Needs p (call_function_of p x (Some count) c) c new (Ok flow.Called))

-- The call was a leaf's, which has finished; or nothing changed; or memory ran out.
abbrev pub CallsLeaf : Program → Next → Config → Config → Result Bool (List ErrorKind) → Type 0
CallsLeaf p n old new (Ok true) = Needs p n old new (Ok flow.Called)
CallsLeaf p n old new (Ok false) = new ≡ old
CallsLeaf p n old new (Err chain) = Needs p n old new (Err (halt.Fault chain))
