use Rattle.std.proofs.Common.{◌≡◌, drop, false}
use Rattle.tm_trees.specs.Trees.{steps as row_of_steps}
use Rattle.tm_parser.specs.Statements.{last_calls}
use Rattle.tm_parser.proofs.emissions.ends_in_call.Given as goal

abbrev pub invariant-loop-step : goal.invariant-loop-step
invariant-loop-step l = last_calls l.last (row_of_steps (drop l.step-index l.steps)) ≡ last_calls false (row_of_steps l.steps)
