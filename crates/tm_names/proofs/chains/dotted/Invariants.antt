use Rattle.std.proofs.Common.{◌≡◌, drop}
use Rattle.std.specs.String.{string_bytes}
use Rattle.tm_syntax.specs.Names.{dotted}
use Rattle.tm_trees.specs.Trees.{steps}
use Rattle.tm_names.proofs.chains.dotted.Given as goal

abbrev pub invariant-loop-step : goal.invariant-loop-step
invariant-loop-step l = dotted (string_bytes l.text) (steps (drop l.step-index l.after)) ≡ dotted l.name (steps l.after)
