use Rattle.std.proofs.Common.{◌≡◌, drop}
use Rattle.tm_syntax.specs.Code.{has_spread}
use Rattle.tm_trees.specs.Trees.{arguments}
use Rattle.tm_generator.proofs.passing.has_spread.Given as goal

abbrev pub invariant-loop-argument : goal.invariant-loop-argument
invariant-loop-argument l = has_spread (arguments (drop l.argument-index l.given)) ≡ has_spread (arguments l.given)
