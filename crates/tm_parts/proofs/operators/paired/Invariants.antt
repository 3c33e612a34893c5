use Rattle.std.proofs.Common.{◌≡◌, ◌++◌, length}
use Rattle.tm_meaning.specs.Instructions.{paired}
use Rattle.tm_parts.proofs.operators.paired.Given as goal

abbrev pub invariant-loop-key : goal.invariant-loop-key
invariant-loop-key l = l.pairs.items ++ paired l.left.rest.items ≡ paired l.fn.values.items

abbrev pub decreases-loop-key : goal.decreases-loop-key
decreases-loop-key l = length l.left.rest.items
