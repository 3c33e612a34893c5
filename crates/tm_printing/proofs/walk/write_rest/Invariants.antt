use Rattle.std.proofs.Common.{◌+◌, ◌++◌}
use Rattle.tm_printing.proofs.Begun.{Begun}
use Rattle.tm_printing.specs.Left.{left_text, left_weight, rest_weight, weight}
use Rattle.tm_printing.proofs.walk.write_rest.Given as goal

abbrev pub decreases-loop-left : goal.decreases-loop-left
decreases-loop-left g l =
    let k = weight (g.R.Records.records l.records) in
    rest_weight k l.rest + left_weight k l.left.items

-- what is left to write is what stands in the list
abbrev pub invariant-loop-left : goal.invariant-loop-left
invariant-loop-left g l =
    let text = g.N.Notation.rest_text (g.R.Records.records l.records) in
    Begun g.T.Target.took l.fn.target (text l.fn.first) l.target (text l.rest ++ left_text text l.left.items)
