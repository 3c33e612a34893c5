-- So much is left to take from what stays.
use Rattle.std.proofs.Common.{◌≤◌}
use Rattle.tm_shapes.proofs.Taken.{IsLeft}
use Rattle.tm_shapes.proofs.shape.Shape.without.Given as goal

abbrev pub invariant-loop-left : goal.invariant-loop-left
invariant-loop-left l = (l.left ≤ l.shape.height) × IsLeft l.fn.cells l.fn.self l.count l.shape l.left

abbrev pub decreases-loop-left : goal.decreases-loop-left
decreases-loop-left l = l.left
