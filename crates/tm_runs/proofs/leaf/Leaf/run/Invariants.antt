use Rattle.std.proofs.Common.{◌≤◌}
use Rattle.tm_runs.specs.Leaves.{RunsOn}
use Rattle.tm_runs.proofs.leaf.Leaf.run.Given as goal

abbrev pub invariant-loop-left : goal.invariant-loop-left
invariant-loop-left l = RunsOn l.code l.escape l.fn.self l.self × (l.self.fuel ≤ l.fn.self.fuel)

abbrev pub decreases-loop-left : goal.decreases-loop-left
decreases-loop-left l = l.left
