use Rattle.std.proofs.Common.{◌≡◌, ◌≤◌, drop, length}
use Rattle.tm_syntax.specs.Code.{parameters_code}
use Rattle.tm_generator.specs.Building.{put}
use Rattle.tm_generator.proofs.macros.push_parameters.Given as goal

abbrev pub invariant-loop-left : goal.invariant-loop-left
invariant-loop-left l =
    (l.left ≤ length l.parameters) × (l.code ≡ put (parameters_code (drop l.left l.parameters)) l.fn.code)

abbrev pub decreases-loop-left : goal.decreases-loop-left
decreases-loop-left l = l.left
