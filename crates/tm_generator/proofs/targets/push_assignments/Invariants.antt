use Rattle.std.proofs.Common.{◌≡◌, drop}
use Rattle.tm_syntax.specs.Code.{assignments_code}
use Rattle.tm_generator.specs.Building.{put}
use Rattle.tm_generator.proofs.targets.push_assignments.Given as goal

abbrev pub invariant-loop-assignment : goal.invariant-loop-assignment
invariant-loop-assignment l = put (assignments_code (drop l.assignment-index l.given)) l.code ≡ put (assignments_code l.given) l.fn.code
