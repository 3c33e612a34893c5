use Rattle.std.proofs.Common.{◌≡◌, drop}
use Rattle.tm_syntax.specs.Code.{targets_code}
use Rattle.tm_trees.specs.Trees.{targets}
use Rattle.tm_generator.specs.Building.{put}
use Rattle.tm_generator.proofs.targets.+targets.Given as goal

abbrev pub invariant-push_targets-loop-part : goal.invariant-push_targets-loop-part
invariant-push_targets-loop-part l = put (targets_code (targets (drop l.part-index l.parts))) l.code
    ≡ put (targets_code (targets l.parts)) l.fn.code
