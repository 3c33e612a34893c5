use Rattle.std.proofs.Common.{◌≡◌, drop}
use Rattle.tm_syntax.specs.Names.{walk_targets}
use Rattle.tm_trees.specs.Trees.{targets}
use Rattle.tm_names.proofs.walker.Walker.+targets.Given as goal

abbrev pub invariant-walk_targets-loop-part : goal.invariant-walk_targets-loop-part
invariant-walk_targets-loop-part l =
    walk_targets l.nested (targets (drop l.part-index l.parts)) l.self ≡ walk_targets l.nested (targets l.parts) l.fn.self
