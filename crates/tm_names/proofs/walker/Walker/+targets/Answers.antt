use Rattle.std.proofs.lemmas.List.{drop_all}
use Rattle.tm_names.proofs.Forms.{more-targets, no_more-targets, next}
use Rattle.tm_names.proofs.walker.Walker.+targets.Goals as goal

pub walk_targets-loop-part-preserved : goal.walk_targets-loop-part-preserved
walk_targets-loop-part-preserved t c =
    more-targets c.args.nested _ _ c.part-item.result _ _ _
    (next c.args.parts.now c.loop-part.part-index c.part-item.result c.loop-part-test.true c.part-item.is)
    c.in_ok-walk_target.ensures c.loop-part.invariant

pub walk_targets-returns : goal.walk_targets-returns
walk_targets-returns t c =
    no_more-targets c.args.nested _ _ _ (drop_all c.loop-part.part-index c.args.parts.now c.loop-part-test.false) c.loop-part.invariant
