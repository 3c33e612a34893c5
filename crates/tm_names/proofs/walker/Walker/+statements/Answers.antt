use Rattle.std.proofs.lemmas.List.{drop_all}
use Rattle.tm_names.proofs.Forms.{more-statements, no_more-statements, next}
use Rattle.tm_names.proofs.walker.Walker.+statements.Goals as goal

pub walk_all-loop-statement-preserved : goal.walk_all-loop-statement-preserved
walk_all-loop-statement-preserved t c =
    more-statements c.args.nested _ _ c.statement-item.result _ _ _
    (next c.args.body.now c.loop-statement.statement-index c.statement-item.result c.loop-statement-test.true c.statement-item.is)
    c.in_ok-walk.ensures c.loop-statement.invariant

pub walk_all-returns : goal.walk_all-returns
walk_all-returns t c =
    no_more-statements c.args.nested _ _ _ (drop_all c.loop-statement.statement-index c.args.body.now c.loop-statement-test.false) c.loop-statement.invariant
