use Rattle.tm_parser.proofs.Names.{one_more, no_more}
use Rattle.tm_parser.proofs.blocks.+names.Goals as goal

pub add_names-loop-statement-preserved : goal.add_names-loop-statement-preserved
add_names-loop-statement-preserved t c =
    one_more _ _ _ c.args.statements.now c.loop-statement.statement-index c.statement-item.result c.loop-statement-test.true
    c.statement-item.is c.in_ok-add_names_of.ensures c.loop-statement.invariant

pub add_names-returns : goal.add_names-returns
add_names-returns t c = no_more _ _ c.args.statements.now c.loop-statement.statement-index c.loop-statement-test.false
    c.loop-statement.invariant
