use Rattle.tm_expressions.specs.Grammar.{inside}
use Rattle.tm_expressions.proofs.Waiting.{leads_same, nothing_there, postfix_there}
use Rattle.tm_expressions.proofs.cursor.Cursor.turn.Goals as goal

pub returns-in_default-clause-left : goal.returns-in_default-clause-left
returns-in_default-clause-left c = λ depth.
    leads_same _ _ _ _ _ (c.after_right.ensures.left depth) (nothing_there (inside depth) c.args.waiting.now c.args.reached _ c.in_default.ensures)

pub returns-then-level-eq-POSTFIX_LEVEL-clause-left : goal.returns-then-level-eq-POSTFIX_LEVEL-clause-left
returns-then-level-eq-POSTFIX_LEVEL-clause-left c = λ depth.
    postfix_there (inside depth) c.args.waiting.now c.args.reached _ _ c.in-Some.ensures c.if-level-eq-POSTFIX_LEVEL.true
