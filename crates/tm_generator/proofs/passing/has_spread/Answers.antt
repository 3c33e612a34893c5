use Rattle.std.proofs.Common.{sym, ◌∙◌}
use Rattle.std.proofs.lemmas.List.{drop_all}
use Rattle.tm_generator.proofs.PutExpressions.{next}
use Rattle.tm_generator.proofs.Spreading.{spread-found, spread-next, spread-none}
use Rattle.tm_generator.proofs.passing.has_spread.Goals as goal

pub returns-then-is_spread : goal.returns-then-is_spread
returns-then-is_spread c =
    spread-found _ _ c.argument-item.result _
    (next c.args.given.now c.loop-argument.argument-index c.argument-item.result c.loop-argument-test.true c.argument-item.is)
    c.loop-argument.invariant (sym c.is_spread.ensures ∙ c.if-is_spread.true)

pub loop-argument-preserved : goal.loop-argument-preserved
loop-argument-preserved c =
    spread-next _ _ c.argument-item.result _
    (next c.args.given.now c.loop-argument.argument-index c.argument-item.result c.loop-argument-test.true c.argument-item.is)
    c.loop-argument.invariant (sym c.is_spread.ensures ∙ c.if-is_spread.false)

pub returns : goal.returns
returns c = spread-none _ _ (drop_all c.loop-argument.argument-index c.args.given.now c.loop-argument-test.false) c.loop-argument.invariant
