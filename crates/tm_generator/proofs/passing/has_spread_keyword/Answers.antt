use Rattle.std.proofs.Common.{sym, ◌∙◌}
use Rattle.std.proofs.lemmas.List.{drop_all}
use Rattle.tm_generator.proofs.PutExpressions.{next}
use Rattle.tm_generator.proofs.Spreading.{spread_keyword-found, spread_keyword-next, spread_keyword-none}
use Rattle.tm_generator.proofs.passing.has_spread_keyword.Goals as goal

pub returns-then-is_spread_keyword : goal.returns-then-is_spread_keyword
returns-then-is_spread_keyword c =
    spread_keyword-found _ _ c.keyword-item.result _
    (next c.args.named.now c.loop-keyword.keyword-index c.keyword-item.result c.loop-keyword-test.true c.keyword-item.is)
    c.loop-keyword.invariant (sym c.is_spread_keyword.ensures ∙ c.if-is_spread_keyword.true)

pub loop-keyword-preserved : goal.loop-keyword-preserved
loop-keyword-preserved c =
    spread_keyword-next _ _ c.keyword-item.result _
    (next c.args.named.now c.loop-keyword.keyword-index c.keyword-item.result c.loop-keyword-test.true c.keyword-item.is)
    c.loop-keyword.invariant (sym c.is_spread_keyword.ensures ∙ c.if-is_spread_keyword.false)

pub returns : goal.returns
returns c = spread_keyword-none _ _ (drop_all c.loop-keyword.keyword-index c.args.named.now c.loop-keyword-test.false) c.loop-keyword.invariant
