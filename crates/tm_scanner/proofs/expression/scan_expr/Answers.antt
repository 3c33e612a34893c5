use Rattle.std.proofs.Common.{rules}
use Rattle.tm_scanner.proofs.Parts.{goes_on, no_parts, not_empty}
use Rattle.tm_scanner.proofs.Refusals.{refused_by, passed}
use Rattle.tm_scanner.proofs.expression.scan_expr.Goals as goal

pub loop-rest-preserved : goal.loop-rest-preserved
loop-rest-preserved c = (
  search rules,
  goes_on c.args.source.now _ _ c.loop-rest.rest.now c.in_ok-token.after.now _ c.in_ok-token.token c.loop-rest.invariant.1
      (not_empty c.loop-rest.rest.now c.is_empty.result c.is_empty.ensures c.loop-rest-test.true) c.in_ok-token.ensures.found c.past_blanks-rest-in-loop-rest.ensures.value c.in_ok-push.ensures.items,
)

pub returns-in_err-token-clause-refused : goal.returns-in_err-token-clause-refused
returns-in_err-token-clause-refused c =
    let e = c.in_err-token.field-0.0 in
    passed c.from_residual.result _ e c.from_residual.ensures.1
    (refused_by e (λ none. no_parts c.args.source.now _ c.loop-rest.rest.now c.loop-rest.invariant.1 none
    (not_empty c.loop-rest.rest.now c.is_empty.result c.is_empty.ensures c.loop-rest-test.true)) c.in_err-token.ensures.refused)
