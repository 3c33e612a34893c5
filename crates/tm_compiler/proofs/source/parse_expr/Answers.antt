use Rattle.std.proofs.Common.{sym, subst}
use Rattle.tm_scanner.specs.Spells.{SpellsParts}
use Rattle.tm_scanner.proofs.Refusals.{refused_by, refused_result, passed}
use Rattle.tm_compiler.proofs.Sources.{no_parts, no_expr}
use Rattle.tm_compiler.proofs.source.parse_expr.Goals as goal

pub returns-in_err-tokens-clause-refused : goal.returns-in_err-tokens-clause-refused
returns-in_err-tokens-clause-refused c =
    let e = c.in_err-tokens.field-0.0 in
    passed c.from_residual.result _ e c.from_residual.ensures.1
    (refused_by e (no_parts c.args.source.now) c.in_err-tokens.ensures.refused)

pub returns-clause-refused : goal.returns-clause-refused
returns-clause-refused c =
    let found = subst (SpellsParts c.args.source.now) (sym c.deref.ensures.value) c.in_ok-tokens.ensures.found in
    refused_result c.parse_expr_tokens.result (no_expr c.args.source.now _ found) c.parse_expr_tokens.ensures.refused
