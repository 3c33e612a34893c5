use Rattle.std.proofs.Common.{ℕ, List, subst}
use Rattle.tm_scanner.proofs.Refusals.{passed}
use Rattle.tm_templates.specs.Sources.{source_bytes}
use Rattle.tm_templates.specs.Templates.{IsRefusedExpression}
use Rattle.tm_templates.proofs.compiled.CompiledTemplate.expression.Goals as goal

pub returns-in_err-tree-clause-refused : goal.returns-in_err-tree-clause-refused
returns-in_err-tree-clause-refused c =
    let why = c.in_err-tree.field-0.0 in
    let given = subst (λ (s : List ℕ). IsRefusedExpression s why) c.as_str.ensures c.in_err-tree.ensures.refused in
    passed c.from_residual.result (IsRefusedExpression (source_bytes c.args.source)) why c.from_residual.ensures.1 given
