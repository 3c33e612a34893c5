use Rattle.std.proofs.Common.{subst}
use Rattle.tm_parser.specs.Template.{SpellsExpression}
use Rattle.tm_compiler.proofs.source.one_expr.Goals as goal

pub returns : goal.returns
returns c = λ source a b h k.
    c.one_expr.ensures h.tokens a b h.parsed
    (subst (λ ts. SpellsExpression ts b) (c.one_parts.ensures source k.tokens h.tokens k.scanned h.scanned) k.parsed)
