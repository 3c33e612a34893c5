use Rattle.std.proofs.lemmas.Result.{err_from_is_err_and}
use Rattle.tm_syntax.specs.declared.token.Sign.TheVariants as sign
use Rattle.tm_expressions.specs.Grammar.{inside, expr}
use Rattle.tm_expressions.proofs.Loops.{comma_comes_nearer, comma_refuses}
use Rattle.tm_parser.proofs.assignments.more_bare_items.Goals as goal

pub loop-alloc-smaller : goal.loop-alloc-smaller
loop-alloc-smaller c = comma_comes_nearer sign.BlockEnd (expr (inside c.args.depth)) _ _ _ _ _ c.loop-alloc-test.ensures
    c.in_ok-items.ensures

pub returns-in_err-items : goal.returns-in_err-items
returns-in_err-items c =
    let p = err_from_is_err_and c.from_residual.result c.from_residual.ensures.1 in
    rw (p.1, p.2) (comma_refuses sign.BlockEnd (expr (inside c.args.depth)) _ _ _ _ _ c.loop-alloc.invariant c.loop-alloc-test.ensures
    c.in_err-items.ensures)
