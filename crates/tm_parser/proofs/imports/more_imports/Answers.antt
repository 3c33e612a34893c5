use Rattle.std.proofs.lemmas.Result.{err_from_is_err_and}
use Rattle.tm_syntax.specs.declared.token.Sign.TheVariants as sign
use Rattle.tm_parser.specs.Statements.{imported}
use Rattle.tm_expressions.proofs.Loops.{comma_comes_nearer, comma_refuses}
use Rattle.tm_parser.proofs.imports.more_imports.Goals as goal

pub loop-cursor-smaller : goal.loop-cursor-smaller
loop-cursor-smaller c = comma_comes_nearer sign.BlockEnd imported _ _ _ _ _ c.loop-cursor-test.ensures c.in_ok-imports.ensures

pub returns-in_err-imports : goal.returns-in_err-imports
returns-in_err-imports c =
    let p = err_from_is_err_and c.from_residual.result c.from_residual.ensures.1 in
    rw (p.1, p.2) (comma_refuses sign.BlockEnd imported _ _ _ _ _ c.loop-cursor.invariant c.loop-cursor-test.ensures c.in_err-imports.ensures)
