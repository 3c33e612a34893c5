use Rattle.std.proofs.lemmas.Result.{err_from_is_err_and}
use Rattle.tm_expressions.proofs.Loops.{part_comes_nearer, part_refuses}
use Rattle.tm_expressions.proofs.cursor.Cursor.more_parts.Goals as goal

pub loop-self-smaller : goal.loop-self-smaller
loop-self-smaller c = part_comes_nearer _ _ _ _ _ c.loop-self-test.ensures c.in_ok-name-2.ensures

pub returns-in_err-name-2 : goal.returns-in_err-name-2
returns-in_err-name-2 c =
    let p = err_from_is_err_and c.from_residual-in_err-name-2.result c.from_residual-in_err-name-2.ensures.1 in
    rw (p.1, p.2) (part_refuses _ _ _ _ _ c.loop-self.invariant c.loop-self-test.ensures c.in_err-name-2.ensures)
