use Rattle.std.proofs.lemmas.Result.{err_from_is_err_and}
use Rattle.tm_expressions.specs.Grammar.{inside}
use Rattle.tm_parser.proofs.Loops.{filter_comes_nearer, filter_refuses}
use Rattle.tm_parser.proofs.filters.more_filters.Goals as goal

pub loop-alloc-smaller : goal.loop-alloc-smaller
loop-alloc-smaller c = filter_comes_nearer (inside c.args.depth) _ _ _ _ _ c.loop-alloc-test.ensures c.in_ok-one_filter.ensures

pub returns-in_err-one_filter : goal.returns-in_err-one_filter
returns-in_err-one_filter c =
    let p = err_from_is_err_and c.from_residual.result c.from_residual.ensures.1 in
    rw (p.1, p.2) (filter_refuses (inside c.args.depth) _ _ _ _ _ c.loop-alloc.invariant c.loop-alloc-test.ensures c.in_err-one_filter.ensures)
