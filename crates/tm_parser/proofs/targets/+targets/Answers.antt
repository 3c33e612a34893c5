use Rattle.std.proofs.lemmas.Result.{err_from_is_err_and}
use Rattle.tm_expressions.specs.Grammar.{inside}
use Rattle.tm_parser.proofs.Loops.{target_comes_nearer, target_refuses}
use Rattle.tm_parser.proofs.targets.+targets.Goals as goal

pub more_targets-loop-alloc-smaller : goal.more_targets-loop-alloc-smaller
more_targets-loop-alloc-smaller t c = target_comes_nearer (inside c.args.depth) _ _ _ _ _ c.loop-alloc-test.ensures c.in_ok-targets.ensures

pub more_targets-returns-in_err-targets : goal.more_targets-returns-in_err-targets
more_targets-returns-in_err-targets t c =
    let p = err_from_is_err_and c.from_residual.result c.from_residual.ensures.1 in
    rw (p.1, p.2) (target_refuses (inside c.args.depth) _ _ _ _ _ c.loop-alloc.invariant c.loop-alloc-test.ensures c.in_err-targets.ensures)
