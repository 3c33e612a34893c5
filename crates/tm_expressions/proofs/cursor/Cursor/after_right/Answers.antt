use Rattle.std.proofs.lemmas.Result.{err_from_is_err_and}
use Rattle.tm_expressions.specs.Grammar.{inside}
use Rattle.tm_expressions.proofs.Loops.{because}
use Rattle.tm_expressions.proofs.Waiting.{right_ends, right_again, right_fails, right_above, right_less}
use Rattle.tm_expressions.proofs.cursor.Cursor.after_right.Goals as goal

pub returns-in_err-next-in-Some-take_link-clause-left : goal.returns-in_err-next-in-Some-take_link-clause-left
returns-in_err-next-in-Some-take_link-clause-left c = λ depth.
    let p = err_from_is_err_and c.from_residual-in_err-next-in-Some-take_link.result c.from_residual-in_err-next-in-Some-take_link.ensures.1 in
    rw (p.1, p.2) (because _ (λ none. right_fails (inside depth) _ _ _ _ _ _ _ _ c.requires c.in-Some.ensures c.in_ok-made.ensures
    c.in-Some-take_link.ensures.first c.in-Some-take_link.ensures.operator none) c.in_err-next-in-Some-take_link.ensures)

pub returns-in_ok-push-in-Some-take_link-clause-left : goal.returns-in_ok-push-in-Some-take_link-clause-left
returns-in_ok-push-in-Some-take_link-clause-left c = λ depth.
    right_again (inside depth) _ _ _ _ _ _ _ _ _ _ c.in-Some.ensures c.in_ok-made.ensures c.in-Some-take_link.ensures.first
    c.in_ok-next-in-Some-take_link.ensures c.in_ok-push-in-Some-take_link.ensures.ok

pub returns-in_ok-push-in-Some-take_link-clause-less : goal.returns-in_ok-push-in-Some-take_link-clause-less
returns-in_ok-push-in-Some-take_link-clause-less c =
    right_less _ _ _ _ _ _ _ _ _ c.in-Some.ensures c.in_ok-push-in-Some-take_link.ensures.ok c.in-Some-take_link.ensures.first

pub returns-in_ok-push-in-Some-take_link-clause-above : goal.returns-in_ok-push-in-Some-take_link-clause-above
returns-in_ok-push-in-Some-take_link-clause-above c =
    right_above _ _ _ _ _ _ _ c.in-Some.ensures c.in_ok-push-in-Some-take_link.ensures.ok c.in_ok-next-in-Some-take_link.ensures c.requires

pub returns-in_ok-ended-in-None-clause-left : goal.returns-in_ok-ended-in-None-clause-left
returns-in_ok-ended-in-None-clause-left c = λ depth.
    right_ends (inside depth) _ _ _ _ _ _ _ _ c.in-Some.ensures c.in_ok-made.ensures c.in-None.ensures.first
    c.in_ok-ended-in-None.ensures
