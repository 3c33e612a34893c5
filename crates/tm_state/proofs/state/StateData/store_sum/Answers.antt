use Rattle.std.proofs.Common.{◌≡◌, ◌∙◌, ap, arith, inr}
use Rattle.tm_meaning.specs.World.{store}
use Rattle.tm_state.proofs.BoundAgain.{bound_again, on_ok}
use Rattle.tm_state.proofs.state.StateData.store_sum.Goals as goal

pub returns-else-size-most-clause-ok : goal.returns-else-size-most-clause-ok
returns-else-size-most-clause-ok c =
    let x = c.args.name.now in
    on_ok c.store-in-Ok.result (λ is. record {
      sum = c.in-Ok.sum;
      added = c.in-Ok.ensures;
      within = omega (arith, c.if-size-most.false, c.size.ensures);
      stored = is ∙ ap (store x c.in-Ok.sum) c.in_ok-store.ensures.ok ∙ bound_again x c.none.result c.in-Ok.sum c.args.self.now;
    }) c.store-in-Ok.ensures.ok

pub returns-in_ok-store-in-Err-clause-err : goal.returns-in_ok-store-in-Err-clause-err
returns-in_ok-store-in-Err-clause-err c =
    let x = c.args.name.now in
    inr (
      c.in-Err.left,
      c.in_ok-store-in-Err.ensures.ok ∙ ap (store x c.in-Err.left) c.in_ok-store.ensures.ok
          ∙ bound_again x c.none.result c.in-Err.left c.args.self.now,
    )
