use Rattle.std.proofs.Common.{◌≡◌, ◌∙◌, sym, ap, arith}
use Rattle.tm_meaning.specs.World.{World, Good, answered, bind, with_member}
use Rattle.tm_state.specs.contracts.state.StateData.{the_view}
use Rattle.tm_state.proofs.BoundAgain.{member_again, on_ok}
use Rattle.tm_state.proofs.state.StateData.set_member_sum.Goals as goal

pub returns-else-size-most-clause-ok : goal.returns-else-size-most-clause-ok
returns-else-size-most-clause-ok c =
    let x = c.args.name.now in
    let i = c.in-Ok.index in
    let sum = c.in-Ok-grow.sum in
    on_ok c.set_in-in-Ok-grow.result (λ is. record {
      sum = sum;
      added = c.in-Ok-grow.ensures;
      within = omega (arith, c.if-size-most.false, c.size.ensures);
      set =
          ap (λ r. bind (answered r c.args.self.now) (λ n w. Good tt (record w { namespaces = with_member n x sum w.namespaces }))) c.in-Ok.ensures
          ∙ ap (λ (w : World). Good tt (record w { namespaces = with_member i x sum w.namespaces })) (sym c.self.view_is)
          ∙ ap (λ ns. Good tt (record (the_view c.self.inside) { namespaces = ns }))
          (sym (is ∙ ap (with_member i x sum) c.in_ok-set_in.ensures.ok ∙ member_again x c.none.result sum i c.self.inside.namespaces.items));
    }) c.set_in-in-Ok-grow.ensures.ok
