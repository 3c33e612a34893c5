use Rattle.std.proofs.Common.{◌≡◌, ◌+◌, ◌-◌, ◌∙◌, true, subst, sym, ap}
use Rattle.tm_meaning.specs.World.{records_of}
use Rattle.tm_meaning.specs.Machine.{Activation, Config, audible}
use Rattle.tm_vm.proofs.Emitted.{captured_at_once}
use Rattle.tm_vm.proofs.machine.Machine.capture_at_once.Goals as goal

pub returns-clause-done : goal.returns-clause-done
returns-clause-done c = λ host base unformatted heard.
    let w = c.self.inside.state in
    let ks = c.emit_at_once.new.self in
    let put = c.in-Some-emit_at_once.ensures in
    let e = put.1 (records_of w) in
    let fine = rw c.escape.ensures at e.1 in
    let taken = rw c.escape.ensures at e.2 in
    let audible_here = subst (λ (m : Config). audible base m ≡ true) (sym c.self.view_is) heard in
    let moved = c.pay_and_advance.ensures ∙ ap (λ (r : Activation). record {
      run = record r { place = r.place + 1 };
      captures = ks;
      world = record w { fuel = w.fuel - 1 };
    }) c.drop_top.ensures in
    rw (sym c.self.view_is, c.captured.ensures) (captured_at_once host base _ _ c.in-Some.value.now c.in-Some.ensures.0
    c.in-Some-emit_at_once.answer put.0 audible_here c.in-Some.ensures.1 unformatted (e.0 host.undefined) fine ks moved taken)
