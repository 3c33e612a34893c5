use Rattle.std.proofs.Common.{◌≡◌, ◌+◌, ◌-◌, ◌∙◌, true, is_some, refl, subst, sym, ap}
use Rattle.tm_meaning.specs.World.{records_of}
use Rattle.tm_meaning.specs.Machine.{Activation, Config, audible}
use Rattle.tm_vm.proofs.Emitted.{emitted_at_once, no_formatter}
use Rattle.tm_vm.proofs.machine.Machine.emit_at_once.Goals as goal

pub returns-clause-done : goal.returns-clause-done
returns-clause-done g c =
    let host = (g.H.Host.program c.args.host.now).host in
    let e = c.in-Some-emit_at_once.ensures (records_of c.self.inside.state) in
    let heard = sym (subst (λ (m : Config). true ≡ audible c.args.base.now m) (sym c.self.view_is) c.if-not-is_audible.ensures) in
    let fine = rw c.escape.ensures at e.1 in
    let taken = rw c.escape.ensures at e.2 in
    let w = c.self.inside.state in
    let moved = c.pay_and_advance.ensures ∙ ap (λ (r : Activation). record {
      run = record r { place = r.place + 1 };
      captures = c.self.inside.captures;
      world = record w { fuel = w.fuel - 1 };
    }) c.drop_top.ensures in
    rw (sym c.self.view_is, c.written.ensures) (emitted_at_once _ _ host c.args.base.now _ _ c.in-Some.value.now c.in-Some.ensures.0
    c.in-Some-emit_at_once.answer (c.if-not-is_empty.ensures.0 refl) heard c.in-Some.ensures.1
    (no_formatter host.formatter (ap is_some c.objects.ensures.formatter ∙ sym c.if-has_formatter.ensures)) (e.0 host.undefined) fine moved taken)
