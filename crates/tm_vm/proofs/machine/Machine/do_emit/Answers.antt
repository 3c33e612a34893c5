use Rattle.std.proofs.Common.{ap, subst, sym, ◌∙◌, rules}
use Rattle.tm_meaning.specs.Instructions.{emit_of}
use Rattle.tm_meaning.specs.Machine.{Activation, Config}
use Rattle.tm_vm.specs.Answers.{WritesNext}
use Rattle.tm_vm.proofs.Exported.{not_emitted}
use Rattle.tm_vm.proofs.machine.Machine.do_emit.Goals as goal

pub returns : goal.returns
returns g c = search rules fits 100

pub returns-in_err-check_value : goal.returns-in_err-check_value
returns-in_err-check_value g c =
    let host = (g.H.Host.program c.args.host.now).host in
    let told = g.W.Sink.told c.args.writer.now in
    let of_run : Activation → Config = λ r. record { run = r; captures = c.self.inside.captures; world = c.self.inside.state } in
    let new = of_run c.popped.new.self in
    subst (λ s. WritesNext (emit_of host c.args.base.now s) s new told told c.from_residual-in_err-check_value.result)
    (ap of_run (sym c.in_ok-value.ensures) ∙ c.self.view_is)
    (not_emitted host c.args.base.now new c.in_ok-value.value told c.from_residual-in_err-check_value.result c.in_err-check_value.field-0.0 c.from_residual-in_err-check_value.ensures.1 c.in_err-check_value.ensures)
