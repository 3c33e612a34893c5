use Rattle.std.proofs.Common.{ap, subst, sym, ◌∙◌}
use Rattle.tm_meaning.specs.Instructions.{emit_of}
use Rattle.tm_meaning.specs.Machine.{Activation, Config}
use Rattle.tm_vm.specs.Answers.{WritesNext}
use Rattle.tm_vm.proofs.Exported.{not_emitted}
use Rattle.tm_vm.proofs.machine.Machine.emit_formatted.Goals as goal

pub returns-in_err-formatted : goal.returns-in_err-formatted
returns-in_err-formatted g c =
    let host = (g.H.Host.program c.args.host.now).host in
    let told = g.W.Sink.told c.args.writer.now in
    let of_run : Activation → Config = λ r. record { run = r; captures = c.self.inside.captures; world = c.self.inside.state } in
    let new = of_run c.popped.new.self in
    subst (λ s. WritesNext (emit_of host c.args.base.now s) s new told told c.from_residual-in_err-formatted.result)
    (ap of_run (sym c.in_ok-value.ensures) ∙ c.self.view_is)
    (not_emitted host c.args.base.now new c.in_ok-value.value told c.from_residual-in_err-formatted.result c.in_err-formatted.field-0.0 c.from_residual-in_err-formatted.ensures.1 c.in_err-formatted.ensures)
