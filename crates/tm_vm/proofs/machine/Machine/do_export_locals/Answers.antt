use Rattle.std.proofs.Common.{ap, subst, sym, ◌∙◌}
use Rattle.tm_meaning.specs.Instructions.{export_locals_of}
use Rattle.tm_meaning.specs.Machine.{Activation, Config}
use Rattle.tm_vm.specs.Answers.{Silently}
use Rattle.tm_vm.proofs.Exported.{exported, not_exported}
use Rattle.tm_vm.proofs.machine.Machine.do_export_locals.Goals as goal

pub returns-in_err-module : goal.returns-in_err-module
returns-in_err-module c =
    let of_run : Activation → Config = λ r. record { run = r; captures = c.self.inside.captures; world = c.self.inside.state } in
    let new = of_run c.popped.new.self in
    subst (λ s. Silently (export_locals_of s) s new c.from_residual-in_err-module.result) (ap of_run (sym c.in_ok-value.ensures) ∙ c.self.view_is)
    (not_exported new c.in_ok-value.value c.from_residual-in_err-module.result c.in_err-module.field-0.0 c.from_residual-in_err-module.ensures.1 c.in_err-module.ensures.err)

pub returns : goal.returns
returns c =
    let of_run : Activation → Config = λ r. record { run = r; captures = c.self.inside.captures; world = c.self.inside.state } in
    let popped = of_run c.popped.new.self in
    subst (λ s. Silently (export_locals_of s) s c.push_next.new.self c.push_next.result) (ap of_run (sym c.in_ok-value.ensures) ∙ c.self.view_is)
    (exported popped c.push_next.new.self c.in_ok-value.value c.in_ok-module.module c.push_next.result c.in_ok-module.ensures.ok c.push_next.ensures)
