use Rattle.std.proofs.Common.{◌∙◌, length, ap, sym, subst}
use Rattle.tm_meaning.specs.Machine.{Config}
use Rattle.tm_meaning.specs.Steps.{step}
use Rattle.tm_vm.specs.Answers.{Paid}
use Rattle.tm_vm.proofs.Performed.{left}
use Rattle.tm_vm.proofs.machine.Machine.step.Goals as goal

pub step_by_method-requires : goal.step_by_method-requires
step_by_method-requires g c =
    c.requires ∙ ap (λ (m : Config). (g.H.Host.program c.args.host.now).code m.run.stream) (sym c.in-Left.ensures.0)

pub returns-in-Left-clause-performs : goal.returns-in-Left-clause-performs
returns-in-Left-clause-performs g c =
    let p = g.H.Host.program c.args.host.now in
    left (λ (m : Config). step p c.args.base.now m) c.args.self.now c.attempt_next.new.self c.step_by_method.new.self
    (g.W.Sink.told c.args.writer.now) (g.W.Sink.told c.attempt_next.new.writer) c.in-Left.ensures c.step_by_method.ensures.performs

pub returns-in-Left-clause-paid : goal.returns-in-Left-clause-paid
returns-in-Left-clause-paid g c =
    let p = g.H.Host.program c.args.host.now in
    subst (λ (m : Config). Paid p (length c.args.code.now) c.step_by_method.result m c.step_by_method.new.self)
    c.in-Left.ensures.0 c.step_by_method.ensures.paid
