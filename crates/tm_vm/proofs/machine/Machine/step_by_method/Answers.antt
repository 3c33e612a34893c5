use Rattle.std.proofs.Common.{◌<◌, ◌∙◌, length, ap, sym, arith, slice_get}
use Rattle.std.proofs.lemmas.Bool.Decides.{nat_tests}
use Rattle.tm_meaning.specs.Machine.{Config}
use Rattle.tm_vm.proofs.Performed.{read_at, step_done}
use Rattle.tm_vm.proofs.Weight.{paid_for}
use Rattle.tm_vm.proofs.machine.Machine.step_by_method.Goals as goal

pub returns-clause-paid : goal.returns-clause-paid
returns-clause-paid g c =
    let p = g.H.Host.program c.args.host.now in
    let found : c.place.result < length c.as_slice-instructions.result.now = grind (arith, nat_tests, sym c.in-Some.ensures.lookup.0) in
    let size = ap length c.as_slice-instructions.ensures in
    let within : c.args.self.now.run.place < length c.args.code.now = omega (arith, found, size, c.place.ensures) in
    paid_for (length c.args.code.now) p c.in-Some.instruction.now c.args.self.now c.charge.new.self c.perform_within.new.self c.perform_within.result
    c.in_default-charge.ensures.spent (ap (λ (m : Config). m.run) c.charge.ensures.rest)
    (ap (λ (m : Config). m.world.loaded) c.charge.ensures.rest) within c.perform_within.ensures.performs

pub returns-clause-performs : goal.returns-clause-performs
returns-clause-performs g c =
    let p = g.H.Host.program c.args.host.now in
    let a = c.args.self.now in
    let xs = c.as_slice-instructions.result.now in
    let there = read_at xs c.place.result c.in-Some.instruction.now c.in-Some.ensures.lookup.3.0 c.in-Some.ensures.lookup.3.1 in
    let found = ap (λ is. slice_get is a.run.place) (sym (c.as_slice-instructions.ensures ∙ c.requires))
    ∙ ap (λ n. slice_get xs n) (sym c.place.ensures) ∙ there in
    step_done p c.args.base.now c.in-Some.instruction.now a c.charge.new.self c.perform_within.new.self c.perform_within.result
    found c.in_default-charge.ensures.ok c.charge.ensures.kept c.charge.ensures.rest c.perform_within.ensures.performs
