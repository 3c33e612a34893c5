use Rattle.std.proofs.Common.{◌<◌, ◌∙◌, length, ap, sym, arith, slice_get}
use Rattle.std.proofs.lemmas.Bool.Decides.{nat_tests}
use Rattle.tm_vm.proofs.Performed.{read_at}
use Rattle.tm_vm.proofs.StepsAtOnce.{step_attempted}
use Rattle.tm_vm.proofs.machine.Machine.attempt_next.Goals as goal

pub returns-in-Some : goal.returns-in-Some
returns-in-Some g c =
    let p = g.H.Host.program c.args.host.now in
    let a = c.args.self.now in
    let xs = c.as_slice.result.now in
    let found : c.place.result < length xs = grind (arith, nat_tests, sym c.in-Some.ensures.lookup.0) in
    let size = ap length c.as_slice.ensures in
    let within : a.run.place < length c.args.code.now = omega (arith, found, size, c.place.ensures) in
    let there = read_at xs c.place.result c.in-Some.instruction.now c.in-Some.ensures.lookup.3.0 c.in-Some.ensures.lookup.3.1 in
    let stands = ap (λ is. slice_get is a.run.place) (sym (c.as_slice.ensures ∙ c.requires))
    ∙ ap (λ n. slice_get xs n) (sym c.place.ensures) ∙ there in
    step_attempted (length c.args.code.now) p c.args.base.now c.in-Some.instruction.now a c.attempt.new.self
    (g.W.Sink.told c.args.writer.now) (g.W.Sink.told c.attempt.new.writer) c.attempt.result
    stands within c.attempt.ensures.paid c.attempt.ensures.done
