use Rattle.std.proofs.Common.{◌≡◌, ◌≤◌, ◌+◌, ◌∙◌, ◌∷◌, List, is_some, ap, arith, drop, slice_get, sym, subst}
use Rattle.tm_syntax.specs.Entries.{entries}
use Rattle.tm_trees.specs.Instructions.{Instruction}
use Rattle.tm_meaning.specs.Machine.{Config}
use Rattle.tm_runs.specs.Leaves.{LeafRun, RunsOut, begun}
use Rattle.tm_vm.specs.LeafCalls.{GivesText}
use Rattle.tm_vm.proofs.Emitted.{no_formatter}
use Rattle.tm_vm.proofs.LeafCalls.{called}
use Rattle.tm_vm.proofs.machine.Machine.leaf_text.Goals as goal

pub returns-clause-gives : goal.returns-clause-gives
returns-clause-gives g c =
    let host = (g.H.Host.program c.args.host.now).host in
    let p = g.H.Host.program c.args.host.now in
    let old : Config = record { run = c.self.inside.run; captures = c.self.inside.captures; world = c.self.inside.state } in
    let s = c.in-Some-plain_call.stream.now in
    let m = c.in-Some-macro_named.declared.now in
    let given = c.in-Some-plain_call.given.items in
    let place = c.in-Some-entry.place in
    let escape = c.escape-escape.result in
    let l : LeafRun = c.run.new.self in
    let first = begun place given c.self.inside.state.fuel in
    let begins : c.begin.new.self ≡ first = c.in_ok-begin.ensures ∙ ap (begun place given) c.fuel_left.ensures in
    let runs = subst (λ (is : List Instruction). RunsOut is escape first l) c.instructions-code.ensures
    (subst (λ (b : LeafRun). RunsOut c.instructions-code.result.now escape b l) begins (c.run.ensures.runs c.if-not-run.false)) in
    let less : l.fuel ≤ old.world.fuel = omega (arith, c.run.ensures.fuel, ap (λ (b : LeafRun). b.fuel) begins) in
    let at = ap (λ (is : List Instruction). slice_get (entries is) m.entry) (sym c.instructions-code.ensures)
    ∙ ap (λ n. slice_get (entries c.instructions-code.result.now) n) (sym c.entry-entry.ensures) ∙ sym c.in-Some-entry.ensures in
    let v = c.in_ok-value.field-0 in
    subst (λ (o : Config). GivesText p c.args.name.now c.args.count o v c.fuel-left.result) c.self.view_is (
      omega (arith, less, c.fuel-left.ensures),
      λ new moved.
          called p c.args.name.now c.args.count old new c.in-Some.args.now m s given place c.in-Some-entry.taken escape l v c.in-Some.ensures
          (sym c.is.ensures ∙ c.if-is.false) (c.in-Some-macro_named.ensures host) c.in-Some-plain_call.ensures at
          (omega (arith, c.if-taken-len.false, c.len.ensures, c.in-Some-plain_call.given.ok)) (no_formatter host.formatter (ap is_some c.objects.ensures.formatter ∙ sym c.has_formatter.ensures ∙ c.if-has_formatter.false))
          (sym c.escape-escape.ensures) runs less c.in_ok-value.ensures
          (moved ∙ ap (λ n. record old {
            run = record old.run { place = old.run.place + 1; operands = v ∷ drop c.args.count old.run.operands };
            world = record old.world { fuel = n };
          }) c.fuel-left.ensures),
    )
