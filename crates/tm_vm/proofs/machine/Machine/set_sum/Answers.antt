use Rattle.std.proofs.Common.{◌≡◌, ◌+◌, ◌-◌, ◌∙◌, Ok, Some, slice_get, ap, sym, subst}
use Rattle.tm_meaning.specs.Instructions.{binary_of}
use Rattle.tm_meaning.specs.Machine.{Config}
use Rattle.tm_meaning.specs.World.{CanPay}
use Rattle.tm_trees.specs.Instructions.instructions
use Rattle.tm_vm.specs.Answers.{SilentlyAhead}
use Rattle.tm_runs.specs.Sums.{AddsUp, summand_of}
use Rattle.tm_state.specs.Growth.{SetsSum}
use Rattle.tm_vm.specs.Sums.{IsFoundNext}
use Rattle.tm_vm.specs.contracts.machine.Machine.{the_view}
use Rattle.tm_vm.specs.declared.flow.Flow.TheVariants as flow
use Rattle.tm_vm.proofs.Summed.{set_ahead}
use Rattle.tm_vm.proofs.machine.Machine.set_sum.Goals as goal

pub returns : goal.returns
returns g c =
    let p = g.H.Host.program c.args.host.now in
    let op = c.args.operator in
    let added : c.in_ok-right-2.right ≡ summand_of c.in_ok-right.right = cc c.in_ok-right-2.ensures in
    let same : the_view c.self.inside ≡ c.args.self.now = c.self.view_is in
    let state = c.self.inside.state in
    let new : Config = record { run = c.jump.new.self; captures = c.self.inside.captures; world = c.set_member_sum.new.self } in
    subst (λ (o : Config). SilentlyAhead p (binary_of p.host op o) o new (Ok flow.Ahead)) same
    (set_ahead p op c.args.name.now c.args.object.now c.in_ok-right.right c.in_ok-left.left c.value_limit-most.result (the_view c.self.inside)
    c.popped.new.self c.popped-2.new.self c.jump.new.self c.pay_down_to.new.self c.set_member_sum.new.self c.in_ok-right.ensures
    c.in_ok-left.ensures (c.pay_down_to.ensures ∙ ap (λ n. record state { fuel = n - 2 }) c.fuel_left.ensures)
    (subst (λ v. SetsSum c.args.name.now c.args.object.now c.in_ok-left.left v c.value_limit-most.result c.pay_down_to.new.self
    c.set_member_sum.new.self) added c.in_ok-set_member_sum.ensures.ok) c.set_member_sum.ensures.rest
    (c.jump.ensures ∙ ap (λ n. record c.popped-2.new.self { place = n }) (c.requires.three ∙ ap (λ (o : Config). o.run.place + 3) (sym same)))
    (subst (λ (o : Config). IsFoundNext p o c.args.object.now) (sym same) c.requires.found)
    (subst (λ (o : Config). slice_get (p.code o.run.stream) (o.run.place + 2) ≡ Some (instructions.SetAttr c.args.name.now)) (sym same) c.requires.set)
    (subst (λ (o : Config). CanPay 2 o.world.fuel) (sym same) c.requires.pays)
    (subst (λ (o : Config). AddsUp op o.run.operands) (sym same) c.requires.adds_up))
