use Rattle.std.proofs.Common.{arith, rules, ◌≡◌, suc, Some, ap, sym, ◌∙◌}
use Rattle.tm_shapes.specs.declared.cells.Item.TheVariants as items
use Rattle.tm_shapes.proofs.Showing.{has-cell, shows-under-special, shows-under-value}
use Rattle.tm_shapes.proofs.shape.Shape.pop.Goals as goal

pub returns-in-Some-clause-popped : goal.returns-in-Some-clause-popped
returns-in-Some-clause-popped c = λ s shown.
    let e : c.args.self.values ≡ suc c.in-Some.values = search rules in
    shows-under-value c.args.cells.now c.args.self s c.in-Some.values e (omega (arith, c.if-self.false)) shown

pub returns-in_err-kind-clause-popped : goal.returns-in_err-kind-clause-popped
returns-in_err-kind-clause-popped c = λ s shown.
    let e : c.args.self.values ≡ 0 = search rules in
    let p = has-cell c.args.cells.now c.args.self s e (omega (arith, c.if-self.false)) shown in
    absurd (cc (sym p.3 ∙ sym c.get.ensures.found ∙ c.in_err-kind.was))

pub returns-in-Operand-clause-popped : goal.returns-in-Operand-clause-popped
returns-in-Operand-clause-popped c = λ s shown.
    let e : c.args.self.values ≡ 0 = search rules in
    let is : (c.in_ok-kind.field-0).item ≡ items.Operand c.in-Operand.kind c.in-Operand.values = search rules in
    shows-under-special c.args.cells.now c.args.self s c.in-Operand.kind c.in-Operand.values c.in_ok-kind.field-0.below e
    (omega (arith, c.if-self.false))
    (sym c.get.ensures.found ∙ c.in_ok-kind.was ∙ ap (λ item. Some (record { item = item; below = c.in_ok-kind.field-0.below })) is) shown
