use Rattle.std.proofs.Common.{arith, rules, ◌≡◌, ◌-◌, None, true, false, length, refl, ap, subst, ◌∙◌}
use Rattle.tm_shapes.specs.Flows.{is_value, pops, with_operands}
use Rattle.tm_shapes.specs.Told.{IsPopped}
use Rattle.tm_shapes.proofs.Taken.{left-off, left-past, pops-one, pops-short}
use Rattle.tm_shapes.proofs.shape.Shape.without.Goals as goal

pub returns-then-operands-count : goal.returns-then-operands-count
returns-then-operands-count c = λ s shown f.
    pops-short c.args.count s.part.operands f (omega (arith, c.if-operands-count.true, c.operands.ensures.counted c.args.cells.now s shown))

pub loop-left-init : goal.loop-left-init
loop-left-init c = (
  omega (arith, c.if-operands-count.false, c.operands.ensures.within),
  λ s shown. (s.part.operands, omega (arith, c.if-operands-count.false, c.operands.ensures.counted c.args.cells.now s shown), (λ f. refl), shown),
)

pub overflow_sub-shape-then-left-shape : goal.overflow_sub-shape-then-left-shape
overflow_sub-shape-then-left-shape c = c.loop-left.invariant.0

pub overflow_sub-shape-in-loop-left : goal.overflow_sub-shape-in-loop-left
overflow_sub-shape-in-loop-left c = omega (arith, c.loop-left.invariant.0, c.if-left-shape.false)

pub returns-then-left-shape : goal.returns-then-left-shape
returns-then-left-shape c =
    left-off c.args.cells.now c.args.self c.args.count c.loop-left.shape c.loop-left.left c.loop-left.invariant.1 c.if-left-shape.true

pub returns-in_err-rest : goal.returns-in_err-rest
returns-in_err-rest c = λ s shown.
    let none : c.from_residual.result ≡ None = search rules in
    let p = left-past c.args.cells.now c.args.self c.args.count c.loop-left.shape c.loop-left.left c.loop-left.invariant.1
    (omega (arith, c.if-left-shape.false)) s shown in
    let empty = subst (λ o. IsPopped c.args.cells.now (with_operands p.0 s) o) c.in_err-rest.was (c.pop.ensures.popped (with_operands p.0 s) p.3) in
    absurd (omega (arith, ap length empty, p.1, c.if-left-shape.false))

pub returns-in_default : goal.returns-in_default
returns-in_default c = λ s shown f.
    let p = left-past c.args.cells.now c.args.self c.args.count c.loop-left.shape c.loop-left.left c.loop-left.invariant.1
    (omega (arith, c.if-left-shape.false)) s shown in
    let popped = subst (λ o. IsPopped c.args.cells.now (with_operands p.0 s) o) c.in_ok-rest.was (c.pop.ensures.popped (with_operands p.0 s) p.3) in
    let no_value : is_value (c.in_ok-rest.field-0).0 ≡ false = search rules in
    p.2 f ∙ pops-one (c.loop-left.left - c.loop-left.shape.values) p.0 (c.in_ok-rest.field-0).0 popped.0 (omega (arith, c.if-left-shape.false))
    popped.1 false no_value f

pub loop-left-preserved : goal.loop-left-preserved
loop-left-preserved c = (
  omega (arith, c.loop-left.invariant.0, c.if-left-shape.false, c.in_ok-rest.ensures.lower),
  λ s shown.
      let p = left-past c.args.cells.now c.args.self c.args.count c.loop-left.shape c.loop-left.left c.loop-left.invariant.1
      (omega (arith, c.if-left-shape.false)) s shown in
      let popped = subst (λ o. IsPopped c.args.cells.now (with_operands p.0 s) o) c.in_ok-rest.was (c.pop.ensures.popped (with_operands p.0 s) p.3) in
      let a_value : is_value (c.in_ok-rest.field-0).0 ≡ true = search rules in (
        popped.0,
        omega (arith, p.1, ap length popped.1),
        (λ f. p.2 f ∙ pops-one (c.loop-left.left - c.loop-left.shape.values) p.0 (c.in_ok-rest.field-0).0 popped.0
            (omega (arith, c.if-left-shape.false)) popped.1 true a_value f),
        popped.2,
      ),
)

pub returns : goal.returns
returns c = λ s shown.
    let p = c.loop-left.invariant.1 s shown in
    let none : c.loop-left.left ≡ 0 = omega (arith, c.loop-left-test.false) in
    (p.0, (λ f. p.2 f ∙ ap (λ n. pops n p.0 f) none), p.3)
