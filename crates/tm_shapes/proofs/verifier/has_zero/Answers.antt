use Rattle.std.proofs.Common.{◌≡◌, ◌∙◌, ◌||◌, ◌+◌, drop, ap, sym}
use Rattle.tm_shapes.specs.Accepts.{has_zero}
use Rattle.tm_shapes.proofs.Rests.{next, none_left}
use Rattle.tm_shapes.proofs.verifier.has_zero.Goals as goal

pub returns-then-loads_zero : goal.returns-then-loads_zero
returns-then-loads_zero c =
    let code = c.args.code.now in
    let left = drop (c.loop-instruction.instruction-index + 1) code in
    let rest = next code c.loop-instruction.instruction-index c.instruction-item.result c.loop-instruction-test.true c.instruction-item.is in
    sym (sym c.loop-instruction.invariant ∙ ap has_zero rest ∙ ap (λ b. b || has_zero left) (sym c.loads_zero.ensures ∙ c.if-loads_zero.true))

pub loop-instruction-preserved : goal.loop-instruction-preserved
loop-instruction-preserved c =
    let code = c.args.code.now in
    let left = drop (c.loop-instruction.instruction-index + 1) code in
    let rest = next code c.loop-instruction.instruction-index c.instruction-item.result c.loop-instruction-test.true c.instruction-item.is in
    sym (ap (λ b. b || has_zero left) (sym c.loads_zero.ensures ∙ c.if-loads_zero.false)) ∙ sym (ap has_zero rest) ∙ c.loop-instruction.invariant

pub returns : goal.returns
returns c =
    let none = none_left c.args.code.now c.loop-instruction.instruction-index c.loop-instruction-test.false in
    sym (ap has_zero none) ∙ c.loop-instruction.invariant
