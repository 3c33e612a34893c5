use Rattle.tm_shapes.specs.Flows.{with_operands}
use Rattle.tm_shapes.proofs.Levels.{no_closure, no_second}
use Rattle.tm_shapes.proofs.Levels.{two-operands}
use Rattle.tm_shapes.proofs.flow.macro_parts.Goals as goal

pub returns-in_err-kind-2 : goal.returns-in_err-kind-2
returns-in_err-kind-2 c = λ s h.
    let w = c.in_ok-kind.ensures.popped s h in
    rw c.from_residual-in_err-kind-2.ensures
    (λ site place. no_second site s place _ _ w.1 (c.in_err-kind-2.ensures.popped (with_operands w.0 s) w.2))

pub returns-in-Closure : goal.returns-in-Closure
returns-in-Closure c = λ s h.
    let w = c.in_ok-kind.ensures.popped s h in
    let v = c.in_ok-kind-2.ensures.popped (with_operands w.0 s) w.2 in
    (v.0, two-operands _ _ _ _ _ _ _ w.1 c.in-Names.is v.1 c.in-Closure.is, v.2)

pub returns-in_default-kind : goal.returns-in_default-kind
returns-in_default-kind c = λ s h site place.
    let w = c.in_ok-kind.ensures.popped s h in
    let v = c.in_ok-kind-2.ensures.popped (with_operands w.0 s) w.2 in
    no_closure site s place _ _ _ _ _ w.1 c.in-Names.is v.1 c.in_default-kind.not-Closure
