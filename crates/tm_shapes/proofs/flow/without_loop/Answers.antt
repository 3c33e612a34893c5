use Rattle.std.proofs.Common.{arith}
use Rattle.tm_shapes.specs.Flows.{with_frames}
use Rattle.tm_shapes.proofs.Levels.{at-level, loop-popped}
use Rattle.tm_shapes.proofs.flow.without_loop.Goals as goal

pub returns-in-Some-Loop-default : goal.returns-in-Some-Loop-default
returns-in-Some-Loop-default c = λ s h.
    let w = c.in-Some-Loop-default.ensures s.part h.level in (
      with_frames w.0 s,
      (λ site. loop-popped site s _ _ _ _ _ w.1 c.in-Some-Loop-default.field-0-0-is (omega (arith, w.3.count, c.if-level-open.true))
          (omega (arith, w.3.escapes, c.if-level-escapes.true))),
      rw c.at_level.ensures (at-level _ _ s _ w.0 s.part.captures s.part.escapes w.2 w.3 h),
    )
