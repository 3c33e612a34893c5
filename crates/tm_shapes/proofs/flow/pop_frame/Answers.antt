use Rattle.tm_shapes.specs.Flows.{with_frames}
use Rattle.tm_shapes.proofs.Levels.{at-level}
use Rattle.tm_shapes.proofs.Levels.{scope-popped, tells-on}
use Rattle.tm_shapes.proofs.flow.pop_frame.Goals as goal

pub returns-in-Some-Scope-default : goal.returns-in-Some-Scope-default
returns-in-Some-Scope-default c = λ site s h.
    let w = c.in-Some-Scope-default.ensures s.part h.level in
    tells-on _ _ _ _ c.at_level.result (with_frames w.0 s) c.plain.ensures (scope-popped site s _ _ w.1 c.in-Some-Scope-default.field-0-0-is)
    (rw c.at_level.ensures (at-level _ _ s _ w.0 s.part.captures s.part.escapes w.2 w.3 h))
