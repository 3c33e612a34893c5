use Rattle.std.proofs.Common.{◌∷◌, refl}
use Rattle.tm_shapes.specs.Flows.{with_captures}
use Rattle.tm_shapes.proofs.Levels.{capture-pushed}
use Rattle.tm_shapes.proofs.Levels.{tells-on}
use Rattle.tm_shapes.proofs.flow.begin_capture.Goals as goal

pub returns-clause-told : goal.returns-clause-told
returns-clause-told c = λ site s h.
    tells-on _ _ _ _ c.at_level.result (with_captures (c.args.mode.now ∷ s.part.captures) s) c.plain.ensures refl
    (rw c.at_level.ensures (capture-pushed _ _ _ _ c.args.mode.now _ _ _ c.put.ensures.grown c.capture_item.ensures c.in-Some.ensures.1
    c.in_ok-captures.ensures.found h))
