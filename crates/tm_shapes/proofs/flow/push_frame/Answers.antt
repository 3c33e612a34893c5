use Rattle.std.proofs.Common.{◌∷◌, refl}
use Rattle.tm_shapes.specs.Flows.{with_frames}
use Rattle.tm_shapes.proofs.Levels.{frame-pushed}
use Rattle.tm_shapes.proofs.Levels.{tells-on}
use Rattle.tm_shapes.proofs.flow.push_frame.Goals as goal

pub returns-clause-told : goal.returns-clause-told
returns-clause-told c = λ site s h.
    tells-on _ _ _ _ c.at_level.result (with_frames (c.args.frame ∷ s.part.frames) s) c.plain.ensures refl
    (rw c.at_level.ensures (frame-pushed _ _ _ _ _ _ c.put.ensures.grown c.in_ok-frames.ensures.found h))
