use Rattle.std.proofs.Common.{◌∷◌}
use Rattle.tm_shapes.specs.declared.kind.Kind.TheVariants.{Value as value}
use Rattle.tm_shapes.specs.Flows.{end_capture, next}
use Rattle.tm_shapes.specs.Flows.{with_captures}
use Rattle.tm_shapes.proofs.Levels.{capture-ended, capture-popped}
use Rattle.tm_shapes.proofs.Levels.{told, told-anywhere}
use Rattle.tm_shapes.proofs.flow.end_capture.Goals as goal

pub returns-in-Some-Some : goal.returns-in-Some-Some
returns-in-Some-Some c =
    told c.args.cells.now c.args.cells.now c.args.cells.now c.args.shape c.at_level.result (λ site s. end_capture site s s.part.captures)
    (λ site s. next site (value ∷ s.part.operands) s) _
    (λ site s h.
    let w = capture-popped _ _ _ c.in-Some-Some.cell c.in-Some-Some.open c.in-Some-Some.ensures.found c.in-Some-Some.ensures'.1 h in
    (with_captures w.1 s, capture-ended site s _ _ w.2, rw c.at_level.ensures w.3))
    (told-anywhere _ (λ site s. next site (value ∷ s.part.operands) s) _ c.valued.ensures c.args.cells.now)
