use Rattle.std.proofs.Common.{◌∙◌}
use Rattle.tm_shapes.specs.Flows.{pop}
use Rattle.tm_shapes.specs.Flows.{swap_over, with_operands}
use Rattle.tm_shapes.proofs.Levels.{over-same}
use Rattle.tm_shapes.proofs.Levels.{tells-refused, told-there}
use Rattle.tm_shapes.proofs.flow.swap.Goals as goal

pub returns-in-Some-clause-told : goal.returns-in-Some-clause-told
returns-in-Some-clause-told c =
    told-there c.args.cells.now c.args.cells.now c.swap_over.new.cells c.args.shape c.in-Some.left (λ site s. pop s.part.operands (swap_over site s))
    (λ site s. swap_over site s s.part.operands) c.args.at.now _
    (λ site s is h. let w = c.in-Some.ensures s h in
    (with_operands w.0 s, w.1 (swap_over site s) ∙ over-same site s w.0, w.2))
    c.swap_over.ensures.told

pub returns-in-None-clause-told : goal.returns-in-None-clause-told
returns-in-None-clause-told c = λ site s is h. tells-refused _ _ _ _ c.plain.ensures (c.in-None.ensures s h (swap_over site s))
