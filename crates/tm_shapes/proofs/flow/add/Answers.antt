use Rattle.std.proofs.Common.{◌∷◌}
use Rattle.tm_shapes.specs.declared.kind.Kind.TheVariants.{Group as group}
use Rattle.tm_shapes.specs.Flows.{add, next}
use Rattle.tm_shapes.specs.Flows.{with_operands}
use Rattle.tm_shapes.proofs.Levels.{added}
use Rattle.tm_shapes.proofs.Levels.{told}
use Rattle.tm_shapes.proofs.flow.add.Goals as goal

pub returns-in-Some-clause-told : goal.returns-in-Some-clause-told
returns-in-Some-clause-told c =
    told c.args.cells.now c.args.cells.now c.on_with.new.cells c.args.shape c.in-Some.left (λ site s. add site s s.part.operands)
    (λ site s. next site (group c.in-Some.origin ∷ s.part.operands) s) _
    (λ site s h. let w = c.in-Some.ensures s h in (with_operands w.0 s, added site s _ _ w.1, w.2))
    c.on_with.ensures.told
