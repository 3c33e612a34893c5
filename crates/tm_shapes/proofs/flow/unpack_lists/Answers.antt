use Rattle.std.proofs.Common.{◌∷◌, List, None}
use Rattle.tm_shapes.specs.declared.kind.Kind.{Kind}
use Rattle.tm_shapes.specs.declared.kind.Kind.TheVariants.{Group as group}
use Rattle.tm_shapes.specs.Flows.{next}
use Rattle.tm_shapes.specs.Flows.{unpack_lists, with_operands}
use Rattle.tm_shapes.proofs.Levels.{told}
use Rattle.tm_shapes.proofs.flow.unpack_lists.Goals as goal

pub returns-in-Some-clause-told : goal.returns-in-Some-clause-told
returns-in-Some-clause-told c =
    told c.args.cells.now c.args.cells.now c.on_with.new.cells c.args.shape c.in-Some.left (λ site s. unpack_lists site c.args.count s)
    (λ site s. next site (group None ∷ s.part.operands) s) _
    (λ site s h. let w = c.in-Some.ensures s h in
    (with_operands w.0 s, w.1 (λ (ks : List Kind). next site (group None ∷ ks) s), w.2))
    c.on_with.ensures.told
