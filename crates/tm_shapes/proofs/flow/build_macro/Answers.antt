use Rattle.std.proofs.Common.{◌∙◌, ◌∷◌, sym}
use Rattle.tm_shapes.specs.declared.kind.Kind.TheVariants.{Value as value}
use Rattle.tm_shapes.specs.Flows.{with_operands}
use Rattle.tm_shapes.specs.Shapes.{entry_shape}
use Rattle.tm_shapes.proofs.Levels.{macro-built, macro-entered}
use Rattle.tm_shapes.proofs.Levels.{tells-either, tells-on}
use Rattle.tm_shapes.proofs.flow.build_macro.Goals as goal

pub returns-then-at : goal.returns-then-at
returns-then-at c = λ site s is h.
    let w = c.in-Some.ensures s h in
    tells-either _ _ _ _ c.in_ok-next-in-Some.next c.over.result c.args.place (with_operands (value ∷ w.0) s) (entry_shape c.in-Some.count)
    c.plain.ensures (macro-entered site s _ _ _ w.1 (sym is.enters ∙ c.if-at.true))
    (c.in_ok-next-in-Some.ensures c.args.cells.now (with_operands w.0 s) w.2) (c.over.ensures c.args.cells.now)

pub returns-else-at : goal.returns-else-at
returns-else-at c = λ site s is h.
    let w = c.in-Some.ensures s h in
    tells-on _ _ _ _ c.in_ok-next-in-Some.next (with_operands (value ∷ w.0) s)
    c.plain-else-at.ensures (macro-built site s _ _ _ w.1 (sym is.enters ∙ c.if-at.false))
    (c.in_ok-next-in-Some.ensures c.args.cells.now (with_operands w.0 s) w.2)
