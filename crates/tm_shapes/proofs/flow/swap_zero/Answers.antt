use Rattle.std.proofs.Common.{◌∙◌, ◌∷◌, Some, refl, sym}
use Rattle.tm_shapes.specs.declared.kind.Kind.TheVariants.{Opened as opened}
use Rattle.tm_shapes.specs.Flows.{next}
use Rattle.tm_shapes.specs.Flows.{with_operands}
use Rattle.tm_shapes.proofs.Levels.{row-zero}
use Rattle.tm_shapes.proofs.flow.swap_zero.Goals as goal

pub returns-in_ok-with-clause-told : goal.returns-in_ok-with-clause-told
returns-in_ok-with-clause-told c = λ site s is h. (
  next site (opened (Some c.args.place) ∷ s.part.operands) s,
  row-zero site s _ _ (sym (c.if-is_row.ensures ∙ is.row)),
  (with_operands (opened (Some c.args.place) ∷ s.part.operands) s, c.in_ok-with.ensures.shown s h, refl),
)
