use Rattle.std.proofs.Common.{◌∷◌, None, refl}
use Rattle.tm_shapes.specs.declared.kind.Kind.TheVariants.{Value as value}
use Rattle.tm_shapes.specs.Flows.{next, replaces_counted}
use Rattle.tm_shapes.specs.Flows.{with_operands}
use Rattle.tm_shapes.proofs.Levels.{group-counted}
use Rattle.tm_shapes.proofs.Levels.{told, told-anywhere, zero-counted}
use Rattle.tm_shapes.proofs.flow.replaces_group.Goals as goal

pub returns-in-Some-Group-default : goal.returns-in-Some-Group-default
returns-in-Some-Group-default c =
    told c.args.cells.now c.args.cells.now c.args.cells.now c.args.shape c.in-Some-Group-default.left (λ site s. replaces_counted site None s)
    (λ site s. next site (value ∷ s.part.operands) s) _
    (λ site s h. let w = c.in-Some-Group-default.ensures.popped s h in
    (with_operands w.0 s, group-counted site s _ _ w.1 _ c.in-Some-Group-default.field-0-0-is, w.2))
    (told-anywhere _ (λ site s. next site (value ∷ s.part.operands) s) _ c.valued.ensures c.args.cells.now)

pub returns-in_ok-pushed-in-Some-Zero-default : goal.returns-in_ok-pushed-in-Some-Zero-default
returns-in_ok-pushed-in-Some-Zero-default c = λ site s h.
    let w = c.in-Some-Zero-default.ensures.popped s h in (
      next site (value ∷ w.0) s,
      zero-counted site s _ _ w.1 _ c.in-Some-Zero-default.field-0-0-is,
      (with_operands (value ∷ w.0) s, c.in_ok-pushed-in-Some-Zero-default.ensures c.args.cells.now (with_operands w.0 s) w.2, refl),
    )
