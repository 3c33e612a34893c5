use Rattle.std.proofs.Common.{rules, ◌≡◌, None, Some, ap, subst, sym, ◌∙◌}
use Rattle.tm_shapes.specs.Told.{IsLower}
use Rattle.tm_shapes.specs.declared.cells.Item.TheVariants as items
use Rattle.tm_shapes.proofs.Showing.{same-cells, shows-lower, shows-lowest}
use Rattle.tm_shapes.proofs.shape.Shape.without_part.Goals as goal

pub returns-in_err-level : goal.returns-in_err-level
returns-in_err-level c = λ s shown.
    let none : c.from_residual.result ≡ None = search rules in
    subst (λ o. IsLower c.args.cells.now s o) (sym none) (shows-lowest c.args.cells.now c.args.self s
    (λ level b cell. absurd (cc (sym cell ∙ sym c.get.ensures.found ∙ c.in_err-level.was))) shown)

pub returns-in-Part : goal.returns-in-Part
returns-in-Part c = λ s shown.
    let is : (c.in_ok-level.field-0).item ≡ items.Part c.in-Part.level = search rules in
    shows-lower c.args.cells.now c.args.self s c.in-Part.level c.in_ok-level.field-0.below
    (sym c.get.ensures.found ∙ c.in_ok-level.was ∙ ap (λ item. Some (record { item = item; below = c.in_ok-level.field-0.below })) is) shown

pub returns-in_default : goal.returns-in_default
returns-in_default c = λ s shown.
    shows-lowest c.args.cells.now c.args.self s (λ level b cell.
    let e : (c.in_ok-level.field-0).item ≡ items.Part level = (same-cells _ _ (sym c.in_ok-level.was ∙ c.get.ensures.found ∙ cell)).0 in
    search rules) shown
