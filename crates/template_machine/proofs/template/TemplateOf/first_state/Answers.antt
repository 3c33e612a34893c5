use Rattle.std.proofs.Common.{◌≡◌, subst, sym}
use Rattle.template_machine.specs.Environment.{TemplateValue, meant}
use Rattle.template_machine.proofs.template.TemplateOf.first_state.Goals as goal

pub state_at-requires : goal.state_at-requires
state_at-requires g c =
    subst (λ (t : TemplateValue g.row.O.Denot). meant t t.id ≡ t.template) (sym c.rendering.ensures.same) c.rendering.ensures.meant
