use Rattle.std.proofs.Common.{◌≡◌, subst}
use Rattle.template_machine.specs.Environment.{TemplateValue, meant}
use Rattle.template_machine.proofs.Started.{held_meant}
use Rattle.template_machine.proofs.template.TemplateOf.rendering.Goals as goal

-- what is held is what is meant by it
pub returns-clause-meant : goal.returns-clause-meant
returns-clause-meant g c =
    subst (λ (t : TemplateValue g.row.O.Denot). meant t t.id ≡ t.template) c.self.view_is
    (held_meant c.self.inside.environment.now c.self.inside.held c.self.invariant)
