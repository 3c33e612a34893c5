use Rattle.std.proofs.Common.{subst}
use Rattle.tm_shapes.specs.Verified.{IsAccepted}
use Rattle.tm_templates.specs.Templates.{AreAccepted, EachAccepted}
use Rattle.template_machine.specs.Environment.{TemplateValue, code}
use Rattle.template_machine.proofs.StreamRuns.{all_accepted}
use Rattle.template_machine.proofs.rendering.Rendering.accepted.Goals as goal

pub returns : goal.returns
returns g c =
    all_accepted c.args.self.now
    (subst (λ (t : TemplateValue g.row.O.Denot). EachAccepted t.environment.templates) c.self.view_is c.accepted.ensures)
    (subst (λ (t : TemplateValue g.row.O.Denot). AreAccepted t.template) c.self.view_is (subst AreAccepted c.compiled.ensures c.accepted-2.ensures))
