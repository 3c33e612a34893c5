use Rattle.std.proofs.Common.{ap, sym, ◌∙◌}
use Rattle.tm_meaning.specs.World.{Template}
use Rattle.tm_templates.specs.Templates.{Compiled}
use Rattle.template_machine.proofs.Meant.{template_meant}
use Rattle.template_machine.proofs.rendering.RenderingHost.template_name.Goals as goal

pub returns : goal.returns
returns g c =
    c.name.ensures ∙ ap (λ (t : Compiled). t.name) c.template_at.ensures
    ∙ ap (λ (t : Template). t.name) (sym (template_meant g.O.Parties.stated c.args.self.now c.args.template.now))
