use Rattle.std.proofs.Common.{ap, sym, ◌∙◌}
use Rattle.tm_meaning.specs.World.{Template}
use Rattle.tm_templates.specs.Templates.{Compiled}
use Rattle.template_machine.proofs.Meant.{template_meant}
use Rattle.template_machine.proofs.rendering.RenderingHost.template_escape.Goals as goal

pub returns : goal.returns
returns g c =
    c.escape.ensures ∙ ap (λ (t : Compiled). t.escape) c.template.ensures
    ∙ ap (λ (t : Template). t.escape) (sym (template_meant g.O.Parties.stated c.args.self.now c.args.template.now))
