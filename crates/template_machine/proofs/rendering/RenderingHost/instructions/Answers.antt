use Rattle.std.proofs.Common.{ap, ◌∙◌}
use Rattle.tm_templates.specs.Templates.{Compiled, part_code}
use Rattle.template_machine.proofs.rendering.RenderingHost.instructions.Goals as goal

pub returns : goal.returns
returns g c = c.stream.ensures ∙ ap (λ (t : Compiled). part_code t c.args.stream.now.block) c.template_at.ensures
