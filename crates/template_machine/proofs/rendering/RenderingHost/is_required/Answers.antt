use Rattle.std.proofs.Common.{ap, ◌∙◌}
use Rattle.tm_meaning.specs.Calls.{is_required}
use Rattle.tm_meaning.specs.World.{card_in}
use Rattle.tm_templates.specs.Templates.{Compiled, told_of}
use Rattle.template_machine.proofs.Meant.{required_meant}
use Rattle.template_machine.proofs.rendering.RenderingHost.is_required.Goals as goal

pub returns : goal.returns
returns g c =
    let part = c.args.stream.now.block in
    c.is_required.ensures ∙ ap (λ (t : Compiled). is_required (card_in (told_of t) part)) c.template.ensures
    ∙ required_meant g.O.Parties.stated c.args.self.now c.args.stream.now
