use Rattle.std.proofs.Common.{◌∙◌, Ok, ap, refl}
use Rattle.template_machine.specs.Environment.{TemplateValue}
use Rattle.template_machine.proofs.Started.{first_at}
use Rattle.template_machine.proofs.rendering.Rendering.state_at.Goals as goal

pub returns : goal.returns
returns g c =
    c.set_template_place.ensures ∙ first_at g.O.Parties.stated c.args.self.now c.in_ok-template.template c.compiled-own.result.now
    c.block_names.result.now.value c.escape.result c.fuel.result c.args.id c.args.id c.args.context (Ok c.in_ok-state.state)
    c.requires c.in_ok-template.ensures.ok (c.compiled-own.ensures ∙ ap (λ (t : TemplateValue g.row.O.Denot). t.template) c.self.view_is)
    c.block_names.ensures c.ascend.ensures c.escape.ensures (c.fuel.ensures ∙ ap (λ (t : TemplateValue g.row.O.Denot). t.environment.fuel) c.self.view_is)
    refl c.in_ok-state.ensures
