use Rattle.std.proofs.Common.{ap, sym, ◌∙◌}
use Rattle.tm_syntax.specs.Named.{find}
use Rattle.template_machine.specs.Environment.{TemplateValue}
use Rattle.template_machine.proofs.Meant.{blocks_found, blocks_missing, escape_found}
use Rattle.template_machine.proofs.rendering.RenderingHost.entry.Goals as goal

pub returns-in-Some : goal.returns-in-Some
returns-in-Some g c =
    let x = c.args.name.now in
    let t = c.in-Some.template.now in
    let found = ap (λ (v : TemplateValue g.row.O.Denot). find x v.environment.templates) (sym c.self.view_is) ∙ c.in-Some.ensures.1 in (
      c.in-Some.ensures.0,
      escape_found g.O.Parties.stated c.args.self.now x t _ found c.escape.ensures,
      blocks_found g.O.Parties.stated c.args.self.now x t _ found c.block_names.ensures,
    )

pub returns-in-None : goal.returns-in-None
returns-in-None g c =
    let x = c.args.name.now in
    blocks_missing g.O.Parties.stated c.args.self.now x
    (ap (λ (v : TemplateValue g.row.O.Denot). find x v.environment.templates) (sym c.self.view_is) ∙ c.in-None.ensures)
