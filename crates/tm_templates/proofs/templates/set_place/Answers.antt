use Rattle.std.proofs.Common.{◌∙◌, ap, sym}
use Rattle.tm_syntax.specs.Named.{named_of}
use Rattle.tm_syntax.proofs.Named.{find_named}
use Rattle.tm_templates.proofs.Ordered.{instead_absent, instead_named}
use Rattle.tm_templates.proofs.templates.set_place.Goals as goal

pub returns-in-Some : goal.returns-in-Some
returns-in-Some c =
    ap named_of (c.get_mut.follows.holds c.args.place).0 ∙ instead_named c.args.places.now.entries c.args.name.now c.args.place

pub returns-in_default : goal.returns-in_default
returns-in_default c =
    let x = c.args.name.now in
    let ps = named_of c.args.places.now.entries in
    let absent = sym (find_named c.args.places.now.entries x) ∙ sym c.in_default.ensures.value in
    ap (λ m. named_of m.entries) c.get_mut.follows.holds-at-none ∙ sym (instead_absent x c.args.place ps absent)
