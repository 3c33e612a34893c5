use Rattle.std.proofs.Common.{subst}
use Rattle.tm_syntax.specs.Named.{named_of}
use Rattle.tm_scopes.specs.Places.{AreOrdered}
use Rattle.tm_templates.proofs.Placed.{ordered-placed}
use Rattle.tm_templates.proofs.templates.Templates.ascend.Goals as goal

pub returns : goal.returns
returns c =
    let inside = c.self.inside in
    subst AreOrdered c.self.view_is (ordered-placed inside.entries.items (named_of inside.places.entries) c.self.invariant.0.ordered)
