use Rattle.std.proofs.Common.{length, sym, ap, ◌∙◌}
use Rattle.tm_primitives.proofs.Steps.{length-places_from}
use Rattle.tm_primitives.proofs.places.Places.len.Goals as goal

pub returns : goal.returns
returns c = sym (length-places_from c.self.inside.next c.self.inside.step c.self.inside.left) ∙ ap length c.self.view_is
