use Rattle.std.proofs.Common.{ap, subst, sym}
use Rattle.tm_syntax.specs.Named.{named_of}
use Rattle.tm_templates.specs.Templates.{ArePlacesOf, EachAccepted, placed}
use Rattle.tm_templates.proofs.Placed.{places_of_none}
use Rattle.tm_templates.proofs.templates.Templates.clear.Goals as goal

pub invariant_of-self : goal.invariant_of-self
invariant_of-self c =
    let es = c.clear-2.new.self.items in
    subst (λ ps. ArePlacesOf ps es × EachAccepted (placed es ps)) (ap named_of (sym c.clear.ensures.empty))
    (places_of_none es c.clear-2.ensures.items, tt)
