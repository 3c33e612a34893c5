use Rattle.std.proofs.Common.{ap, subst, sym}
use Rattle.tm_syntax.specs.Named.{named_of}
use Rattle.tm_templates.specs.Templates.{ArePlacesOf, EachAccepted, placed}
use Rattle.tm_templates.proofs.Placed.{places_of_none}
use Rattle.tm_templates.proofs.templates.Templates.new.Goals as goal

pub invariant_of-result : goal.invariant_of-result
invariant_of-result c =
    let es = c.new-2.result.items in
    subst (λ ps. ArePlacesOf ps es × EachAccepted (placed es ps)) (ap named_of (sym c.new.ensures.empty))
    (places_of_none es c.new-2.ensures.items, tt)
