use Rattle.std.proofs.Common.{ap, subst, sym}
use Rattle.tm_syntax.specs.Named.{named_of}
use Rattle.tm_templates.specs.Templates.{AreFoundIn, EachPlaced, placed}
use Rattle.tm_templates.proofs.Placed.{all_found, all_placed}
use Rattle.tm_templates.proofs.templates.Templates.iter.Goals as goal

pub invariant_of-result : goal.invariant_of-result
invariant_of-result c =
    let es = c.self.inside.entries.items in
    subst (EachPlaced es) (ap named_of (sym c.iter.ensures.rest)) (all_placed es (named_of c.self.inside.places.entries) c.self.invariant.0)

pub returns-clause-found : goal.returns-clause-found
returns-clause-found c =
    let es = c.self.inside.entries.items in
    let ps = named_of c.self.inside.places.entries in
    subst (λ qs. AreFoundIn c.args.self.now (placed es qs)) (ap named_of (sym c.iter.ensures.rest))
    (subst (λ l. AreFoundIn l (placed es ps)) c.self.view_is (all_found es ps c.self.invariant.0))
