use Rattle.std.proofs.Common.{ap, subst, reverse}
use Rattle.tm_syntax.specs.Named.{find}
use Rattle.tm_meaning.specs.World.{Scopes, top_locals}
use Rattle.tm_values.specs.Answer.{IsLent}
use Rattle.tm_scopes.proofs.Framed.{lent-found, lent-top}
use Rattle.tm_scopes.proofs.context.Context.local.Goals as goal

pub returns-clause-own : goal.returns-clause-own
returns-clause-own c =
    let x = c.args.name.now in
    subst (IsLent c.value_of.result) (ap (λ (scopes : Scopes). find x (top_locals scopes.frames)) c.self.view_is)
    (lent-top c.value_of.result x (reverse c.self.inside.marks.items) c.deref.result.now c.self.inside.pairs.items c.self.inside.top
    c.self.invariant c.deref.ensures.value c.value_of.ensures)

pub returns-clause-found : goal.returns-clause-found
returns-clause-found c = lent-found c.value_of.result c.args.name.now c.args.self.now.frames (returns-clause-own c)
