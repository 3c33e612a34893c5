use Rattle.std.proofs.Common.{arith, reverse}
use Rattle.tm_meaning.specs.World.{owning}
use Rattle.tm_scopes.specs.Marks.{framed}
use Rattle.tm_scopes.proofs.Framed.{last-owned, last-owning, seen-as}
use Rattle.tm_scopes.proofs.context.Context.set_own_closure.Goals as goal

pub invariant_of-self : goal.invariant_of-self
invariant_of-self c =
    last-owned c.self.inside.marks.items c.in-Some.innermost c.index_mut.result.now (omega (arith, c.in-Some.ensures, c.len.ensures))
    c.index_mut.ensures.value c.own.new.self c.args.closure c.self.inside.pairs.items c.self.inside.top c.own.ensures c.self.invariant

pub returns-in-Some : goal.returns-in-Some
returns-in-Some c =
    seen-as (owning c.args.closure) (framed (reverse c.self.inside.marks.items) c.self.inside.pairs.items) _ c.self.inside.outer
    c.args.self.now
    (last-owning c.self.inside.marks.items c.in-Some.innermost c.index_mut.result.now (omega (arith, c.in-Some.ensures, c.len.ensures))
    c.index_mut.ensures.value c.own.new.self c.args.closure c.self.inside.pairs.items c.self.inside.top c.own.ensures) c.self.view_is
