use Rattle.std.proofs.Common.{arith, reverse}
use Rattle.tm_meaning.specs.World.{without_locals}
use Rattle.tm_scopes.specs.Marks.{framed}
use Rattle.tm_scopes.proofs.Framed.{last-cleared, seen-as}
use Rattle.tm_scopes.proofs.context.Context.clear_many.Goals as goal

pub invariant_of-self : goal.invariant_of-self
invariant_of-self c =
    (last-cleared c.self.inside.marks.items c.in-Some.innermost c.index_mut.result.now (omega (arith, c.in-Some.ensures, c.len.ensures))
    c.index_mut.ensures.value c.forget_index.new.self c.self.inside.pairs.items c.cut.new.all.items c.self.inside.top c.self.invariant
    c.forget_index.ensures.rest c.forget_index.ensures.none c.cut.ensures).0

pub returns : goal.returns
returns c =
    seen-as without_locals (framed (reverse c.self.inside.marks.items) c.self.inside.pairs.items) _ c.self.inside.outer c.args.self.now
    (last-cleared c.self.inside.marks.items c.in-Some.innermost c.index_mut.result.now (omega (arith, c.in-Some.ensures, c.len.ensures))
    c.index_mut.ensures.value c.forget_index.new.self c.self.inside.pairs.items c.cut.new.all.items c.self.inside.top c.self.invariant
    c.forget_index.ensures.rest c.forget_index.ensures.none c.cut.ensures).1 c.self.view_is
