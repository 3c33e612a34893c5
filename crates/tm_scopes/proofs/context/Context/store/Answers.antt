use Rattle.std.proofs.Common.{◌∙◌, ap, arith, reverse}
use Rattle.tm_meaning.specs.World.{stored_in}
use Rattle.tm_scopes.specs.Marks.{framed}
use Rattle.tm_scopes.proofs.Enclosed.{always}
use Rattle.tm_scopes.proofs.Framed.{last-kept, last-same, last-stored, seen-as}
use Rattle.tm_scopes.proofs.context.Context.store.Goals as goal

pub invariant_of-self : goal.invariant_of-self
invariant_of-self c =
    last-kept c.self.inside.marks.items c.in-Some.innermost c.index_mut.result.now (omega (arith, c.in-Some.ensures, c.len.ensures))
    c.index_mut.ensures.value c.insert.new.self c.self.inside.pairs.items c.insert.new.all.items c.self.inside.top c.self.invariant
    c.insert.ensures.kept

pub invariant_of-self-2 : goal.invariant_of-self-2
invariant_of-self-2 c =
    last-kept c.self.inside.marks.items c.in-Some.innermost c.index_mut.result.now (omega (arith, c.in-Some.ensures, c.len.ensures))
    c.index_mut.ensures.value c.insert.new.self c.self.inside.pairs.items c.insert.new.all.items c.self.inside.top c.self.invariant
    c.insert.ensures.kept

pub returns-in_err-insert-clause-err : goal.returns-in_err-insert-clause-err
returns-in_err-insert-clause-err c =
    always _ (ap (λ fs. record { frames = fs; outer = c.self.inside.outer })
    (last-same c.self.inside.marks.items c.in-Some.innermost c.index_mut.result.now (omega (arith, c.in-Some.ensures, c.len.ensures))
    c.index_mut.ensures.value c.insert.new.self c.self.inside.pairs.items c.insert.new.all.items c.self.inside.top c.self.invariant
    c.insert.ensures.kept c.in_err-insert.ensures.err) ∙ c.self.view_is)

pub returns-clause-ok : goal.returns-clause-ok
returns-clause-ok c =
    seen-as (stored_in c.args.name c.args.value) (framed (reverse c.self.inside.marks.items) c.self.inside.pairs.items) _
    c.self.inside.outer c.args.self.now
    (last-stored c.self.inside.marks.items c.in-Some.innermost c.index_mut.result.now (omega (arith, c.in-Some.ensures, c.len.ensures))
    c.index_mut.ensures.value c.insert.new.self c.self.inside.pairs.items c.insert.new.all.items c.self.inside.top c.self.invariant
    c.args.name c.args.value c.insert.ensures.kept c.in_ok-insert.ensures.ok) c.self.view_is
