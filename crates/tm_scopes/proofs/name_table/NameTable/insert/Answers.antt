use Rattle.std.proofs.Common.{is_ok, subst, sym, ◌∙◌}
use Rattle.tm_scopes.proofs.Places.{written, written-ordered, added, added-ordered}
use Rattle.tm_scopes.specs.Places.{AreOrdered}
use Rattle.tm_scopes.proofs.name_table.NameTable.insert.Goals as goal

pub invariant_of-self : goal.invariant_of-self
invariant_of-self t c =
    written-ordered c.args.name c.as_str.result.now c.args.item c.self.inside.entries.items c.args.self.now c.in-Ok.place
    c.index_mut.result.now
    c.self.view_is c.as_str.ensures c.self.invariant c.in-Ok.ensures c.index_mut.ensures.value

pub invariant_of-self-in-Err : goal.invariant_of-self-in-Err
invariant_of-self-in-Err t c =
    subst (λ l. AreOrdered l) (sym c.insert.ensures.items)
    (added-ordered c.args.name c.as_str.result.now c.args.item c.self.inside.entries.items c.args.self.now c.in-Err.place
    (is_ok c.insert.result)
    c.self.view_is c.as_str.ensures c.self.invariant c.in-Err.ensures)

pub returns-in-Ok-clause-ok : goal.returns-in-Ok-clause-ok
returns-in-Ok-clause-ok t c =
    written c.args.name c.as_str.result.now c.args.item c.self.inside.entries.items c.args.self.now c.in-Ok.place c.index_mut.result.now
    c.self.view_is c.as_str.ensures c.self.invariant c.in-Ok.ensures c.index_mut.ensures.value

pub returns-in_ok-insert-in-Err-clause-ok : goal.returns-in_ok-insert-in-Err-clause-ok
returns-in_ok-insert-in-Err-clause-ok t c =
    c.in_ok-insert-in-Err.ensures.items
    ∙ added c.args.name c.as_str.result.now c.args.item c.self.inside.entries.items c.args.self.now c.in-Err.place c.self.view_is
    c.as_str.ensures c.in-Err.ensures
