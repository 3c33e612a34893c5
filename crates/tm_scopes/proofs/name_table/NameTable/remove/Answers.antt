use Rattle.std.proofs.Common.{sym}
use Rattle.std.proofs.Common.{◌∙◌, subst}
use Rattle.tm_scopes.proofs.Places.{find-gap, read, taken, taken-ordered, without-gap}
use Rattle.tm_scopes.specs.Places.{AreOrdered}
use Rattle.tm_scopes.proofs.name_table.NameTable.remove.Goals as goal

pub invariant_of-self : goal.invariant_of-self
invariant_of-self t c =
    subst (λ l. AreOrdered l) (sym c.remove-name.ensures.items)
    (taken-ordered c.args.name.now c.self.inside.entries.items c.args.self.now c.in-Ok.place c.self.view_is c.self.invariant c.in-Ok.ensures)

pub returns-in-Ok-clause-before : goal.returns-in-Ok-clause-before
returns-in-Ok-clause-before t c =
    sym (read c.args.name.now c.self.inside.entries.items c.args.self.now c.in-Ok.place c.remove-name.result c.self.view_is
    c.self.invariant c.in-Ok.ensures c.remove-name.ensures.value)

pub returns-in-Ok-clause-rest : goal.returns-in-Ok-clause-rest
returns-in-Ok-clause-rest t c =
    c.remove-name.ensures.items
    ∙ taken c.args.name.now c.self.inside.entries.items c.args.self.now c.in-Ok.place c.self.view_is c.self.invariant c.in-Ok.ensures

pub returns-in-Err-clause-before : goal.returns-in-Err-clause-before
returns-in-Err-clause-before t c = sym (find-gap c.args.name.now c.args.self.now c.in-Err.field-0 c.in-Err.ensures)

pub returns-in-Err-clause-rest : goal.returns-in-Err-clause-rest
returns-in-Err-clause-rest t c = without-gap c.args.name.now c.args.self.now c.in-Err.field-0 c.in-Err.ensures
