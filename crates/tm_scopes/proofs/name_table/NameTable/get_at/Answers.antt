use Rattle.std.proofs.Common.{length, refl, sym}
use Rattle.std.proofs.lemmas.Option.{slice_get_read}
use Rattle.tm_scopes.proofs.Places.{held}
use Rattle.tm_scopes.proofs.name_table.NameTable.get_at.Goals as goal

pub returns-in-Some : goal.returns-in-Some
returns-in-Some t c =
    let lent = c.deref.result.now in
    let found = c.in-Some.ensures.lookup in
    let there = slice_get_read lent (length lent) c.args.place c.in-Some.entry.now refl found.3.0 found.1 in
    held c.args.name.now c.self.inside.entries.items lent c.args.self.now c.args.place c.in-Some.entry.now
    c.deref.ensures.value c.self.view_is c.self.invariant there (sym c.if-is.ensures)
