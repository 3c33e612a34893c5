use Rattle.tm_scopes.proofs.Places.{find-gap, read}
use Rattle.tm_scopes.proofs.name_table.NameTable.get.Goals as goal

pub returns-in-Ok : goal.returns-in-Ok
returns-in-Ok t c =
    read c.args.name.now c.self.inside.entries.items c.args.self.now c.in-Ok.place c.index.result.now c.self.view_is c.self.invariant
    c.in-Ok.ensures c.index.ensures

pub returns-in-Err : goal.returns-in-Err
returns-in-Err t c = find-gap c.args.name.now c.args.self.now c.in-Err.field-0 c.in-Err.ensures
