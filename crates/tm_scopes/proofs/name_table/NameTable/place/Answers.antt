use Rattle.tm_scopes.proofs.Places.{find-gap}
use Rattle.tm_scopes.proofs.name_table.NameTable.place.Goals as goal

pub returns-in-Err : goal.returns-in-Err
returns-in-Err t c = find-gap c.args.name.now c.args.self.now c.in-Err.field-0 c.in-Err.ensures
