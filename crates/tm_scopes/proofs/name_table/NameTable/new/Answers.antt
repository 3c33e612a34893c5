use Rattle.tm_scopes.proofs.Places.{ordered_without_names}
use Rattle.tm_scopes.proofs.name_table.NameTable.new.Goals as goal

pub invariant_of-result : goal.invariant_of-result
invariant_of-result t c = ordered_without_names c.new.result.items c.new.ensures.items
