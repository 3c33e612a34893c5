use Rattle.std.proofs.Common.{refl}
use Rattle.tm_rows.proofs.block_trees.block_value_rows.Goals as goal

pub returns-clause-escaped : goal.returns-clause-escaped
returns-clause-escaped c = (refl, refl)

pub returns-clause-waiting : goal.returns-clause-waiting
returns-clause-waiting c = (refl, refl)

pub returns-clause-next : goal.returns-clause-next
returns-clause-next c = (refl, refl)
