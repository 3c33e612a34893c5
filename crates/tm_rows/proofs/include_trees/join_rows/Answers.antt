use Rattle.std.proofs.Common.{refl}
use Rattle.tm_rows.proofs.include_trees.join_rows.Goals as goal

pub returns-clause-library : goal.returns-clause-library
returns-clause-library c = (refl, refl, refl, refl)

pub returns-clause-fault : goal.returns-clause-fault
returns-clause-fault c = (refl, refl, refl, refl)
