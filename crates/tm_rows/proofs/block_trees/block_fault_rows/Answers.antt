use Rattle.std.proofs.Common.{refl}
use Rattle.tm_rows.proofs.block_trees.block_fault_rows.Goals as goal

pub returns-clause-fault : goal.returns-clause-fault
returns-clause-fault c = (refl, refl)

pub returns-clause-places : goal.returns-clause-places
returns-clause-places c = (refl, refl)

pub returns-clause-places_after : goal.returns-clause-places_after
returns-clause-places_after c = (refl, refl)

pub returns-clause-unknown : goal.returns-clause-unknown
returns-clause-unknown c = (refl, refl)

pub returns-clause-zero : goal.returns-clause-zero
returns-clause-zero c = (refl, refl)
