use Rattle.std.proofs.Common.{refl}
use Rattle.tm_rows.proofs.block_trees.parent_chain_rows.Goals as goal

pub returns-clause-parents : goal.returns-clause-parents
returns-clause-parents c = (refl, refl)

pub returns-clause-supers : goal.returns-clause-supers
returns-clause-supers c = (refl, refl)

pub returns-clause-within : goal.returns-clause-within
returns-clause-within c = (refl, refl, refl, refl)

pub returns-clause-too_deep : goal.returns-clause-too_deep
returns-clause-too_deep c = (refl, refl, refl, refl)
