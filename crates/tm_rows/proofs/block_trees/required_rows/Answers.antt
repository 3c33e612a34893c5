use Rattle.std.proofs.Common.{refl}
use Rattle.tm_rows.proofs.block_trees.required_rows.Goals as goal

pub returns-clause-itself : goal.returns-clause-itself
returns-clause-itself c = (refl, refl, refl, refl)

pub returns-clause-by_parent : goal.returns-clause-by_parent
returns-clause-by_parent c = (refl, refl, refl, refl)

pub returns-clause-given : goal.returns-clause-given
returns-clause-given c = (refl, refl)
