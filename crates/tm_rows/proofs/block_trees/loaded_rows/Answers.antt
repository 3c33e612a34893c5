use Rattle.std.proofs.Common.{refl}
use Rattle.tm_rows.proofs.block_trees.loaded_rows.Goals as goal

pub returns-clause-again : goal.returns-clause-again
returns-clause-again c = (refl, refl, refl, refl)

pub returns-clause-parent : goal.returns-clause-parent
returns-clause-parent c = (refl, refl, refl, refl)

pub returns-clause-no_block : goal.returns-clause-no_block
returns-clause-no_block c = (refl, refl, refl, refl)

pub returns-clause-block : goal.returns-clause-block
returns-clause-block c = (refl, refl, refl, refl)
