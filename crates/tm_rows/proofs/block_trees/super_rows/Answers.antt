use Rattle.std.proofs.Common.{refl}
use Rattle.tm_rows.proofs.block_trees.super_rows.Goals as goal

pub returns-clause-again : goal.returns-clause-again
returns-clause-again c = (refl, refl)

pub returns-clause-no_block : goal.returns-clause-no_block
returns-clause-no_block c = (refl, refl)

pub returns-clause-nowhere : goal.returns-clause-nowhere
returns-clause-nowhere c = (refl, refl)

pub returns-clause-last : goal.returns-clause-last
returns-clause-last c = (refl, refl)

pub returns-clause-argument : goal.returns-clause-argument
returns-clause-argument c = (refl, refl)

pub returns-clause-member : goal.returns-clause-member
returns-clause-member c = (refl, refl)

pub returns-clause-method : goal.returns-clause-method
returns-clause-method c = (refl, refl)
