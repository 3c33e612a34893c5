use Rattle.std.proofs.Common.{refl}
use Rattle.std.specs.Fmt.{digits}
use Rattle.tm_rows.proofs.block_trees.parent_scope_rows.Goals as goal

pub returns-clause-set : goal.returns-clause-set
unfolding digits
returns-clause-set c = (refl, refl)

pub returns-clause-scope : goal.returns-clause-scope
unfolding digits
returns-clause-scope c = (refl, refl)

pub returns-clause-round : goal.returns-clause-round
unfolding digits
returns-clause-round c = (refl, refl)

pub returns-clause-of_child : goal.returns-clause-of_child
returns-clause-of_child c = (refl, refl)

pub returns-clause-child_escapes : goal.returns-clause-child_escapes
returns-clause-child_escapes c = (refl, refl)

pub returns-clause-parent_escapes : goal.returns-clause-parent_escapes
returns-clause-parent_escapes c = (refl, refl)
