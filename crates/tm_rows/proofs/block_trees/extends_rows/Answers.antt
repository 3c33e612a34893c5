use Rattle.std.proofs.Common.{refl}
use Rattle.std.specs.Fmt.{digits}
use Rattle.tm_rows.proofs.block_trees.extends_rows.Goals as goal

pub returns-clause-condition : goal.returns-clause-condition
returns-clause-condition c = (refl, refl)

pub returns-clause-round : goal.returns-clause-round
unfolding digits
returns-clause-round c = (refl, refl)

pub returns-clause-block : goal.returns-clause-block
returns-clause-block c = (refl, refl)

pub returns-clause-macro_end : goal.returns-clause-macro_end
returns-clause-macro_end c = (refl, refl)
