use Rattle.std.proofs.Common.{refl}
use Rattle.std.specs.Fmt.{digits}
use Rattle.tm_rows.proofs.include_trees.include_loop_rows.Goals as goal

pub returns-clause-same : goal.returns-clause-same
unfolding digits
returns-clause-same c = (refl, refl)

pub returns-clause-other : goal.returns-clause-other
unfolding digits
returns-clause-other c = (refl, refl, refl, refl)
