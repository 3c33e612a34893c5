use Rattle.std.proofs.Common.{refl}
use Rattle.std.specs.Fmt.{digits}
use Rattle.tm_rows.proofs.macro_trees.enclosed_rows.Goals as goal

pub returns-clause-later : goal.returns-clause-later
unfolding digits
returns-clause-later c = (refl, refl)

pub returns-clause-itself : goal.returns-clause-itself
unfolding digits
returns-clause-itself c = (refl, refl)

pub returns-clause-index : goal.returns-clause-index
unfolding digits
returns-clause-index c = (refl, refl)

pub returns-clause-called_loop : goal.returns-clause-called_loop
unfolding digits
returns-clause-called_loop c = (refl, refl)
