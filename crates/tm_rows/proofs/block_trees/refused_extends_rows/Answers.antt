use Rattle.std.proofs.Common.{refl}
use Rattle.tm_rows.proofs.block_trees.refused_extends_rows.Goals as goal

pub returns-clause-twice : goal.returns-clause-twice
returns-clause-twice c = (refl, refl)

pub returns-clause-number : goal.returns-clause-number
returns-clause-number c = (refl, refl)

pub returns-clause-undefined : goal.returns-clause-undefined
returns-clause-undefined c = (refl, refl)

pub returns-clause-missing : goal.returns-clause-missing
returns-clause-missing c = (refl, refl)

pub returns-clause-second_missing : goal.returns-clause-second_missing
returns-clause-second_missing c = (refl, refl)

pub returns-clause-capture : goal.returns-clause-capture
returns-clause-capture c = (refl, refl)

pub returns-clause-itself : goal.returns-clause-itself
returns-clause-itself c = (refl, refl)
