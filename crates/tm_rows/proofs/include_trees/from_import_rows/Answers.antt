use Rattle.std.proofs.Common.{refl}
use Rattle.std.specs.Fmt.{digits}
use Rattle.tm_rows.proofs.include_trees.from_import_rows.Goals as goal

pub returns-clause-names : goal.returns-clause-names
unfolding digits
returns-clause-names c = (refl, refl)

pub returns-clause-missing : goal.returns-clause-missing
returns-clause-missing c = (refl, refl)

pub returns-clause-underscore : goal.returns-clause-underscore
unfolding digits
returns-clause-underscore c = (refl, refl)

pub returns-clause-twice : goal.returns-clause-twice
unfolding digits
returns-clause-twice c = (refl, refl)

pub returns-clause-last_first : goal.returns-clause-last_first
unfolding digits
returns-clause-last_first c = (refl, refl, refl, refl)

pub returns-clause-block : goal.returns-clause-block
unfolding digits
returns-clause-block c = (refl, refl)

pub returns-clause-parent : goal.returns-clause-parent
returns-clause-parent c = (refl, refl)
