use Rattle.std.proofs.Common.{refl}
use Rattle.std.specs.Fmt.{digits}
use Rattle.tm_rows.proofs.include_trees.import_rows.Goals as goal

pub returns-clause-members : goal.returns-clause-members
unfolding digits
returns-clause-members c = (refl, refl)

pub returns-clause-text : goal.returns-clause-text
returns-clause-text c = (refl, refl)

pub returns-clause-json : goal.returns-clause-json
returns-clause-json c = (refl, refl, refl, refl)

pub returns-clause-map : goal.returns-clause-map
unfolding digits
returns-clause-map c = (refl, refl)

pub returns-clause-empty : goal.returns-clause-empty
returns-clause-empty c = (refl, refl)

pub returns-clause-within : goal.returns-clause-within
returns-clause-within c = (refl, refl, refl, refl)

pub returns-clause-too_deep : goal.returns-clause-too_deep
returns-clause-too_deep c = (refl, refl, refl, refl)

pub returns-clause-second : goal.returns-clause-second
unfolding digits
returns-clause-second c = (refl, refl)

pub returns-clause-no_namespace : goal.returns-clause-no_namespace
returns-clause-no_namespace c = (refl, refl)

pub returns-clause-namespace : goal.returns-clause-namespace
unfolding digits
returns-clause-namespace c = (refl, refl)

pub returns-clause-closure : goal.returns-clause-closure
unfolding digits
returns-clause-closure c = (refl, refl)

pub returns-clause-parent : goal.returns-clause-parent
returns-clause-parent c = (refl, refl)

pub returns-clause-block : goal.returns-clause-block
returns-clause-block c = (refl, refl)
