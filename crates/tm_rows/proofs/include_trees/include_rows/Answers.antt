use Rattle.std.proofs.Common.{refl}
use Rattle.std.specs.Fmt.{digits}
use Rattle.tm_rows.proofs.include_trees.include_rows.Goals as goal

pub returns-clause-text : goal.returns-clause-text
unfolding digits
returns-clause-text c = (refl, refl)

pub returns-clause-fuel_ends_inside : goal.returns-clause-fuel_ends_inside
returns-clause-fuel_ends_inside c = (refl, refl)

pub returns-clause-within : goal.returns-clause-within
unfolding digits
returns-clause-within c = (refl, refl, refl, refl)

pub returns-clause-too_deep : goal.returns-clause-too_deep
returns-clause-too_deep c = (refl, refl, refl, refl)

pub returns-clause-fault : goal.returns-clause-fault
returns-clause-fault c = (refl, refl)

pub returns-clause-not_ignored : goal.returns-clause-not_ignored
returns-clause-not_ignored c = (refl, refl)

pub returns-clause-restores : goal.returns-clause-restores
returns-clause-restores c = ((refl, refl, refl, refl), (refl, refl, refl, refl))

pub returns-clause-scopes : goal.returns-clause-scopes
returns-clause-scopes c = ((refl, refl, refl, refl), (refl, refl, refl, refl))

pub returns-clause-name : goal.returns-clause-name
returns-clause-name c = (refl, refl)

pub returns-clause-itself : goal.returns-clause-itself
returns-clause-itself c = (refl, refl)

pub returns-clause-nested : goal.returns-clause-nested
unfolding digits
returns-clause-nested c = (refl, refl, refl, refl)

pub returns-clause-nested_too_deep : goal.returns-clause-nested_too_deep
returns-clause-nested_too_deep c = (refl, refl, refl, refl)
