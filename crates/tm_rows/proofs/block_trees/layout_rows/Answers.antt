use Rattle.std.proofs.Common.{refl}
use Rattle.std.specs.Fmt.{digits}
use Rattle.tm_rows.proofs.block_trees.layout_rows.Goals as goal

pub returns-clause-base : goal.returns-clause-base
unfolding digits
returns-clause-base c = (refl, refl)

pub returns-clause-fuel_ends_in_the_block : goal.returns-clause-fuel_ends_in_the_block
returns-clause-fuel_ends_in_the_block c = (refl, refl)

pub returns-clause-fuel_ends_in_the_parent_block : goal.returns-clause-fuel_ends_in_the_parent_block
returns-clause-fuel_ends_in_the_parent_block c = (refl, refl)

pub returns-clause-name : goal.returns-clause-name
returns-clause-name c = (refl, refl)

pub returns-clause-mid : goal.returns-clause-mid
returns-clause-mid c = (refl, refl)

pub returns-clause-over_mid : goal.returns-clause-over_mid
returns-clause-over_mid c = (refl, refl)

pub returns-clause-joined : goal.returns-clause-joined
returns-clause-joined c = (refl, refl)

pub returns-clause-twice : goal.returns-clause-twice
returns-clause-twice c = (refl, refl)

pub returns-clause-within : goal.returns-clause-within
returns-clause-within c = (refl, refl, refl, refl)

pub returns-clause-too_deep : goal.returns-clause-too_deep
returns-clause-too_deep c = (refl, refl, refl, refl)
