use Rattle.std.proofs.Common.{refl}
use Rattle.tm_rows.proofs.further_guards.inheritance_guards.Goals as goal

pub returns-clause-own_places : goal.returns-clause-own_places
returns-clause-own_places c = (refl, refl)

pub returns-clause-places_again : goal.returns-clause-places_again
returns-clause-places_again c = (refl, refl)

pub returns-clause-block_stays : goal.returns-clause-block_stays
returns-clause-block_stays c = (refl, refl)

pub returns-clause-block_after_missing : goal.returns-clause-block_after_missing
returns-clause-block_after_missing c = (refl, refl)

pub returns-clause-no_block_in_macro : goal.returns-clause-no_block_in_macro
returns-clause-no_block_in_macro c = (refl, refl)

pub returns-clause-no_block_below : goal.returns-clause-no_block_below
returns-clause-no_block_below c = (refl, refl)

pub returns-clause-block_after_macro : goal.returns-clause-block_after_macro
returns-clause-block_after_macro c = (refl, refl)

pub returns-clause-joined_in_included : goal.returns-clause-joined_in_included
returns-clause-joined_in_included c = (refl, refl, refl, refl)

pub returns-clause-joined_in_block : goal.returns-clause-joined_in_block
returns-clause-joined_in_block c = (refl, refl, refl, refl)

pub returns-clause-joined_by_extends : goal.returns-clause-joined_by_extends
returns-clause-joined_by_extends c = (refl, refl, refl, refl)

pub returns-clause-joined_by_import : goal.returns-clause-joined_by_import
returns-clause-joined_by_import c = (refl, refl, refl, refl)

pub returns-clause-joined_in_macro : goal.returns-clause-joined_in_macro
returns-clause-joined_in_macro c = (refl, refl, refl, refl)
