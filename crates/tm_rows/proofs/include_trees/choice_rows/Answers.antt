use Rattle.std.proofs.Common.{refl}
use Rattle.std.specs.Fmt.{digits}
use Rattle.tm_rows.proofs.include_trees.choice_rows.Goals as goal

pub returns-clause-second : goal.returns-clause-second
unfolding digits
returns-clause-second c = (refl, refl)

pub returns-clause-map : goal.returns-clause-map
unfolding digits
returns-clause-map c = (refl, refl)

pub returns-clause-missing : goal.returns-clause-missing
returns-clause-missing c = (refl, refl)

pub returns-clause-both_missing : goal.returns-clause-both_missing
returns-clause-both_missing c = (refl, refl)

pub returns-clause-ignored : goal.returns-clause-ignored
returns-clause-ignored c = (refl, refl, refl, refl)

pub returns-clause-no_choice : goal.returns-clause-no_choice
returns-clause-no_choice c = (refl, refl)

pub returns-clause-number : goal.returns-clause-number
returns-clause-number c = (refl, refl)

pub returns-clause-undefined : goal.returns-clause-undefined
returns-clause-undefined c = (refl, refl)

pub returns-clause-no_text : goal.returns-clause-no_text
returns-clause-no_text c = (refl, refl)

pub returns-clause-ignored_number : goal.returns-clause-ignored_number
returns-clause-ignored_number c = (refl, refl)

pub returns-clause-ignored_undefined : goal.returns-clause-ignored_undefined
returns-clause-ignored_undefined c = (refl, refl)

pub returns-clause-ignored_no_text : goal.returns-clause-ignored_no_text
returns-clause-ignored_no_text c = (refl, refl)
