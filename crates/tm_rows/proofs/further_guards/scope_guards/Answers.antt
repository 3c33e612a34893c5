use Rattle.std.proofs.Common.{refl}
use Rattle.std.specs.Fmt.{digits}
use Rattle.tm_rows.proofs.further_guards.scope_guards.Goals as goal

pub returns-clause-context : goal.returns-clause-context
unfolding digits
returns-clause-context c = (refl, refl)

pub returns-clause-globals : goal.returns-clause-globals
unfolding digits
returns-clause-globals c = (refl, refl)

pub returns-clause-context_below : goal.returns-clause-context_below
unfolding digits
returns-clause-context_below c = (refl, refl)

pub returns-clause-closure : goal.returns-clause-closure
unfolding digits
returns-clause-closure c = (refl, refl)

pub returns-clause-no_loop : goal.returns-clause-no_loop
returns-clause-no_loop c = (refl, refl, refl, refl)

pub returns-clause-loop_around : goal.returns-clause-loop_around
unfolding digits
returns-clause-loop_around c = (refl, refl, refl, refl)

pub returns-clause-no_turn : goal.returns-clause-no_turn
returns-clause-no_turn c = refl

pub returns-clause-changed : goal.returns-clause-changed
returns-clause-changed c = refl

pub returns-clause-no_index : goal.returns-clause-no_index
returns-clause-no_index c = refl
