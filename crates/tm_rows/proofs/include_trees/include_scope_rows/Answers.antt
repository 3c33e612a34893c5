use Rattle.std.proofs.Common.{refl}
use Rattle.std.specs.Fmt.{digits}
use Rattle.tm_rows.proofs.include_trees.include_scope_rows.Goals as goal

pub returns-clause-store : goal.returns-clause-store
unfolding digits
returns-clause-store c = (refl, refl)

pub returns-clause-inner : goal.returns-clause-inner
unfolding digits
returns-clause-inner c = (refl, refl)

pub returns-clause-rounds : goal.returns-clause-rounds
unfolding digits
returns-clause-rounds c = (refl, refl)

pub returns-clause-argument : goal.returns-clause-argument
unfolding digits
returns-clause-argument c = (refl, refl)

pub returns-clause-no_caller : goal.returns-clause-no_caller
returns-clause-no_caller c = (refl, refl)

pub returns-clause-closure : goal.returns-clause-closure
unfolding digits
returns-clause-closure c = (refl, refl, refl, refl)

pub returns-clause-closure_again : goal.returns-clause-closure_again
unfolding digits
returns-clause-closure_again c = (refl, refl, refl, refl)

pub returns-clause-apart : goal.returns-clause-apart
unfolding digits
returns-clause-apart c = (refl, refl, refl, refl)

pub returns-clause-enclosed : goal.returns-clause-enclosed
unfolding digits
returns-clause-enclosed c = (refl, refl, refl, refl)

pub returns-clause-loop_around : goal.returns-clause-loop_around
unfolding digits
returns-clause-loop_around c = (refl, refl, refl, refl)
