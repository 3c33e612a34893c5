use Rattle.std.proofs.Common.{[], None}
use Rattle.tm_accepted.proofs.Numbers.{same_flow, same_long, same_seeds}
use Rattle.tm_accepted.proofs.numbers_change_no_flow.Goals as goal

pub returns-clause-flows : goal.returns-clause-flows
returns-clause-flows c = λ code n x y at s. same_flow [] [] code n x y at s

pub returns-clause-places : goal.returns-clause-places
returns-clause-places c = λ code. same_long [] [] code

pub returns-clause-seeds : goal.returns-clause-seeds
returns-clause-seeds c = λ code. same_seeds [] [] None code
