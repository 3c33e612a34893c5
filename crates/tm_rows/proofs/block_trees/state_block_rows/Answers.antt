use Rattle.std.proofs.Common.{refl}
use Rattle.tm_rows.proofs.block_trees.state_block_rows.Goals as goal

pub returns-clause-shown : goal.returns-clause-shown
returns-clause-shown c = (refl, refl, refl, refl)

pub returns-clause-fault : goal.returns-clause-fault
returns-clause-fault c = ((refl, refl, refl, refl, refl, refl), (refl, refl, refl, refl, refl, refl))

pub returns-clause-missing : goal.returns-clause-missing
returns-clause-missing c = ((refl, refl, refl, refl, refl, refl), (refl, refl, refl, refl, refl, refl))

pub returns-clause-child : goal.returns-clause-child
returns-clause-child c = ((refl, refl, refl, refl, refl, refl), (refl, refl, refl, refl, refl, refl))

pub returns-clause-fault_in_next : goal.returns-clause-fault_in_next
returns-clause-fault_in_next c = ((refl, refl, refl, refl, refl, refl), (refl, refl, refl, refl, refl, refl))
