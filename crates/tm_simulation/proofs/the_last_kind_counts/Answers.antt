use Rattle.tm_simulation.proofs.Chains.{memory_ends, other_ends}
use Rattle.tm_simulation.proofs.the_last_kind_counts.Goals as goal

pub returns-clause-memory : goal.returns-clause-memory
returns-clause-memory c = memory_ends

pub returns-clause-other : goal.returns-clause-other
returns-clause-other c = other_ends
