use Rattle.tm_simulation.proofs.Chains.{want_wrapped, want_only, want_ends}
use Rattle.tm_simulation.proofs.want_of_memory_ends_in_memory.Goals as goal

pub returns-clause-wrapped : goal.returns-clause-wrapped
returns-clause-wrapped c = want_wrapped

pub returns-clause-only : goal.returns-clause-only
returns-clause-only c = want_only

pub returns-clause-ends : goal.returns-clause-ends
returns-clause-ends c = want_ends
