use Rattle.tm_simulation.proofs.Chains.{render_no_memory}
use Rattle.tm_simulation.proofs.want_of_memory_is_stated.Goals as goal

pub returns : goal.returns
returns c = render_no_memory
