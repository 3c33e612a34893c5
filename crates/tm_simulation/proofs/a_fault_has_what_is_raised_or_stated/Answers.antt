use Rattle.tm_simulation.proofs.Chains.{render_is}
use Rattle.tm_simulation.proofs.a_fault_has_what_is_raised_or_stated.Goals as goal

pub returns : goal.returns
returns c = render_is
