use Rattle.tm_simulation.proofs.Keeps.{super_puts_back}
use Rattle.tm_simulation.proofs.a_super_puts_back_what_it_replaced.Goals as goal

pub returns : goal.returns
returns c = super_puts_back
