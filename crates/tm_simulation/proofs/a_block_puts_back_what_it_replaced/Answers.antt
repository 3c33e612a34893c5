use Rattle.tm_simulation.proofs.Keeps.{tag_puts_back}
use Rattle.tm_simulation.proofs.a_block_puts_back_what_it_replaced.Goals as goal

pub returns : goal.returns
returns c = tag_puts_back
