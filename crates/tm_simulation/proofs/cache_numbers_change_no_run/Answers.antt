use Rattle.tm_simulation.proofs.Renders.{numbers_change_nothing}
use Rattle.tm_simulation.proofs.cache_numbers_change_no_run.Goals as goal

pub returns : goal.returns
returns c = numbers_change_nothing
