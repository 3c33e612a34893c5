use Rattle.tm_simulation.proofs.Renders.{same_with_levels}
use Rattle.tm_simulation.proofs.levels_change_no_meaning.Goals as goal

pub returns : goal.returns
returns c = same_with_levels
