use Rattle.tm_simulation.proofs.Renders.{same_with_names}
use Rattle.tm_simulation.proofs.names_change_no_meaning.Goals as goal

pub returns : goal.returns
returns c = same_with_names
