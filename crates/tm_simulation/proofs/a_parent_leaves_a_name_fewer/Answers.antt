use Rattle.tm_simulation.proofs.Loads.{load_leaves_fewer}
use Rattle.tm_simulation.proofs.a_parent_leaves_a_name_fewer.Goals as goal

pub returns : goal.returns
returns c = load_leaves_fewer
