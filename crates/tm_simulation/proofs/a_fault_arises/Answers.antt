use Rattle.tm_simulation.proofs.Keeps.{render_arises}
use Rattle.tm_simulation.proofs.a_fault_arises.Goals as goal

pub returns : goal.returns
returns c = render_arises
