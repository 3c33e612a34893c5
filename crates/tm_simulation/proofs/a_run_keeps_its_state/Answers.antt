use Rattle.tm_simulation.proofs.Keeps.{run_stays}
use Rattle.tm_simulation.proofs.a_run_keeps_its_state.Goals as goal

pub returns : goal.returns
returns c = run_stays
