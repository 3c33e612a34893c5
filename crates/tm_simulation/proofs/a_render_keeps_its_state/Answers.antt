use Rattle.tm_simulation.proofs.Keeps.{render_stays}
use Rattle.tm_simulation.proofs.a_render_keeps_its_state.Goals as goal

pub returns : goal.returns
returns c = render_stays
