use Rattle.tm_simulation.proofs.Keeps.{render_grows}
use Rattle.tm_simulation.proofs.a_render_loses_nothing.Goals as goal

pub returns : goal.returns
returns c = render_grows
