use Rattle.tm_simulation.proofs.Keeps.{render_ends_there}
use Rattle.tm_simulation.proofs.a_render_ends_in_its_stream_or_a_root.Goals as goal

pub returns : goal.returns
returns c = render_ends_there
