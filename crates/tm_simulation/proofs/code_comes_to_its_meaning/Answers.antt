use Rattle.tm_simulation.proofs.Renders.{comes_to_meaning}
use Rattle.tm_simulation.proofs.code_comes_to_its_meaning.Goals as goal

pub returns : goal.returns
returns c = comes_to_meaning
