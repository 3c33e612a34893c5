use Rattle.tm_simulation.proofs.Renders.{nested_comes_to_meaning}
use Rattle.tm_simulation.proofs.nested_code_comes_to_its_meaning.Goals as goal

pub returns : goal.returns
returns c = nested_comes_to_meaning
