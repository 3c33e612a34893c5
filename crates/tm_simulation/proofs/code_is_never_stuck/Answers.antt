use Rattle.tm_simulation.proofs.Renders.{never_stuck}
use Rattle.tm_simulation.proofs.code_is_never_stuck.Goals as goal

pub returns : goal.returns
returns c = never_stuck
