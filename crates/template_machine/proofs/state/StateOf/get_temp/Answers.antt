use Rattle.std.proofs.Common.{rules}
use Rattle.template_machine.proofs.state.StateOf.get_temp.Goals as goal

pub returns : goal.returns
returns g c = search rules fits 100
