use Rattle.std.proofs.Common.{rules}
use Rattle.template_machine.proofs.state.StateOf.set_temp.Goals as goal

pub returns-clause-before : goal.returns-clause-before
returns-clause-before g c = search rules fits 100

pub returns-clause-ok : goal.returns-clause-ok
returns-clause-ok g c = search rules fits 100
