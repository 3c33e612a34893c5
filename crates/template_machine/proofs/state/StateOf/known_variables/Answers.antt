use Rattle.std.proofs.Common.{rules}
use Rattle.template_machine.proofs.state.StateOf.known_variables.Goals as goal

pub returns-clause-order : goal.returns-clause-order
returns-clause-order g c = search rules fits 100

pub returns-clause-found : goal.returns-clause-found
returns-clause-found g c = search rules fits 100
