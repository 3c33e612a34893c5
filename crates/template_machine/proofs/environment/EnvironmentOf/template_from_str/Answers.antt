use Rattle.std.proofs.Common.{rules}
use Rattle.template_machine.proofs.environment.EnvironmentOf.template_from_str.Goals as goal

pub returns-clause-compiled : goal.returns-clause-compiled
returns-clause-compiled g c = search rules fits 100
