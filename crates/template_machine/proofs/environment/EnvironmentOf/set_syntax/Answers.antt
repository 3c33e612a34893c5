use Rattle.std.proofs.Common.{rules}
use Rattle.template_machine.proofs.environment.EnvironmentOf.set_syntax.Goals as goal

pub returns : goal.returns
returns g c = search rules fits 100
