use Rattle.std.proofs.Common.{rules}
use Rattle.template_machine.proofs.environment.EnvironmentOf+Objects+C+M+F+EscapeSetting+R+J.empty.Goals as goal

pub returns : goal.returns
returns g c = search rules fits 100
