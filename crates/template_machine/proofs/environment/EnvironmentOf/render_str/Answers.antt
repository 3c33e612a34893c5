use Rattle.std.proofs.Common.{rules}
use Rattle.template_machine.proofs.environment.EnvironmentOf.render_str.Goals as goal

pub returns-clause-full : goal.returns-clause-full
returns-clause-full g c = search rules fits 100

pub returns-clause-rendered : goal.returns-clause-rendered
returns-clause-rendered g c = search rules fits 100
