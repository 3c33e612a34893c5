use Rattle.std.proofs.Common.{rules}
use Rattle.template_machine.proofs.environment.EnvironmentOf.add_template.Goals as goal

pub returns-clause-ok : goal.returns-clause-ok
returns-clause-ok g c = search rules fits 100

pub returns-clause-refused : goal.returns-clause-refused
returns-clause-refused g c = search rules fits 100

pub returns-clause-err : goal.returns-clause-err
returns-clause-err g c = search rules fits 100
