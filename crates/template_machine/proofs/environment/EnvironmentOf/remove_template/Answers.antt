use Rattle.std.proofs.Common.{rules}
use Rattle.template_machine.proofs.environment.EnvironmentOf.remove_template.Goals as goal

pub returns-clause-rest : goal.returns-clause-rest
returns-clause-rest g c = search rules fits 100

pub returns-clause-absent : goal.returns-clause-absent
returns-clause-absent g c = search rules fits 100

pub returns-clause-gone : goal.returns-clause-gone
returns-clause-gone g c = search rules fits 100

pub returns-clause-others : goal.returns-clause-others
returns-clause-others g c = search rules fits 100
