use Rattle.std.proofs.Common.{rules}
use Rattle.template_machine.proofs.environment.EnvironmentOf.add_template_owned.Goals as goal

pub returns-clause-ok : goal.returns-clause-ok
returns-clause-ok g c = search rules fits 300

pub returns-clause-refused : goal.returns-clause-refused
returns-clause-refused g c = search rules fits 100

pub returns-clause-err : goal.returns-clause-err
returns-clause-err g c = search rules fits 100

pub returns-in_err-source-clause-ok : goal.returns-in_err-source-clause-ok
returns-in_err-source-clause-ok g c = search rules fits 100

pub returns-in_err-source-clause-refused : goal.returns-in_err-source-clause-refused
returns-in_err-source-clause-refused g c = search rules fits 100

pub returns-in_err-source-clause-err : goal.returns-in_err-source-clause-err
returns-in_err-source-clause-err g c = search rules fits 100
