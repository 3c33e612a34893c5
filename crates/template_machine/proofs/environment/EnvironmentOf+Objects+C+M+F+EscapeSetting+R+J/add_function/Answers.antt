use Rattle.std.proofs.Common.{rules}
use Rattle.template_machine.proofs.environment.EnvironmentOf+Objects+C+M+F+EscapeSetting+R+J.add_function.Goals as goal

pub returns-in_err-name-clause-ok : goal.returns-in_err-name-clause-ok
returns-in_err-name-clause-ok g c = search rules fits 100

pub returns-in_err-name-clause-kind : goal.returns-in_err-name-clause-kind
returns-in_err-name-clause-kind g c = search rules fits 100

pub returns-in_err-name-clause-err : goal.returns-in_err-name-clause-err
returns-in_err-name-clause-err g c = search rules fits 100

pub returns-in_default-clause-ok : goal.returns-in_default-clause-ok
returns-in_default-clause-ok g c = search rules fits 100

pub returns-in_default-clause-kind : goal.returns-in_default-clause-kind
returns-in_default-clause-kind g c = search rules fits 100

pub returns-in_default-clause-err : goal.returns-in_default-clause-err
returns-in_default-clause-err g c = search rules fits 100

pub returns-in_err-add-clause-ok : goal.returns-in_err-add-clause-ok
returns-in_err-add-clause-ok g c = search rules fits 100

pub returns-in_err-add-clause-kind : goal.returns-in_err-add-clause-kind
returns-in_err-add-clause-kind g c = search rules fits 100

pub returns-in_err-add-clause-err : goal.returns-in_err-add-clause-err
returns-in_err-add-clause-err g c = search rules fits 100

pub returns-then-is_err-clause-ok : goal.returns-then-is_err-clause-ok
returns-then-is_err-clause-ok g c = search rules fits 100

pub returns-then-is_err-clause-kind : goal.returns-then-is_err-clause-kind
returns-then-is_err-clause-kind g c = search rules fits 100

pub returns-clause-ok : goal.returns-clause-ok
returns-clause-ok g c = search rules fits 300

pub returns-clause-kind : goal.returns-clause-kind
returns-clause-kind g c = search rules fits 100

pub returns-clause-err : goal.returns-clause-err
returns-clause-err g c = search rules fits 100
