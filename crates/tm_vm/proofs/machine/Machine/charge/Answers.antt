use Rattle.std.proofs.Common.{rules}
use Rattle.tm_vm.proofs.machine.Machine.charge.Goals as goal

pub returns-clause-ok : goal.returns-clause-ok
returns-clause-ok c = search rules fits 100

pub returns-clause-spent : goal.returns-clause-spent
returns-clause-spent c = search rules fits 100
