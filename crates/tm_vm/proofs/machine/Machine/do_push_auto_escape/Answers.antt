use Rattle.std.proofs.Common.{rules}
use Rattle.tm_vm.proofs.machine.Machine.do_push_auto_escape.Goals as goal

pub returns : goal.returns
returns c = search rules fits 100
