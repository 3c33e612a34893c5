use Rattle.std.proofs.Common.{rules}
use Rattle.tm_vm.proofs.machine.Machine.do_build_map.Goals as goal

pub returns : goal.returns
returns c = search rules fits 100
