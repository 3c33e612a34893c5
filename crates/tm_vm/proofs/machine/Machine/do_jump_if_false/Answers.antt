use Rattle.std.proofs.Common.{rules}
use Rattle.tm_vm.proofs.machine.Machine.do_jump_if_false.Goals as goal
use Rattle.tm_vm.proofs.machine.Machine.do_jump_if_false.Goals.{in-true, in-false}

pub returns : goal.returns
returns g c = elim c.if-branch.branch [
  | in-true w ↦ search rules fits 100
  | in-false w ↦ search rules fits 100
]
