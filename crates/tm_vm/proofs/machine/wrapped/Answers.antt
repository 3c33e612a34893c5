use Rattle.std.proofs.Common.{rules}
use Rattle.tm_vm.proofs.machine.wrapped.Goals as goal

pub returns-in-Writer : goal.returns-in-Writer
returns-in-Writer c = search rules fits 100
