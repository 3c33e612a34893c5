use Rattle.std.proofs.Common.{rules}
use Rattle.tm_vm.proofs.machine.Machine.into_parts.Goals as goal

pub returns-clause-captures : goal.returns-clause-captures
returns-clause-captures c = search rules fits 100
