use Rattle.std.proofs.Common.{rules}
use Rattle.tm_operations.proofs.members.is_callable.Goals as goal

pub returns-in_default : goal.returns-in_default
returns-in_default c = search rules fits 100
