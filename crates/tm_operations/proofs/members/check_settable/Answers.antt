use Rattle.std.proofs.Common.{rules}
use Rattle.tm_operations.proofs.members.check_settable.Goals as goal

pub returns-in-Some : goal.returns-in-Some
returns-in-Some g c = search rules fits 100
