use Rattle.std.proofs.Common.{rules}
use Rattle.tm_operations.proofs.ranges.distance.Goals as goal

pub returns-then-from-to : goal.returns-then-from-to
returns-then-from-to c = search rules fits 100

pub returns-else-from-to : goal.returns-else-from-to
returns-else-from-to c = search rules fits 100
