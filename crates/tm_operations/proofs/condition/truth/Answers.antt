use Rattle.std.proofs.Common.{rules}
use Rattle.tm_operations.proofs.condition.truth.Goals as goal

pub returns : goal.returns
returns c = search rules fits 100
