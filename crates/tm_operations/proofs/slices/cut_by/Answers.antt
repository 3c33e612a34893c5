use Rattle.std.proofs.Common.{rules}
use Rattle.tm_operations.proofs.slices.cut_by.Goals as goal

pub returns-in-Some-Some-Some : goal.returns-in-Some-Some-Some
returns-in-Some-Some-Some c = search rules fits 100
