use Rattle.std.proofs.Common.{rules}
use Rattle.tm_operations.proofs.iteration.exactly.Goals as goal

pub returns-then-as_slice-count : goal.returns-then-as_slice-count
returns-then-as_slice-count c = search rules fits 100
