use Rattle.std.proofs.Common.{rules}
use Rattle.tm_operations.proofs.iteration.unpack.Goals as goal

pub returns : goal.returns
returns g c = search rules fits 100

pub returns-in_err-items : goal.returns-in_err-items
returns-in_err-items g c = search rules fits 100
