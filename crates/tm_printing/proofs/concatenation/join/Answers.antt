use Rattle.std.proofs.Common.{rules}
use Rattle.tm_printing.proofs.concatenation.join.Goals as goal

pub returns : goal.returns
returns g c = search rules fits 100
