use Rattle.std.proofs.Common.{rules}
use Rattle.tm_output.proofs.limited.Limited.left.Goals as goal

pub returns : goal.returns
returns g c = search rules fits 100
