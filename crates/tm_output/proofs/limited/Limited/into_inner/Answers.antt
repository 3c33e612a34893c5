use Rattle.std.proofs.Common.{rules}
use Rattle.tm_output.proofs.limited.Limited.into_inner.Goals as goal

pub returns : goal.returns
returns g c = search rules fits 100
