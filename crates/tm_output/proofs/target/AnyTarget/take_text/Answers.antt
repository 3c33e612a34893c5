use Rattle.std.proofs.Common.{rules}
use Rattle.tm_output.proofs.target.AnyTarget.take_text.Goals as goal

pub returns : goal.returns
returns g c = search rules fits 100
