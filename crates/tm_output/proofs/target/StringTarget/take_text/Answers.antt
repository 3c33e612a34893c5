use Rattle.std.proofs.Common.{rules}
use Rattle.tm_output.proofs.target.StringTarget.take_text.Goals as goal

pub returns : goal.returns
returns c = search rules fits 100
