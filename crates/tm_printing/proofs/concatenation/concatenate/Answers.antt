use Rattle.std.proofs.Common.{rules}
use Rattle.tm_printing.proofs.concatenation.concatenate.Goals as goal

pub returns-in_err-share : goal.returns-in_err-share
returns-in_err-share g c = search rules fits 100

pub returns : goal.returns
returns g c = search rules fits 100
