use Rattle.std.proofs.Common.{rules}
use Rattle.tm_operations.proofs.arithmetic.add.Goals as goal

pub returns-in_err-share : goal.returns-in_err-share
returns-in_err-share c = search rules fits 100

pub returns : goal.returns
returns c = search rules fits 100
