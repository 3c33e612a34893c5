use Rattle.std.proofs.Common.{rules}
use Rattle.tm_operations.proofs.arithmetic.add_text.Goals as goal

pub returns-in_default : goal.returns-in_default
returns-in_default c = search rules fits 100

pub returns-in_err-append : goal.returns-in_err-append
returns-in_err-append c = search rules fits 100

pub returns : goal.returns
returns c = search rules fits 100
