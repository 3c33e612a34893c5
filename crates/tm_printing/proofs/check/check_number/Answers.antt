use Rattle.std.proofs.Common.{rules}
use Rattle.tm_printing.proofs.check.check_number.Goals as goal

pub returns-else-number-geminus9223372036854775808 : goal.returns-else-number-geminus9223372036854775808
returns-else-number-geminus9223372036854775808 c = search rules fits 100
