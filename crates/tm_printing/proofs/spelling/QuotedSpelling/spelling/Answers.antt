use Rattle.std.proofs.Common.{rules}
use Rattle.tm_printing.proofs.spelling.QuotedSpelling.spelling.Goals as goal

pub returns-in-13-clause-spelled : goal.returns-in-13-clause-spelled
returns-in-13-clause-spelled c = search rules fits 100
