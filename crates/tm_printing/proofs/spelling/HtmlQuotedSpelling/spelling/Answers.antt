use Rattle.std.proofs.Common.{rules}
use Rattle.tm_printing.proofs.spelling.HtmlQuotedSpelling.spelling.Goals as goal

pub returns-in-34-clause-spelled : goal.returns-in-34-clause-spelled
returns-in-34-clause-spelled c = search rules fits 100
