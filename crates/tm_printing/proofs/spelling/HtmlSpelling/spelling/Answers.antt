use Rattle.std.proofs.Common.{rules}
use Rattle.tm_printing.proofs.spelling.HtmlSpelling.spelling.Goals as goal

pub returns-in-47-clause-spelled : goal.returns-in-47-clause-spelled
returns-in-47-clause-spelled c = search rules fits 100
