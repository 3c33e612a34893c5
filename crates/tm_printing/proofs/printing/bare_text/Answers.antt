use Rattle.std.proofs.Common.{rules}
use Rattle.tm_printing.proofs.printing.bare_text.Goals as goal

pub returns-in-Undefined : goal.returns-in-Undefined
returns-in-Undefined c = search rules fits 100
