use Rattle.std.proofs.Common.{rules}
use Rattle.tm_printing.proofs.printing.write_html.Goals as goal

pub returns : goal.returns
returns g c = search rules fits 100
