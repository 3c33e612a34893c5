use Rattle.std.proofs.Common.{rules}
use Rattle.tm_printing.proofs.emission.emit.Goals as goal

pub returns-in-None : goal.returns-in-None
returns-in-None g c = search rules fits 100
