use Rattle.std.proofs.Common.{rules}
use Rattle.tm_printing.proofs.emission.emission_text.Goals as goal

pub returns-in-Ok : goal.returns-in-Ok
returns-in-Ok g c = search rules fits 100
