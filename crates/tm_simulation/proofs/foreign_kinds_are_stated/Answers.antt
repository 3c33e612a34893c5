use Rattle.tm_simulation.proofs.Chains.{render_no_foreign}
use Rattle.tm_simulation.proofs.foreign_kinds_are_stated.Goals as goal

pub returns-clause-stated : goal.returns-clause-stated
returns-clause-stated c = render_no_foreign
