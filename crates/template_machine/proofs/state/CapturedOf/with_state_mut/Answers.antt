use Rattle.std.proofs.Common.{refl, rules}
use Rattle.template_machine.proofs.state.CapturedOf.with_state_mut.Goals as goal

pub returns-clause-ran : goal.returns-clause-ran
returns-clause-ran g c = record { shown = _; shows = search rules; left = _; met = c.function.ensures; leaves = refl }
