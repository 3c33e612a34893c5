use Rattle.std.proofs.Common.{subst, sym}
use Rattle.template_machine.specs.Renders.{SoundRecords, StateValue}
use Rattle.template_machine.proofs.state.StateOf.put.Goals as goal

pub invariant_of-self : goal.invariant_of-self
invariant_of-self g c = subst (λ (s : StateValue g.row.O.Denot). SoundRecords s.template c.args.kept) (sym c.self.view_is) c.requires
