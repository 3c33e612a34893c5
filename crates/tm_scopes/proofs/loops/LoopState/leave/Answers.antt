use Rattle.tm_meaning.proofs.Left.{length-spread}
use Rattle.tm_scopes.proofs.loops.LoopState.leave.Goals as goal

pub invariant_of-self : goal.invariant_of-self
invariant_of-self c = record {
  counted = length-spread c.self.inside.count c.self.inside.turns c.in_ok-before.before c.in_ok-after.after;
  started = c.self.invariant.started;
  countable = c.self.invariant.countable;
}
