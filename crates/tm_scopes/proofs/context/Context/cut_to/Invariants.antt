use Rattle.std.proofs.Common.{◌≡◌, length}
use Rattle.tm_meaning.specs.Calls.{outermost}
use Rattle.tm_scopes.proofs.context.Context.cut_to.Given as goal

abbrev pub invariant-loop-self : goal.invariant-loop-self
invariant-loop-self l = outermost l.count l.self.frames ≡ outermost l.count l.initial.self.frames

abbrev pub decreases-loop-self : goal.decreases-loop-self
decreases-loop-self l = length l.self.frames
