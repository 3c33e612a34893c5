use Rattle.std.proofs.Common.{length}
use Rattle.tm_values.specs.Chain.{causes_of}
use Rattle.mj_words.specs.Told.{causes}
use Rattle.mj_words.proofs.Told.{Telling, chain_in}
use Rattle.mj_words.proofs.tell.write_error.Given as goal

abbrev pub invariant-loop-next : goal.invariant-loop-next
invariant-loop-next g l = Telling g.E.Write.contents l.initial.err l.err l.next (causes (causes_of l.error))

-- how many causes are left
abbrev pub decreases-loop-next : goal.decreases-loop-next
decreases-loop-next g l = length (chain_in l.next)
