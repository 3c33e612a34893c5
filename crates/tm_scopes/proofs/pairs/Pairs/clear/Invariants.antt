use Rattle.std.proofs.Common.{length}
use Rattle.tm_scopes.proofs.pairs.Pairs.clear.Given as goal

abbrev pub decreases-loop-self : goal.decreases-loop-self
decreases-loop-self l = length l.self-inside.all.items
