use Rattle.std.proofs.Common.{◌≡◌, length, take}
use Rattle.tm_scopes.proofs.mark.cut.Given as goal

abbrev pub invariant-loop-all : goal.invariant-loop-all
invariant-loop-all l = take l.first l.all.items ≡ take l.first l.initial.all.items

abbrev pub decreases-loop-all : goal.decreases-loop-all
decreases-loop-all l = length l.all.items
