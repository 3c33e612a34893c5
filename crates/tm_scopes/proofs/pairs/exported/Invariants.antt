use Rattle.std.proofs.Common.{◌≡◌, take}
use Rattle.tm_meaning.specs.World.{exported}
use Rattle.tm_scopes.proofs.pairs.exported.Given as goal

abbrev pub invariant-loop-pair : goal.invariant-loop-pair
invariant-loop-pair l = l.pairs.items ≡ exported (take l.pair-index l.own)
