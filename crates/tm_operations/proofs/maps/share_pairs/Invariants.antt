use Rattle.std.proofs.Common.{◌≡◌, ◌++◌, take}
use Rattle.tm_operations.proofs.maps.share_pairs.Given as goal

-- what was shared so far stands after what was there
abbrev pub invariant-loop-pair : goal.invariant-loop-pair
invariant-loop-pair l = l.out.items ≡ l.initial.out.items ++ take l.pair-index l.pairs
