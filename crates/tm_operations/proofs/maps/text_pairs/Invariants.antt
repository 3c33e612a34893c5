use Rattle.std.proofs.Common.{◌≡◌, ◌++◌, drop}
use Rattle.tm_definitions.specs.Maps.{text_pairs}
use Rattle.tm_operations.proofs.maps.text_pairs.Given as goal

-- the pairs from the index on are left
abbrev pub invariant-loop-pair : goal.invariant-loop-pair
invariant-loop-pair l = l.kept.items ++ text_pairs (drop l.pair-index l.pairs) ≡ text_pairs l.pairs
