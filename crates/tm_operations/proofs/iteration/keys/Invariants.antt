use Rattle.std.proofs.Common.{◌≡◌, ◌++◌, drop}
use Rattle.tm_definitions.specs.Iteration.{keys_of}
use Rattle.tm_operations.proofs.iteration.keys.Given as goal

-- the keys from the index on are left
abbrev pub invariant-loop-pair : goal.invariant-loop-pair
invariant-loop-pair l = l.keys.items ++ keys_of (drop l.pair-index l.pairs) ≡ keys_of l.pairs
