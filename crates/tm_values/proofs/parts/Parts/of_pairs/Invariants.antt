use Rattle.std.proofs.Common.{◌≡◌, ◌+◌, drop}
use Rattle.tm_values.specs.Writable.{both, pairs_writable}
use Rattle.tm_values.specs.Val.{pairs_of, pairs_size}
use Rattle.tm_values.proofs.parts.Parts.of_pairs.Given as goal

-- what is known so far, with the pairs that are left
abbrev pub invariant-loop-pair : goal.invariant-loop-pair
invariant-loop-pair l =
    record {
      writable : both l.writable (pairs_writable (pairs_of (drop l.pair-index l.pairs))) ≡ pairs_writable (pairs_of l.pairs);
      size : l.size + pairs_size (pairs_of (drop l.pair-index l.pairs)) ≡ pairs_size (pairs_of l.pairs) + 1;
    }
