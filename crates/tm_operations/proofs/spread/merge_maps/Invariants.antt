use Rattle.std.proofs.Common.{◌≡◌, drop}
use Rattle.tm_definitions.specs.Spread.{joined, spread_pairs}
use Rattle.tm_operations.proofs.Adding.{to_add}
use Rattle.tm_operations.proofs.spread.merge_maps.Given as goal

abbrev pub invariant-loop-value : goal.invariant-loop-value
invariant-loop-value g l =
    let r = g.R.Records.records l.records in
    to_add (spread_pairs l.behavior r) l.pairs.items (drop l.value-index l.values) ≡ joined (spread_pairs l.behavior r) l.values
