use Rattle.std.proofs.Common.{◌≡◌, drop}
use Rattle.tm_definitions.specs.Spread.{items_of_all, spread_items}
use Rattle.tm_operations.proofs.Adding.{to_add}
use Rattle.tm_operations.proofs.spread.spread_items.Given as goal

abbrev pub invariant-loop-value : goal.invariant-loop-value
invariant-loop-value g l =
    let r = g.R.Records.records l.records in
    to_add (spread_items l.behavior r) l.all.items (drop l.value-index l.values) ≡ items_of_all l.behavior r l.values
