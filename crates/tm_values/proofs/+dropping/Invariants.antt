use Rattle.std.proofs.Common.{◌+◌, ◌*◌, ◌≤◌}
use Rattle.tm_values.specs.Held.{kept_size}
use Rattle.tm_values.specs.Val.{val_size, vals_size, pairs_size, vals_of, pairs_of}
use Rattle.tm_values.proofs.+dropping.Given as goal

-- The drop of a value counts as twice its size and two.
abbrev pub decreases-dropping::drop_owner : goal.decreases-dropping::drop_owner
decreases-dropping::drop_owner l = 2 * val_size l.value + 1

abbrev pub decreases-dropping::drop_items : goal.decreases-dropping::drop_items
decreases-dropping::drop_items l = 2 * vals_size (vals_of l.items.items) + 2

abbrev pub decreases-dropping::drop_pairs : goal.decreases-dropping::drop_pairs
decreases-dropping::drop_pairs l = 2 * pairs_size (pairs_of l.pairs.items) + 2

abbrev pub decreases-dropping::keep_larger : goal.decreases-dropping::keep_larger
decreases-dropping::keep_larger l = 2 * val_size l.value + 3

abbrev pub invariant-dropping::drop_owner-loop-largest : goal.invariant-dropping::drop_owner-loop-largest
invariant-dropping::drop_owner-loop-largest l = kept_size l.largest ≤ val_size l.fn.value + 1

abbrev pub decreases-dropping::drop_owner-loop-largest : goal.decreases-dropping::drop_owner-loop-largest
decreases-dropping::drop_owner-loop-largest l = kept_size l.largest

abbrev pub invariant-dropping::drop_items-loop-item : goal.invariant-dropping::drop_items-loop-item
invariant-dropping::drop_items-loop-item l =
    record {
      fewer : vals_size (vals_of l.items.items) ≤ vals_size (vals_of l.fn.items.items);
      kept : kept_size l.largest ≤ vals_size (vals_of l.fn.items.items);
    }

abbrev pub decreases-dropping::drop_items-loop-item : goal.decreases-dropping::drop_items-loop-item
decreases-dropping::drop_items-loop-item l = vals_size (vals_of l.items.items)

abbrev pub invariant-dropping::drop_pairs-loop-key : goal.invariant-dropping::drop_pairs-loop-key
invariant-dropping::drop_pairs-loop-key l =
    record {
      fewer : pairs_size (pairs_of l.pairs.items) ≤ pairs_size (pairs_of l.fn.pairs.items);
      kept : kept_size l.largest ≤ pairs_size (pairs_of l.fn.pairs.items);
    }

abbrev pub decreases-dropping::drop_pairs-loop-key : goal.decreases-dropping::drop_pairs-loop-key
decreases-dropping::drop_pairs-loop-key l = pairs_size (pairs_of l.pairs.items)
