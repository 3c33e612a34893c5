use Rattle.std.proofs.Common.{◌≡◌, ◌≤◌, ◌+◌, ◌*◌, length, drop}
use Rattle.std.specs.Ordering.{ordering_then}
use Rattle.tm_values.specs.Order.{val_cmp, vals_cmp, pairs_cmp}
use Rattle.tm_values.specs.Val.{val_size, vals_size, vals_of, pairs_size, pairs_of}
use Rattle.tm_values.proofs.+compare.Given as goal

abbrev pub decreases-value::Value::compare_within : goal.decreases-value::Value::compare_within
decreases-value::Value::compare_within l = 2 * val_size l.self.now + 2

abbrev pub decreases-comparing::compare_deep : goal.decreases-comparing::compare_deep
decreases-comparing::compare_deep l = 2 * val_size l.left.now + 1

abbrev pub decreases-comparing::beside_largest : goal.decreases-comparing::beside_largest
decreases-comparing::beside_largest l = 2 * val_size l.left.now

abbrev pub decreases-comparing::beside_item : goal.decreases-comparing::beside_item
decreases-comparing::beside_item l = 2 * vals_size (vals_of l.left.now) + 1

abbrev pub decreases-comparing::beside_member : goal.decreases-comparing::beside_member
decreases-comparing::beside_member l = 2 * pairs_size (pairs_of l.left.now) + 1

abbrev pub decreases-comparing::beside_one : goal.decreases-comparing::beside_one
decreases-comparing::beside_one l = 2 * (val_size l.pair.now.0 + val_size l.pair.now.1) + 3

abbrev pub decreases-order::compare_items : goal.decreases-order::compare_items
decreases-order::compare_items l = 2 * vals_size (vals_of l.left.now) + 1

abbrev pub decreases-order::compare_pairs : goal.decreases-order::compare_pairs
decreases-order::compare_pairs l = 2 * pairs_size (pairs_of l.left.now) + 1

abbrev pub decreases-order::compare_pair : goal.decreases-order::compare_pair
decreases-order::compare_pair l = 2 * (val_size l.pair.now.0 + val_size l.pair.now.1) + 3

-- the items from i on compare as all of them do
abbrev pub invariant-order::compare_items-loop-i : goal.invariant-order::compare_items-loop-i
invariant-order::compare_items-loop-i l =
    record {
      within : l.i ≤ length l.right;
      rest : vals_cmp (vals_of (drop l.i l.left)) (vals_of (drop l.i l.right))
          ≡ vals_cmp (vals_of l.left) (vals_of l.right);
    }

-- the pairs from i on compare as all of them do
abbrev pub invariant-order::compare_pairs-loop-i : goal.invariant-order::compare_pairs-loop-i
invariant-order::compare_pairs-loop-i l =
    record {
      within : l.i ≤ length l.right;
      rest : pairs_cmp (pairs_of (drop l.i l.left)) (pairs_of (drop l.i l.right))
          ≡ pairs_cmp (pairs_of l.left) (pairs_of l.right);
    }

-- the items from i on compare as all of them do
abbrev pub invariant-comparing::beside_item-loop-i : goal.invariant-comparing::beside_item-loop-i
invariant-comparing::beside_item-loop-i l =
    record {
      within : l.i ≤ length l.right;
      rest : vals_cmp (vals_of (drop l.i l.left)) (vals_of (drop l.i l.right))
          ≡ vals_cmp (vals_of l.left) (vals_of l.right);
    }

-- the pairs from i on compare as all of them do
abbrev pub invariant-comparing::beside_member-loop-i : goal.invariant-comparing::beside_member-loop-i
invariant-comparing::beside_member-loop-i l =
    record {
      within : l.i ≤ length l.right;
      rest : pairs_cmp (pairs_of (drop l.i l.left)) (pairs_of (drop l.i l.right))
          ≡ pairs_cmp (pairs_of l.left) (pairs_of l.right);
    }

-- the two parts, and then what is after them, compare as both values do
abbrev pub invariant-comparing::compare_deep-loop-order : goal.invariant-comparing::compare_deep-loop-order
invariant-comparing::compare_deep-loop-order l =
    record {
      fewer : val_size l.first ≤ val_size l.left;
      whole : ordering_then (val_cmp l.first l.second) l.after ≡ val_cmp l.left l.right;
    }

abbrev pub decreases-comparing::compare_deep-loop-order : goal.decreases-comparing::compare_deep-loop-order
decreases-comparing::compare_deep-loop-order l = val_size l.first
