use Rattle.std.proofs.Common.{◌+◌, ◌*◌, ◌≤◌, drop}
use Rattle.serde_json.specs.Data.{depth, items_depth, members_depth}
use Rattle.serde_json.specs.View.{view, items_view, members_view}
use Rattle.std.specs.BTreeMap.IterMut.{iter_mut_rest}
use Rattle.mj_json.specs.Json.{values_of, members_of}
use Rattle.mj_json.proofs.Converted.{Leaves}
use Rattle.mj_json.proofs.values.+values.Given as goal

-- how deep arrays and objects nest, and of two calls at one depth the caller's is greater
abbrev pub decreases-value_of : goal.decreases-value_of
decreases-value_of l = 2 * depth (view l.json.now)

abbrev pub decreases-values_of : goal.decreases-values_of
decreases-values_of l = 2 * items_depth (items_view l.items.now) + 1

abbrev pub decreases-members_of : goal.decreases-members_of
decreases-members_of l = 2 * members_depth (members_view l.members.now.entries) + 1

-- the items from the next one on are left
abbrev pub invariant-values_of-loop-item : goal.invariant-values_of-loop-item
invariant-values_of-loop-item l = record {
  left : Leaves l.values.items (values_of (items_view (drop l.item-index l.items))) (values_of (items_view l.fn.items));
  no_deeper : items_depth (items_view (drop l.item-index l.items)) ≤ items_depth (items_view l.fn.items);
}

-- the members that the iterator still has are left
abbrev pub invariant-members_of-loop-key : goal.invariant-members_of-loop-key
invariant-members_of-loop-key l = record {
  left : Leaves l.pairs.items (members_of (members_view (iter_mut_rest l.key-iterator))) (members_of (members_view l.fn.members.entries));
  no_deeper : members_depth (members_view (iter_mut_rest l.key-iterator)) ≤ members_depth (members_view l.fn.members.entries);
}
