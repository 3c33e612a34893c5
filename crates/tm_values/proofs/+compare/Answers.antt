use Rattle.std.proofs.Common.{arith, ap, sym, ◌∙◌}
use Rattle.tm_values.proofs.Comparisons.{around_item, around_pair, different_pairs, size_behind, sizes_behind, then_after, within_more}
use Rattle.tm_values.proofs.Lists.{fewer-items, fewer-pairs}
use Rattle.std.specs.Ordering.{ordering_then}
use Rattle.tm_values.proofs.+compare.Goals as goal

pub order::compare_items-compare_within-items-requires : goal.order::compare_items-compare_within-items-requires
order::compare_items-compare_within-items-requires t c =
    let smaller = size_behind c.args.left.now c.loop-i.i c.index-left-i.result (omega arith) c.index-left-i.is in
    (omega (arith, smaller), tt)

pub order::compare_items-returns-then-left-right : goal.order::compare_items-returns-then-left-right
order::compare_items-returns-then-left-right t c =
    fewer-items c.args.left.now c.args.right.now c.loop-i.i (omega arith) (omega arith) ∙ c.loop-i.invariant.rest

pub order::compare_pairs-compare_pair-pairs-requires : goal.order::compare_pairs-compare_pair-pairs-requires
order::compare_pairs-compare_pair-pairs-requires t c =
    let smaller = sizes_behind c.args.left.now c.loop-i.i c.index-left-i.result (omega arith) c.index-left-i.is in
    (omega (arith, smaller), tt)

pub order::compare_pairs-returns-then-ne : goal.order::compare_pairs-returns-then-ne
order::compare_pairs-returns-then-ne t c =
    different_pairs c.args.left.now c.args.right.now c.loop-i.i c.index-left-i.result c.index-right-i.result _ c.compare_pair-pairs.result
    c.ne.result (omega arith) (omega arith) c.index-left-i.is c.index-right-i.is c.loop-i.invariant.rest c.compare_pair-pairs.ensures
    c.ne.ensures c.if-ne.true

pub order::compare_pairs-returns-then-left-right : goal.order::compare_pairs-returns-then-left-right
order::compare_pairs-returns-then-left-right t c =
    fewer-pairs c.args.left.now c.args.right.now c.loop-i.i (omega arith) (omega arith) ∙ c.loop-i.invariant.rest

pub comparing::beside_item-compare_items-requires : goal.comparing::beside_item-compare_items-requires
comparing::beside_item-compare_items-requires t c =
    let smaller = size_behind c.args.left.now c.loop-i.i c.index-left-i.result (omega arith) c.index-left-i.is in
    (omega (arith, smaller), tt)

pub comparing::beside_item-returns-then-i-place : goal.comparing::beside_item-returns-then-i-place
comparing::beside_item-returns-then-i-place t c =
    let smaller = size_behind c.args.left.now c.loop-i.i c.index-left-i.result (omega arith) c.index-left-i.is in
    let whole = around_item c.args.left.now c.args.right.now c.loop-i.i c.index-left-i.result c.index-right-i.result _ c.compare_items.result
    (omega arith) (omega arith) c.index-left-i.is c.index-right-i.is c.loop-i.invariant.rest c.compare_items.ensures in
    (whole, omega (arith, smaller))

pub comparing::beside_item-compare_within-items-requires : goal.comparing::beside_item-compare_within-items-requires
comparing::beside_item-compare_within-items-requires t c =
    let smaller = size_behind c.args.left.now c.loop-i.i c.index-left-i.result (omega arith) c.index-left-i.is in
    (omega (arith, smaller), tt)

pub comparing::beside_item-returns-then-left-right : goal.comparing::beside_item-returns-then-left-right
comparing::beside_item-returns-then-left-right t c =
    sym (fewer-items c.args.left.now c.args.right.now c.loop-i.i (omega arith) (omega arith) ∙ c.loop-i.invariant.rest)

pub comparing::beside_largest-returns-in-Around : goal.comparing::beside_largest-returns-in-Around
comparing::beside_largest-returns-in-Around t c =
    let end = c.in-Pairs.ensures.0 in
    let part = c.in-Around.ensures.0 in
    let after = c.then-in-Around.ensures ∙ ap (ordering_then c.in-Around.order) c.cmp-in-Around.ensures in
    (then_after _ _ _ c.in-Around.order c.then-in-Around.result _ end part after, omega (arith, c.in-Pairs.ensures.1, c.in-Around.ensures.1))

pub comparing::beside_member-compare_pairs-after-requires : goal.comparing::beside_member-compare_pairs-after-requires
comparing::beside_member-compare_pairs-after-requires t c =
    let smaller = sizes_behind c.args.left.now c.loop-i.i c.index-left-i.result (omega arith) c.index-left-i.is in
    (omega (arith, smaller), tt)

pub comparing::beside_member-beside_one-requires : goal.comparing::beside_member-beside_one-requires
comparing::beside_member-beside_one-requires t c =
    let smaller = sizes_behind c.args.left.now c.loop-i.i c.index-left-i.result (omega arith) c.index-left-i.is in
    (omega (arith, smaller), tt)

pub comparing::beside_member-returns-then-i-place : goal.comparing::beside_member-returns-then-i-place
comparing::beside_member-returns-then-i-place t c =
    let smaller = sizes_behind c.args.left.now c.loop-i.i c.index-left-i.result (omega arith) c.index-left-i.is in
    let whole = around_pair c.args.left.now c.args.right.now c.loop-i.i c.index-left-i.result c.index-right-i.result _
    c.compare_pairs-after.result (omega arith) (omega arith) c.index-left-i.is c.index-right-i.is c.loop-i.invariant.rest
    c.compare_pairs-after.ensures in
    within_more _ _ _ _ c.beside_one.result whole (omega (arith, smaller)) c.beside_one.ensures

pub comparing::beside_member-compare_pair-pairs-requires : goal.comparing::beside_member-compare_pair-pairs-requires
comparing::beside_member-compare_pair-pairs-requires t c =
    let smaller = sizes_behind c.args.left.now c.loop-i.i c.index-left-i.result (omega arith) c.index-left-i.is in
    (omega (arith, smaller), tt)

pub comparing::beside_member-returns-then-ne : goal.comparing::beside_member-returns-then-ne
comparing::beside_member-returns-then-ne t c =
    sym (different_pairs c.args.left.now c.args.right.now c.loop-i.i c.index-left-i.result c.index-right-i.result _
    c.compare_pair-pairs.result c.ne.result (omega arith) (omega arith) c.index-left-i.is c.index-right-i.is c.loop-i.invariant.rest
    c.compare_pair-pairs.ensures c.ne.ensures c.if-ne.true)

pub comparing::beside_member-returns-then-left-right : goal.comparing::beside_member-returns-then-left-right
comparing::beside_member-returns-then-left-right t c =
    sym (fewer-pairs c.args.left.now c.args.right.now c.loop-i.i (omega arith) (omega arith) ∙ c.loop-i.invariant.rest)

pub comparing::compare_deep-loop-order-preserved : goal.comparing::compare_deep-loop-order-preserved
comparing::compare_deep-loop-order-preserved t c =
    let next = c.in-Around.ensures.0 in
    let all = then_after _ _ _ c.in-Around.order c.then-after.result c.loop-order.after (sym c.loop-order.invariant.whole) next
    c.then-after.ensures in
    record {
      fewer = omega (arith, c.loop-order.invariant.fewer, c.in-Around.ensures.1);
      whole = sym all;
    }
