use Rattle.std.proofs.Common.{◌≡◌, ◌≤◌, ◌+◌, List, ◌∷◌, Some, drop, get_or, set, string_bytes, subst, ap, ◌∙◌, arith}
use Rattle.std.proofs.lemmas.List.{drop_more, drop-set-lt}
use Rattle.std.specs.BTreeMap.IterMut.{iter_mut_rest}
use Rattle.std.specs.Prelude.{false}
use Rattle.tm_values.specs.Map.{put_all}
use Rattle.tm_values.specs.Val.{Val, text, map, pairs_of}
use Rattle.serde_json.specs.Data.{depth, items_depth, members_depth}
use Rattle.serde_json.specs.View.{view, items_view, members_view}
use Rattle.mj_json.specs.Json.{value_of, values_of, members_of, IsRefusal}
use Rattle.mj_json.proofs.Converted.{Leaves, next_done, all_done, max_below}
use Rattle.mj_json.proofs.Ascending.{ascending}
use Rattle.mj_json.proofs.Refused.{made, refused}
use Rattle.serde_json.proofs.Views.{view-Object}
use Rattle.mj_json.proofs.values.+values.Goals as goal

pub members_of-loop-key-preserved : goal.members_of-loop-key-preserved
members_of-loop-key-preserved t c =
    let done = c.loop-key.pairs.items in
    let entries = c.args.members.now.entries in
    let whole = members_of (members_view entries) in
    let key = c.in-Some.key.now in
    let left = iter_mut_rest c.next.new.self in
    let named : c.in_ok-key.key ≡ text (string_bytes key) false = c.in_ok-key.ensures ∙ ap (λ s. text s false) c.as_str.ensures.value in
    let leaves = subst (λ es. Leaves done (members_of (members_view es)) whole) c.in-Some.ensures.steps c.loop-key.invariant.left in
    let deep = subst (λ es. members_depth (members_view es) ≤ members_depth (members_view entries)) c.in-Some.ensures.steps
    c.loop-key.invariant.no_deeper in
    record {
      left = rw (c.in_ok-push.ensures.items, named)
          (next_done (λ v. (text (string_bytes key) false, v)) done (value_of (view c.in-Some.member.now)) c.in_ok-value_of.field-0
          (members_of (members_view left)) whole c.in_ok-value_of.ensures leaves);
      no_deeper = (max_below (depth (view c.in-Some.member.now)) (members_depth (members_view left)) _ deep).1;
    }

pub members_of-returns : goal.members_of-returns
members_of-returns t c =
    let entries = c.args.members.now.entries in
    let read = all_done c.loop-key.pairs.items (members_of (members_view entries))
    (subst (λ es. Leaves c.loop-key.pairs.items (members_of (members_view es)) (members_of (members_view entries)))
    c.in-None.ensures.steps.0 c.loop-key.invariant.left) in
    record { members = read; ordered = ascending entries c.loop-key.pairs.items c.iter_mut-key-items.ensures.ordered read }

abbrev map_value : List (Val × Val) → Val
map_value ps = map (pairs_of (put_all ps))

pub value_of-returns-in_err-members_of-in-Object : goal.value_of-returns-in_err-members_of-in-Object
value_of-returns-in_err-members_of-in-Object t c =
    let object = c.in-Object.members in
    let arm = c.in_err-members_of-in-Object in
    let refusal = subst (λ m. IsRefusal arm.field-0.0 (members_of (members_view m.entries))) c.in-Object.members-is
    arm.ensures.members in
    rw (c.in-Object.is, view-Object object)
    (refused c.from_residual-in_err-members_of-in-Object.result (members_of (members_view object.entries)) map_value arm.field-0.0
    c.from_residual-in_err-members_of-in-Object.ensures.1 refusal)

pub value_of-returns-in_ok-members_of-in-Object : goal.value_of-returns-in_ok-members_of-in-Object
value_of-returns-in_ok-members_of-in-Object t c =
    let object = c.in-Object.members in
    let pairs = c.in_ok-members_of-in-Object.field-0.items in
    let read = subst (λ m. members_of (members_view m.entries) ≡ Some pairs) c.in-Object.members-is
    c.in_ok-members_of-in-Object.ensures.members in
    rw (c.in-Object.is, view-Object object, read) (made c.map_of.result (map_value pairs) c.map_of.ensures)

pub values_of-value_of-requires : goal.values_of-value_of-requires
values_of-value_of-requires t c =
    let items = c.loop-item.items in
    let item = c.item-item.result in
    let cut = drop_more items c.loop-item.item-index item (omega arith) in
    let deep = subst (λ es. items_depth (items_view es) ≤ items_depth (items_view c.args.items.now)) cut
    c.loop-item.invariant.no_deeper in
    let below = (max_below (depth (view (get_or items c.loop-item.item-index item)))
    (items_depth (items_view (drop (c.loop-item.item-index + 1) items))) _ deep).0 in
    (omega (arith, c.decreases, below), tt)

pub values_of-loop-item-preserved : goal.values_of-loop-item-preserved
values_of-loop-item-preserved t c =
    let done = c.loop-item.values.items in
    let whole = values_of (items_view c.args.items.now) in
    let items = c.loop-item.items in
    let at = c.loop-item.item-index in
    let item = get_or items at c.item-item.result in
    let left = drop (at + 1) items in
    let emptied = c.value_of.new.json in
    let kept : drop (at + 1) (set items at emptied) ≡ left = drop-set-lt (at + 1) items at emptied (omega arith) in
    let cut : drop at items ≡ item ∷ left = drop_more items at c.item-item.result (omega arith) in
    let leaves = subst (λ es. Leaves done (values_of (items_view es)) whole) cut c.loop-item.invariant.left in
    let deep = subst (λ es. items_depth (items_view es) ≤ items_depth (items_view c.args.items.now)) cut
    c.loop-item.invariant.no_deeper in
    record {
      left = rw (kept, c.in_ok-push.ensures.items)
          (next_done (λ v. v) done (value_of (view item)) c.in_ok-value_of.field-0 (values_of (items_view left))
          whole c.in_ok-value_of.ensures leaves);
      no_deeper = rw kept ((max_below (depth (view item)) (items_depth (items_view left)) _ deep).1);
    }
