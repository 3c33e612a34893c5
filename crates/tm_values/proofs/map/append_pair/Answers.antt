use Rattle.std.proofs.Common.{List, length, subst, sym, ◌∙◌}
use Rattle.std.proofs.lemmas.List.Edits.{insert_end}
use Rattle.tm_values.proofs.Maps.{map-put, put-gap}
use Rattle.tm_values.specs.Map.{IsMap, IsGapFor}
use Rattle.tm_values.specs.Val.{Val}
use Rattle.tm_values.proofs.map.append_pair.Goals as goal

-- the gap is at the end
pub returns-in_ok-push : goal.returns-in_ok-push
returns-in_ok-push c =
    let k = c.args.key in
    let v = c.args.value in
    let pairs = c.args.pairs.now.items in
    let gap = subst (λ (l : List (Val × Val)). IsGapFor k l (length l)) c.deref.ensures.value
    (c.is_above_all.ensures c.if-is_above_all.true) in
    let added = put-gap k v pairs (length pairs) gap ∙ (insert_end pairs (k, v) ∙ sym c.in_ok-push.ensures.items) in
    record { outcome = sym added; ordered = subst IsMap added (map-put k v pairs c.requires) }
