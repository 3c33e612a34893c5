use Rattle.std.proofs.Common.{◌≡◌, ◌<◌, ◌++◌, ℕ, List, [], ◌∷◌, length, get_or, sym, ap, ◌∙◌, append_assoc, rules}
use Rattle.std.proofs.lemmas.List.{get_or_default}
use Rattle.std.specs.Prelude.{slice_index_or}
use Rattle.tm_definitions.specs.Slices.{items_at}
use Rattle.tm_primitives.proofs.Picks.{inside_first, inside_more}
use Rattle.tm_values.specs.Val.{Val, none}
use Rattle.tm_operations.proofs.slices.pick_items.Goals as goal

-- the item at the first of the places is the next
next_item : (xs done : List Val) (p : ℕ) (ps old : List ℕ) (v d : Val) (whole : List Val) → old ≡ p ∷ ps → p < length xs → v ≡ get_or xs p d
    → done ++ items_at xs old ≡ whole → (done ++ v ∷ []) ++ items_at xs ps ≡ whole
next_item xs done p ps old v d whole is h same rest =
    let same_item : v ≡ slice_index_or xs p none = same ∙ get_or_default xs p d none h in
    append_assoc done (v ∷ []) (items_at xs ps)
    ∙ (ap (λ (x : Val). done ++ x ∷ items_at xs ps) same_item ∙ (ap (λ (l : List ℕ). done ++ items_at xs l) (sym is) ∙ rest))

pub loop-place-preserved : goal.loop-place-preserved
loop-place-preserved c =
    let xs = c.args.items.now in
    let n = length xs in
    let p = c.in-Some.place in
    let ps = c.next.new.self in
    let old = c.loop-place.places in
    let v = c.in_ok-share.field-0 in
    let is : old ≡ p ∷ ps = c.in-Some.ensures.some in
    let inside = c.loop-place.invariant.inside in
    let same : v ≡ get_or xs p c.index-items-place.result = c.in_ok-share.ensures ∙ c.index-items-place.is in
    let rest = next_item xs c.loop-place.picked.items p ps old v c.index-items-place.result (items_at xs c.args.places) is
    (inside_first n p old ps is inside) same c.loop-place.invariant.rest in
    record { inside = inside_more n p old ps is inside; rest = rw c.in_ok-push.ensures.items rest }

pub returns-in_err-picked : goal.returns-in_err-picked
returns-in_err-picked c = search rules fits 100

pub returns-in_err-share : goal.returns-in_err-share
returns-in_err-share c = search rules fits 100

pub returns-in_err-push : goal.returns-in_err-push
returns-in_err-push c = search rules fits 100

pub returns : goal.returns
returns c = search rules fits 100
