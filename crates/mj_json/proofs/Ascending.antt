-- The members of an object make a map as they stand: their keys ascend.
use Rattle.std.proofs.Common.{◌≡◌, ℕ, List, [], ◌∷◌, ◌++◌, Option, Some, None, option_map, option_and_then, String, Global, Less}
use Rattle.std.proofs.Common.{string_bytes, nat_cmp, refl, sym, subst, ap, ◌∙◌, append_assoc, append-nil}
use Rattle.std.specs.Prelude.{false}
use Rattle.std.specs.Cmp.Lexicographic.{slice_cmp}
use Rattle.std.specs.List.{AllByRecursion}
use Rattle.std.specs.List.Sorted.{IsStrictlySortedBy}
use Rattle.std.specs.Map.{keys_of}
use Rattle.std.specs.String.{string_cmp}
use Rattle.serde_json.specs.View.{view, members_view}
use Rattle.serde_json.specs.declared.value.Value.{Value}
use Rattle.tm_values.specs.Order.{val_cmp}
use Rattle.tm_values.specs.Map.{put, put_each, put_all, IsAbove, IsMap}
use Rattle.tm_values.specs.Val.{Val, text}
use Rattle.tm_values.proofs.Maps.{turned}
use Rattle.mj_json.specs.Json.{value_of, members_of}

abbrev pub Entry : Type 0
Entry = String Global × Value

above_next : (k l : List ℕ) (o : Option Val) (left : Option (List (Val × Val))) (ps : List (Val × Val)) → slice_cmp nat_cmp k l ≡ Less
    → ((qs : List (Val × Val)) → left ≡ Some qs → IsAbove (text k false) qs)
    → option_and_then (λ v. option_map (λ qs. (text l false, v) ∷ qs) left) o ≡ Some ps → IsAbove (text k false) ps
above_next k l None left ps below rest is = absurd cc
above_next k l (Some v) None ps below rest is = absurd cc
above_next k l (Some v) (Some qs) ps below rest is =
    let whole : (text l false, v) ∷ qs ≡ ps = cc in
    subst (IsAbove (text k false)) whole (below, rest qs refl)

-- a key below those of the members is below those of the pairs
above : (k : String Global) (es : List Entry) (ps : List (Val × Val)) → AllByRecursion (λ l. string_cmp k l ≡ Less) (keys_of es)
    → members_of (members_view es) ≡ Some ps → IsAbove (text (string_bytes k) false) ps
above k [] ps below is =
    let none_left : [] ≡ ps = cc in
    subst (IsAbove (text (string_bytes k) false)) none_left tt
above k (e ∷ es) ps below is =
    above_next (string_bytes k) (string_bytes e.0) (value_of (view e.1)) (members_of (members_view es)) ps below.0
    (λ qs left. above k es qs below.1 left) is

map_next : (k : String Global) (es : List Entry) (o : Option Val) (left : Option (List (Val × Val))) (ps : List (Val × Val))
    → members_of (members_view es) ≡ left → AllByRecursion (λ l. string_cmp k l ≡ Less) (keys_of es)
    → ((qs : List (Val × Val)) → left ≡ Some qs → IsMap qs)
    → option_and_then (λ v. option_map (λ qs. (text (string_bytes k) false, v) ∷ qs) left) o ≡ Some ps → IsMap ps
map_next k es None left ps more below rest is = absurd cc
map_next k es (Some v) None ps more below rest is = absurd cc
map_next k es (Some v) (Some qs) ps more below rest is =
    let whole : (text (string_bytes k) false, v) ∷ qs ≡ ps = cc in
    subst IsMap whole (above k es qs below more, rest qs refl)

-- the pairs of members whose keys ascend are a map
pub ascending : (es : List Entry) (ps : List (Val × Val)) → IsStrictlySortedBy string_cmp (keys_of es)
    → members_of (members_view es) ≡ Some ps → IsMap ps
unfolding IsStrictlySortedBy
ascending [] ps sorted is =
    let none_left : [] ≡ ps = cc in
    subst IsMap none_left tt
ascending (e ∷ es) ps sorted is =
    map_next e.0 es (value_of (view e.1)) (members_of (members_view es)) ps refl sorted.0 (λ qs left. ascending es qs sorted.1 left) is

above-next : (k : Val) (ds : List (Val × Val)) (p : Val × Val) (ps : List (Val × Val)) → IsAbove k (ds ++ p ∷ ps) → val_cmp k p.0 ≡ Less
above-next k [] p ps a = a.0
above-next k (d ∷ ds) p ps a = above-next k ds p ps a.1

put-end : (ds : List (Val × Val)) (p : Val × Val) (ps : List (Val × Val)) → IsMap (ds ++ p ∷ ps) → put p.0 p.1 ds ≡ ds ++ p ∷ []
put-end [] p ps m = refl
put-end (d ∷ ds) p ps m = rw (turned d.0 p.0 Less (above-next d.0 ds p ps m.0)) (ap (λ l. d ∷ l) (put-end ds p ps m.1))

put_each-end : (ds ps : List (Val × Val)) → IsMap (ds ++ ps) → put_each ds ps ≡ ds ++ ps
put_each-end ds [] m = sym (append-nil ds)
put_each-end ds (p ∷ ps) m =
    rw (put-end ds p ps m) (put_each-end (ds ++ p ∷ []) ps (subst IsMap (sym (append_assoc ds (p ∷ []) ps)) m)
    ∙ append_assoc ds (p ∷ []) ps)

-- a map put in order is itself
pub put_all-map : (ps : List (Val × Val)) → IsMap ps → put_all ps ≡ ps
put_all-map ps m = put_each-end [] ps m
