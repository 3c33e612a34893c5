-- How a value whose namespaces are maps is made part by part.
use Rattle.std.proofs.Common.{◌≡◌, ◌+◌, ◌<◌, ◌≤◌, ℕ, zero, suc, List, [], ◌∷◌, ◌++◌, Bool, true, false, cond, Option, None, Some, length, refl, sym, ap, subst, ◌∙◌, arith}
use Rattle.std.specs.Prelude.{Ok, Err, IfOk, IsErrAnd, Result}
use Rattle.std.specs.Borrow.{Bor}
use Rattle.tm_values.specs.Answer.{Answer, IsAnswer, is_memory_alone}
use Rattle.tm_values.specs.declared.error.ErrorKind.{ErrorKind}
use Rattle.tm_values.specs.Map.{IsAbove, IsMap}
use Rattle.tm_values.specs.Writable.{writable_of, vals_writable, pairs_writable, both, as_key, in_no_form, in_print_alone}
use Rattle.tm_values.specs.declared.writable.Writable.{Writable}
use Rattle.tm_values.specs.Records.{RecordData, namespace_at}
use Rattle.tm_values.specs.Val.{Val, undefined, none, boolean, number, text, list, map, keywords, exports, function, macro, loop, namespace}
use Rattle.tm_values.specs.Val.{Vals, no_vals, val, Pairs, no_pairs, pair, vals_of, pairs_of}
use Rattle.tm_definitions.specs.Emitted.{map_ok}
use Rattle.tm_definitions.specs.Mapped.{NamespaceValues, mapped, mapped_items, mapped_pairs, mapped_within, namespace_mapped, with_maps, with_ok}
use Rattle.tm_operations.specs.declared.mapped.Begun.{Begun}
use Rattle.tm_operations.specs.declared.mapped.Begun.TheVariants as begun
use Rattle.tm_operations.specs.declared.mapped.BegunList.{BegunList}
use Rattle.tm_operations.specs.declared.mapped.BegunMap.{BegunMap}
use Rattle.tm_operations.specs.declared.mapped.Kind.{Kind}
use Rattle.tm_operations.specs.declared.mapped.Kind.TheVariants as kind
use Rattle.tm_operations.specs.declared.mapped.Ahead.{Ahead}
use Rattle.tm_operations.specs.declared.mapped.Ahead.TheVariants as next
use Rattle.tm_operations.specs.Begun.{before_items, before_pairs, made_of, list_after, map_after, resumed, outermost, part_next, comes_to}
use Rattle.tm_operations.specs.Begun.{Ascends, AllAscend, weight, items_weight, pairs_weight, namespace_weight, left_in, left_in_all, left_of_next, left_to_make}
use Rattle.tm_operations.specs.Begun.{items_left, pairs_left}

-- ---------------------------------------------------------------- what was begun last
outermost_last : (r : RecordData) (bs : List Begun) (b : Begun) (part : Answer Val) →
    outermost r (bs ++ b ∷ []) part ≡ outermost r bs (resumed r b part)
outermost_last r [] b part = refl
outermost_last r (c ∷ bs) b part = ap (resumed r c) (outermost_last r bs b part)

-- a fault of a part is the whole's
pub outermost_fault : (r : RecordData) (bs : List Begun) (chain : List ErrorKind) → outermost r bs (Err chain) ≡ Err chain
outermost_fault r [] chain = refl
outermost_fault r (begun.List b ∷ bs) chain = ap (resumed r (begun.List b)) (outermost_fault r bs chain)
outermost_fault r (begun.Map b ∷ bs) chain = ap (resumed r (begun.Map b)) (outermost_fault r bs chain)

left_last : (r : RecordData) (bs : List Begun) (b : Begun) → left_in_all r (bs ++ b ∷ []) ≡ left_in_all r bs + left_in r b
left_last r [] b = omega arith
left_last r (c ∷ bs) b = omega (arith, left_last r bs b)

ascend_last : (bs : List Begun) (b : Begun) → AllAscend bs → Ascends b → AllAscend (bs ++ b ∷ [])
ascend_last [] b all here = (here, tt)
ascend_last (c ∷ bs) b all here = (all.0, ascend_last bs b all.1 here)

pub ascend_but_last : (bs : List Begun) (b : Begun) → AllAscend (bs ++ b ∷ []) → AllAscend bs × Ascends b
ascend_but_last [] b all = (tt, all.0)
ascend_but_last (c ∷ bs) b all = let rest = ascend_but_last bs b all.1 in ((all.0, rest.0), rest.1)

-- ---------------------------------------------------------------- lists
before_none : (xs : List Val) → before_items xs no_vals ≡ vals_of xs
before_none [] = refl
before_none (x ∷ xs) = ap (val x) (before_none xs)

before_last : (xs : List Val) (x : Val) (vs : Vals) → before_items (xs ++ x ∷ []) vs ≡ before_items xs (val x vs)
before_last [] x vs = refl
before_last (y ∷ xs) x vs = ap (val y) (before_last xs x vs)

none_left : {A : Type 0} (xs : List A) → length xs ≡ 0 → xs ≡ []
none_left [] e = refl
none_left (x ∷ xs) e = absurd (cc e)

pub list_made : (r : RecordData) (bs : List Begun) (levels : ℕ) (done rest : List Val) (v : Val) → length rest ≡ 0 → v ≡ list (vals_of done) →
    comes_to r bs (next.Made v) ≡ outermost r bs (list_after r levels done (vals_of rest))
list_made r bs levels done rest v over is =
    ap (outermost r bs) (ap Ok (is ∙ ap list (sym (before_none done))) ∙ ap (λ vs. list_after r levels done (vals_of vs)) (sym (none_left rest over)))

item_first : (done : List Val) (a : Answer Val) (m : Answer Vals) →
    with_ok a (λ x. map_ok (λ vs. list (before_items (done ++ x ∷ []) vs)) m)
    ≡ map_ok (λ vs. list (before_items done vs)) (with_ok a (λ x. map_ok (val x) m))
item_first done (Err chain) m = refl
item_first done (Ok x) (Err chain) = refl
item_first done (Ok x) (Ok vs) = ap (λ ws. Ok (list ws)) (before_last done x vs)

module _ (r : RecordData) (bs new : List Begun) (levels : ℕ) where
  pub list_next : (done rest more : List Val) (item : Bor Val) (b : BegunList) → b.levels ≡ levels → b.done.items ≡ done →
      b.rest.now ≡ more → new ≡ bs ++ begun.List b ∷ [] → rest ≡ item.now ∷ more →
      comes_to r new (next.Part item levels) ≡ outermost r bs (list_after r levels done (vals_of rest))
  list_next done rest more item b at before following grown first =
      ap (λ cs. outermost r cs (mapped_within r levels item.now)) grown
      ∙ outermost_last r bs (begun.List b) (mapped_within r levels item.now)
      ∙ ap (outermost r bs) (rw (at, before, following, first) (item_first done (mapped_within r levels item.now)
      (mapped_items (namespace_mapped r levels) (vals_of more))))

  pub list_less : (rest more : List Val) (item : Bor Val) (b : BegunList) → b.levels ≡ levels → b.rest.now ≡ more →
      new ≡ bs ++ begun.List b ∷ [] → rest ≡ item.now ∷ more →
      left_to_make r new (next.Part item levels) ≤ left_in_all r bs + items_left r levels (vals_of rest)
  list_less rest more item b at following grown first =
      rw (grown, left_last r bs (begun.List b), at, following, first) (omega arith)

-- ---------------------------------------------------------------- maps
pairs_before_none : (xs : List (Val × Val)) → before_pairs xs no_pairs ≡ pairs_of xs
pairs_before_none [] = refl
pairs_before_none (x ∷ xs) = ap (pair x.0 x.1) (pairs_before_none xs)

pairs_before_last : (xs : List (Val × Val)) (k x : Val) (ps : Pairs) → before_pairs (xs ++ (k, x) ∷ []) ps ≡ before_pairs xs (pair k x ps)
pairs_before_last [] k x ps = refl
pairs_before_last (y ∷ xs) k x ps = ap (pair y.0 y.1) (pairs_before_last xs k x ps)

pub map_made : (r : RecordData) (bs : List Begun) (k : Kind) (levels : ℕ) (done rest : List (Val × Val)) (v : Val) → length rest ≡ 0 →
    v ≡ made_of k (pairs_of done) →
    comes_to r bs (next.Made v) ≡ outermost r bs (map_after r k levels done (pairs_of rest))
map_made r bs k levels done rest v over is =
    ap (outermost r bs)
    (ap Ok (is ∙ ap (made_of k) (sym (pairs_before_none done))) ∙ ap (λ ps. map_after r k levels done (pairs_of ps)) (sym (none_left rest over)))

value_first : (k : Kind) (done : List (Val × Val)) (key : Val) (a : Answer Val) (m : Answer Pairs) →
    with_ok a (λ x. map_ok (λ ps. made_of k (before_pairs (done ++ (key, x) ∷ []) ps)) m)
    ≡ map_ok (λ ps. made_of k (before_pairs done ps)) (with_ok a (λ x. map_ok (pair key x) m))
value_first k done key (Err chain) m = refl
value_first k done key (Ok x) (Err chain) = refl
value_first k done key (Ok x) (Ok ps) = ap (λ qs. Ok (made_of k qs)) (pairs_before_last done key x ps)

module _ (r : RecordData) (bs new : List Begun) (levels : ℕ) where
  pub map_next : (k : Kind) (done rest more : List (Val × Val)) (first : Val × Val) (n : Ahead) (b : BegunMap) → b.kind ≡ k →
      b.levels ≡ levels → b.key ≡ first.0 → part_next r n ≡ mapped_within r levels first.1 → b.done.items ≡ done → b.rest.now ≡ more →
      new ≡ bs ++ begun.Map b ∷ [] → rest ≡ first ∷ more →
      comes_to r new n ≡ outermost r bs (map_after r k levels done (pairs_of rest))
  map_next k done rest more first n b of at key is before following grown begins =
      ap (λ cs. outermost r cs (part_next r n)) grown
      ∙ outermost_last r bs (begun.Map b) (part_next r n)
      ∙ ap (outermost r bs) (rw (of, at, key, is, before, following, begins) (value_first k done first.0 (mapped_within r levels first.1)
      (mapped_pairs (namespace_mapped r levels) (pairs_of more))))

  pub map_less : (rest more : List (Val × Val)) (first : Val × Val) (n : Ahead) (b : BegunMap) → b.levels ≡ levels →
      left_of_next r n ≡ weight (namespace_weight r levels) first.1 → b.rest.now ≡ more → new ≡ bs ++ begun.Map b ∷ [] →
      rest ≡ first ∷ more → left_to_make r new n ≤ left_in_all r bs + pairs_left r levels (pairs_of rest)
  map_less rest more first n b at is following grown begins =
      rw (grown, left_last r bs (begun.Map b), at, is, following, begins) (omega arith)

above_same : (p k v w : Val) (ds rs : List (Val × Val)) → IsAbove p (ds ++ (k, v) ∷ rs) → IsAbove p (ds ++ (k, w) ∷ rs)
above_same p k v w [] rs h = h
above_same p k v w (d ∷ ds) rs h = (h.0, above_same p k v w ds rs h.1)

key_stays : (k v w : Val) (ds rs : List (Val × Val)) → IsMap (ds ++ (k, v) ∷ rs) → IsMap (ds ++ (k, w) ∷ rs)
key_stays k v w [] rs h = h
key_stays k v w (d ∷ ds) rs h = (above_same d.0 k v w ds rs h.0, key_stays k v w ds rs h.1)

pub map_ascends : (bs new : List Begun) (done rest more : List (Val × Val)) (first : Val × Val) (b : BegunMap) → b.key ≡ first.0 →
    b.done.items ≡ done → b.rest.now ≡ more → new ≡ bs ++ begun.Map b ∷ [] → rest ≡ first ∷ more → IsMap (done ++ rest) →
    AllAscend bs → AllAscend new
map_ascends bs new done rest more first b key before following grown begins ascend all =
    rw grown (ascend_last bs (begun.Map b) all (λ v. rw (key, before, following)
    (key_stays first.0 first.1 v done more (subst (λ (ps : List (Val × Val)). IsMap (done ++ ps)) begins ascend))))

pub list_ascends : (bs new : List Begun) (b : BegunList) → new ≡ bs ++ begun.List b ∷ [] → AllAscend bs → AllAscend new
list_ascends bs new b grown all = rw grown (ascend_last bs (begun.List b) all tt)

-- ---------------------------------------------------------------- values without namespaces
both_true : (a b : Bool) → cond a b false ≡ true → (a ≡ true) × (b ≡ true)
both_true true b h = (refl, h)
both_true false b h = absurd (cc h)

module _ (inside : NamespaceValues) where
  mutual
    pub stays : (v : Val) → (writable_of v).in_json ≡ true → mapped inside v ≡ Ok v
    stays (undefined s) h = refl
    stays none h = refl
    stays (boolean b) h = refl
    stays (number z) h = refl
    stays (text s m) h = refl
    stays (list vs) h = ap (map_ok list) (items_stay vs h)
    stays (map ps) h = ap (map_ok map) (pairs_stay ps h)
    stays (keywords ps) h = ap (map_ok keywords) (pairs_stay ps h)
    stays (exports ps s) h = absurd (cc h)
    stays (function n) h = refl
    stays (macro m) h = refl
    stays (loop i n) h = refl
    stays (namespace i n) h = absurd (cc h)

    items_stay : (vs : Vals) → (vals_writable vs).in_json ≡ true → mapped_items inside vs ≡ Ok vs
    items_stay no_vals h = refl
    items_stay (val v vs) h =
        let parts = both_true (writable_of v).in_json (vals_writable vs).in_json h in
        ap (λ a. with_ok a (λ x. map_ok (val x) (mapped_items inside vs))) (stays v parts.0)
        ∙ ap (map_ok (val v)) (items_stay vs parts.1)

    pairs_stay : (ps : Pairs) → (pairs_writable ps).in_json ≡ true → mapped_pairs inside ps ≡ Ok ps
    pairs_stay no_pairs h = refl
    pairs_stay (pair k v ps) h =
        let parts = both_true (both (as_key k) (both (writable_of k) (writable_of v))).in_json (pairs_writable ps).in_json h in
        let key = both_true (as_key k).in_json (both (writable_of k) (writable_of v)).in_json parts.0 in
        let values = both_true (writable_of k).in_json (writable_of v).in_json key.1 in
        ap (λ a. with_ok a (λ x. map_ok (pair k x) (mapped_pairs inside ps))) (stays v values.1)
        ∙ ap (map_ok (pair k v)) (pairs_stay ps parts.1)

-- ---------------------------------------------------------------- parts
pub if_ok : {A E : Type 0} {P Q : A → Type 0} (x : Result A E) → ((a : A) → P a → Q a) → IfOk x P → IfOk x Q
if_ok (Ok a) f h = f a h
if_ok (Err e) f h = tt

module _ (r : RecordData) (levels : ℕ) where
  pub list_within : (v : Val) (done rest : List Val) → done ≡ [] → v ≡ list (vals_of rest) →
      list_after r levels done (vals_of rest) ≡ mapped_within r levels v
  list_within v done rest e f = rw (e, f) refl

  pub list_lighter : (v : Val) (rest : List Val) (bound left : ℕ) → v ≡ list (vals_of rest) →
      left ≤ bound + items_left r levels (vals_of rest) → left < bound + weight (namespace_weight r levels) v
  list_lighter v rest bound left e h = rw e (omega (arith, h))

  made_within : (k : Kind) (ps : Pairs) → map_after r k levels [] ps ≡ mapped_within r levels (made_of k ps)
  made_within kind.Map ps = refl
  made_within kind.Keywords ps = refl
  made_within (kind.Module s) ps = refl

  pub map_within : (k : Kind) (v : Val) (rest : List (Val × Val)) → v ≡ made_of k (pairs_of rest) →
      map_after r k levels [] (pairs_of rest) ≡ mapped_within r levels v
  map_within k v rest e = made_within k (pairs_of rest) ∙ ap (mapped_within r levels) (sym e)

  made_weight : (k : Kind) (ps : Pairs) → weight (namespace_weight r levels) (made_of k ps) ≡ pairs_weight (namespace_weight r levels) ps + 2
  made_weight kind.Map ps = refl
  made_weight kind.Keywords ps = refl
  made_weight (kind.Module s) ps = refl

  pub map_lighter : (k : Kind) (v : Val) (rest : List (Val × Val)) (bound left : ℕ) → v ≡ made_of k (pairs_of rest) →
      left ≤ bound + pairs_left r levels (pairs_of rest) → left < bound + weight (namespace_weight r levels) v
  map_lighter k v rest bound left e h = rw e (omega (arith, h, made_weight k (pairs_of rest)))

-- ---------------------------------------------------------------- namespaces
module _ (r : RecordData) (levels below s n : ℕ) (ps : List (Val × Val)) (deep : levels ≡ suc below)
    (there : namespace_at r s n ≡ Some ps) where
  pub namespace_within : map_after r kind.Map below [] (pairs_of ps) ≡ namespace_mapped r levels s n
  namespace_within = rw (deep, there) refl

  pub namespace_lighter : (bound left : ℕ) → left ≤ bound + pairs_left r below (pairs_of ps) → left < bound + namespace_weight r levels s n
  namespace_lighter bound left h = rw (deep, there) (omega (arith, h))

-- ---------------------------------------------------------------- the whole
pub starts : (r : RecordData) (bs : List Begun) (v : Bor Val) (n : ℕ) → bs ≡ [] → n ≡ length r.namespaces →
    (comes_to r bs (next.Part v n) ≡ with_maps r v.now) × AllAscend bs
starts r bs v n is_new all = (rw (is_new, all) refl, rw is_new tt)

fault_answer : (x stated : Answer Val) (e : List ErrorKind) → IsErrAnd x (λ y. y ≡ e) → (is_memory_alone e ≡ false → stated ≡ Err e) →
    IsAnswer x stated
fault_answer (Ok v) stated e same h = absurd same
fault_answer (Err y) stated e same h = subst (λ (z : List ErrorKind). is_memory_alone z ≡ false → stated ≡ Err z) (sym same) h

module _ (r : RecordData) (bs new : List Begun) (now after : Ahead) (whole : Answer Val) (here : comes_to r bs now ≡ whole) where
  pub part_fails : (v : Bor Val) (levels : ℕ) (x : Answer Val) (e : List ErrorKind) → now ≡ next.Part v levels → IsErrAnd x (λ y. y ≡ e) →
      (is_memory_alone e ≡ false → mapped_within r levels v.now ≡ Err e) → IsAnswer x whole
  part_fails v levels x e is same h =
      fault_answer x whole e same (λ m. sym here ∙ ap (comes_to r bs) is ∙ ap (outermost r bs) (h m) ∙ outermost_fault r bs e)

  pub part_comes : (v : Bor Val) (levels : ℕ) → now ≡ next.Part v levels →
      comes_to r new after ≡ outermost r bs (mapped_within r levels v.now) → comes_to r new after ≡ whole
  part_comes v levels is h = h ∙ ap (comes_to r bs) (sym is) ∙ here

  pub part_shrinks : (v : Bor Val) (levels : ℕ) → now ≡ next.Part v levels →
      left_to_make r new after < left_in_all r bs + weight (namespace_weight r levels) v.now → left_to_make r new after < left_to_make r bs now
  part_shrinks v levels is h = subst (λ (n : Ahead). left_to_make r new after < left_to_make r bs n) (sym is) h

  pub made_last : (v : Val) → now ≡ next.Made v → bs ≡ [] → whole ≡ Ok v
  made_last v is over = sym here ∙ ap (comes_to r bs) is ∙ ap (λ (cs : List Begun). outermost r cs (Ok v)) over

  pub made_comes : (v : Val) (outer : Begun) (rest : List Begun) → now ≡ next.Made v → bs ≡ rest ++ outer ∷ [] →
      comes_to r new after ≡ outermost r rest (resumed r outer (Ok v)) → comes_to r new after ≡ whole
  made_comes v outer rest is popped h =
      h ∙ sym (outermost_last r rest outer (Ok v)) ∙ ap (λ (cs : List Begun). outermost r cs (Ok v)) (sym popped)
      ∙ ap (comes_to r bs) (sym is) ∙ here

  pub made_shrinks : (v : Val) (outer : Begun) (rest : List Begun) → now ≡ next.Made v → bs ≡ rest ++ outer ∷ [] →
      left_to_make r new after ≤ left_in_all r rest + left_in r outer → left_to_make r new after < left_to_make r bs now
  made_shrinks v outer rest is popped h = rw (is, popped) (omega (arith, h, left_last r rest outer))
