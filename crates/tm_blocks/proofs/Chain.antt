-- The lists of blocks by name are those of the templates of a chain whose blocks have the name.
use Rattle.std.proofs.Common.{◌≡◌, ◌∙◌, ◌≢◌, ◌⊎◌, inl, inr, ◌+◌, ◌-◌, ◌<◌, ◌≤◌, ◌++◌, ◌||◌, ◌&&◌, ℕ, zero, suc, List, [], ◌∷◌, length, take, drop}
use Rattle.std.proofs.Common.{Option, Some, None, Bool, true, false, true≢false, cond, is_some, nat_eq, not, option_map, slice_get, refl, sym, ap}
use Rattle.std.proofs.Common.{subst, arith, get_or, unwrap_or, Less}
use Rattle.std.proofs.lemmas.Bool.{ne_eqb}
use Rattle.std.proofs.lemmas.List.{append_assoc, append-nil, take_all}
use Rattle.std.proofs.lemmas.Option.{slice_get_read}
use Rattle.std.proofs.lemmas.Slice.Eq.{bytes_eq-Decides}
use Rattle.std.specs.BTreeMap.{is_at}
use Rattle.std.specs.List.{AllByRecursion, list_any}
use Rattle.std.specs.List.Sorted.{IsStrictlySortedBy}
use Rattle.std.specs.Ordering.{is_eq}
use Rattle.std.specs.Prelude.{option_and_then}
use Rattle.tm_syntax.specs.Named.{Named, name_cmp, find, put}
use Rattle.tm_syntax.proofs.Named.{find_put, find_put_other, same_or_not}
use Rattle.tm_meaning.specs.declared.stream.TemplateId.{TemplateId}
use Rattle.tm_meaning.specs.Inheritance.{after_all}
use Rattle.tm_scopes.specs.Known.{is_among}
use Rattle.tm_blocks.specs.Layers.{AreAscending, IsLayerOf, LayerValue, has_block, having}
use Rattle.tm_blocks.specs.Lists.{IsListed, LoadedValue, listed_at, with_block, with_each, with_layers}
use Rattle.tm_scopes.proofs.Ordered.{at_itself, at_same}

-- ---------------------------------------------------------------- the blocks of one template
not_among : (x : List ℕ) (xs : List (List ℕ)) → AllByRecursion (λ y. name_cmp x y ≡ Less) xs → is_among x xs ≡ false
not_among x [] h = refl
not_among x (y ∷ ys) h = ap (λ o. is_eq o || is_among x ys) h.0 ∙ not_among x ys h.1

apart_at : (x y : List ℕ) → x ≢ y → is_at (name_cmp x) y ≡ false
apart_at x y apart = by (is_at (name_cmp x) y) refl
  where
    by : (b : Bool) → is_at (name_cmp x) y ≡ b → is_at (name_cmp x) y ≡ false
    by true e = absurd (apart (at_same x y e))
    by false e = e

module _ (t : TemplateId) where
  -- what stands in the list of a name with the blocks of this template
  abbrev or_with : Bool → Option (List TemplateId) → Option (List TemplateId)
  or_with b o = cond b (Some (after_all t o)) o

  each_by : (x y : List ℕ) (ys : List (List ℕ)) (ls : Named (List TemplateId)) → (x ≡ y) ⊎ (x ≢ y) →
      AllByRecursion (λ z. name_cmp y z ≡ Less) ys →
      find x (with_each t ys (with_block t y ls)) ≡ or_with (is_among x ys) (find x (with_block t y ls)) →
      find x (with_each t ys (with_block t y ls)) ≡ or_with (is_among x (y ∷ ys)) (find x ls)
  each_by x y ys ls (inl same) below rest =
      rest
      ∙ ap (λ b. or_with b (find x (with_block t y ls))) (ap (λ z. is_among z ys) same ∙ not_among y ys below)
      ∙ ap (λ z. find z (with_block t y ls)) same ∙ find_put y (after_all t (find y ls)) ls
      ∙ ap (λ z. Some (after_all t (find z ls))) (sym same)
      ∙ sym (ap (λ b. or_with (b || is_among x ys) (find x ls)) (at_itself x y same))
  each_by x y ys ls (inr apart) below rest =
      rest
      ∙ ap (or_with (is_among x ys)) (find_put_other x y apart (after_all t (find y ls)) ls)
      ∙ sym (ap (λ b. or_with (b || is_among x ys) (find x ls)) (apart_at x y apart))

  find_each : (x : List ℕ) (xs : List (List ℕ)) (ls : Named (List TemplateId)) → IsStrictlySortedBy name_cmp xs →
      find x (with_each t xs ls) ≡ or_with (is_among x xs) (find x ls)
  unfolding IsStrictlySortedBy
  find_each x [] ls o = refl
  find_each x (y ∷ ys) ls o = each_by x y ys ls (same_or_not x y) o.0 (find_each x ys (with_block t y ls) o.1)

-- ---------------------------------------------------------------- the blocks of a chain
-- these templates stand after those of a list
abbrev joined : Option (List TemplateId) → List TemplateId → Option (List TemplateId)
joined o [] = o
joined o (t ∷ ts) = joined (Some (after_all t o)) ts

one_joined : (t : TemplateId) (b : Bool) (o : Option (List TemplateId)) (ts : List TemplateId) →
    joined (or_with t b o) ts ≡ joined o (cond b (t ∷ ts) ts)
one_joined t true o ts = refl
one_joined t false o ts = refl

find_layers : (x : List ℕ) (layers : List LayerValue) (ls : Named (List TemplateId)) → AreAscending layers →
    find x (with_layers layers ls) ≡ joined (find x ls) (having x layers)
find_layers x [] ls o = refl
find_layers x (l ∷ more) ls o =
    find_layers x more (with_each l.template l.names ls) o.1
    ∙ ap (λ (f : Option (List TemplateId)). joined f (having x more)) (find_each l.template x l.names ls o.0)
    ∙ one_joined l.template (has_block x l) (find x ls) (having x more)

joined_some : (l ts : List TemplateId) → joined (Some l) ts ≡ Some (l ++ ts)
joined_some l [] = ap Some (sym (append-nil l))
joined_some l (t ∷ ts) = joined_some (l ++ t ∷ []) ts ∙ ap Some (append_assoc l (t ∷ []) ts)

-- a list is there unless it has no template
abbrev listed : List TemplateId → Option (List TemplateId)
listed [] = None
listed (t ∷ ts) = Some (t ∷ ts)

joined_none : (ts : List TemplateId) → joined None ts ≡ listed ts
joined_none [] = refl
joined_none (t ∷ ts) = joined_some (t ∷ []) ts

found : (x : List ℕ) (layers : List LayerValue) → AreAscending layers → find x (with_layers layers []) ≡ listed (having x layers)
found x layers o = find_layers x layers [] o ∙ joined_none (having x layers)

at_listed : (ts : List TemplateId) (n : ℕ) → option_and_then (λ (l : List TemplateId). slice_get l n) (listed ts) ≡ slice_get ts n
at_listed [] n = refl
at_listed (t ∷ ts) n = refl

-- where none stands at the place
pub none_listed : (x : List ℕ) (n : ℕ) (layers : List LayerValue) (seen : Named (List TemplateId)) → AreAscending layers →
    with_layers layers [] ≡ seen → slice_get (having x layers) n ≡ None → listed_at x n seen ≡ None
none_listed x n layers seen o is none =
    ap (listed_at x n) (sym is) ∙ ap (λ f. option_and_then (λ (l : List TemplateId). slice_get l n) f) (found x layers o)
    ∙ at_listed (having x layers) n ∙ none

-- and where one does
listed_there : (ts : List TemplateId) (n : ℕ) (t : TemplateId) → slice_get ts n ≡ Some t → listed ts ≡ Some ts
listed_there [] n t h = absurd (cc h)
listed_there (u ∷ ts) n t h = refl

-- ---------------------------------------------------------------- the templates that have a block
abbrev one_more : Bool → ℕ → ℕ
one_more b n = cond b (suc n) n

counted_one : (b : Bool) (t : TemplateId) (ts : List TemplateId) → length (cond b (t ∷ ts) ts) ≡ one_more b (length ts)
counted_one true t ts = refl
counted_one false t ts = refl

module _ (x : List ℕ) where
  none_any : (layers : List LayerValue) → list_any (has_block x) layers ≡ false → having x layers ≡ []
  none_any [] h = refl
  none_any (l ∷ more) h = by (has_block x l) (list_any (has_block x) more) h (none_any more)
    where
      by : (b c : Bool) → (b || c) ≡ false → (c ≡ false → having x more ≡ []) → cond b (l.template ∷ having x more) (having x more) ≡ []
      by true c h k = absurd (true≢false h)
      by false c h k = k h

  some_any : (layers : List LayerValue) → list_any (has_block x) layers ≡ true → 1 ≤ length (having x layers)
  some_any [] h = absurd (true≢false (sym h))
  some_any (l ∷ more) h = by (has_block x l) (list_any (has_block x) more) h (some_any more)
    where
      by : (b c : Bool) → (b || c) ≡ true → (c ≡ true → 1 ≤ length (having x more)) →
          1 ≤ length (cond b (l.template ∷ having x more) (having x more))
      by true c h k = omega arith
      by false c h k = k h

  -- the template of a layer that has the block, after those of the layers before it
  there_by : (b : Bool) (t : TemplateId) (us ts : List TemplateId) (v : TemplateId) → slice_get ts (length us) ≡ Some v →
      slice_get (cond b (t ∷ ts) ts) (length (cond b (t ∷ us) us)) ≡ Some v
  there_by true t us ts v h = h
  there_by false t us ts v h = h

  there : (layers : List LayerValue) (i : ℕ) (l : LayerValue) → slice_get layers i ≡ Some l → has_block x l ≡ true →
      slice_get (having x layers) (length (having x (take i layers))) ≡ Some l.template
  there [] i l h has = absurd (cc h)
  there (k ∷ more) zero l h has =
      let same : k ≡ l = ap (λ o. unwrap_or o k) h in
      ap (λ b. slice_get (cond b (k.template ∷ having x more) (having x more)) 0) (ap (has_block x) same ∙ has)
      ∙ ap (λ (m : LayerValue). Some m.template) same
  there (k ∷ more) (suc i) l h has =
      there_by (has_block x k) k.template (having x (take i more)) (having x more) l.template (there more i l h has)

  -- how many have it
  counted_by : (b : Bool) (t : TemplateId) (us ts : List TemplateId) (n : ℕ) → length ts ≡ length us + suc n →
      length (cond b (t ∷ ts) ts) ≡ length (cond b (t ∷ us) us) + suc n
  counted_by true t us ts n h = omega (arith, h)
  counted_by false t us ts n h = h

  counted : (layers : List LayerValue) (i : ℕ) (l : LayerValue) → slice_get layers i ≡ Some l → has_block x l ≡ true →
      length (having x layers) ≡ length (having x (take i layers)) + suc (length (having x (drop (suc i) layers)))
  counted [] i l h has = absurd (cc h)
  counted (k ∷ more) zero l h has =
      let same : k ≡ l = ap (λ o. unwrap_or o k) h in
      let all : length (having x (k ∷ more)) ≡ suc (length (having x more)) =
      ap (λ b. length (cond b (k.template ∷ having x more) (having x more))) (ap (has_block x) same ∙ has) in
      omega (arith, all)
  counted (k ∷ more) (suc i) l h has =
      counted_by (has_block x k) k.template (having x (take i more)) (having x more) (length (having x (drop (suc i) more)))
      (counted more i l h has)

  -- one more of the layers was asked
  asked : (layers : List LayerValue) (i : ℕ) (l : LayerValue) → slice_get layers i ≡ Some l →
      length (having x (take (suc i) layers)) ≡ one_more (has_block x l) (length (having x (take i layers)))
  asked [] i l h = absurd (cc h)
  asked (k ∷ more) zero l h =
      let same : k ≡ l = ap (λ o. unwrap_or o k) h in
      counted_one (has_block x k) k.template [] ∙ ap (λ m. one_more (has_block x m) 0) same
  asked (k ∷ more) (suc i) l h =
      counted_one (has_block x k) k.template (having x (take (suc i) more))
      ∙ ap (one_more (has_block x k)) (asked more i l h)
      ∙ turned (has_block x k) (has_block x l) (length (having x (take i more)))
      ∙ sym (ap (one_more (has_block x l)) (counted_one (has_block x k) k.template (having x (take i more))))
    where
      turned : (a b : Bool) (n : ℕ) → one_more a (one_more b n) ≡ one_more b (one_more a n)
      turned true true n = refl
      turned true false n = refl
      turned false b n = refl

  -- ---------------------------------------------------------------- the search for a layer
  -- none stands where no more are
  pub past : (layers : List LayerValue) (n at left : ℕ) → length layers ≤ at → left + length (having x (take at layers)) ≡ n →
      slice_get (having x layers) n ≡ None
  past layers n at left all is =
      none_past (having x layers) n
      (let e : length (having x (take at layers)) ≡ length (having x layers) = ap (λ ls. length (having x ls)) (take_all at layers all) in
      omega (arith, e, is))
    where
      none_past : (ts : List TemplateId) (n : ℕ) → length ts ≤ n → slice_get ts n ≡ None
      none_past [] n h = refl
      none_past (t ∷ ts) zero h = absurd (omega (arith, h))
      none_past (t ∷ ts) (suc n) h = none_past ts n (omega (arith, h))

  -- a layer that has a block, among those from one on
  pub any_from : (layers : List LayerValue) (from k : ℕ) (l : LayerValue) → from ≤ k → k < length layers → l ≡ get_or layers k l →
      has_block x l ≡ true → list_any (has_block x) (drop from layers) ≡ true
  any_from [] from k l le lt is has = absurd (omega (arith, lt))
  any_from (m ∷ more) zero zero l le lt is has = ap (λ b. b || list_any (has_block x) more) (ap (has_block x) (sym is) ∙ has)
  any_from (m ∷ more) zero (suc k) l le lt is has =
      ap (λ b. has_block x m || b) (any_from more zero k l (omega arith) (omega (arith, lt)) is has) ∙ or_true (has_block x m)
    where
      or_true : (b : Bool) → (b || true) ≡ true
      or_true true = refl
      or_true false = refl
  any_from (m ∷ more) (suc from) zero l le lt is has = absurd (omega (arith, le))
  any_from (m ∷ more) (suc from) (suc k) l le lt is has = any_from more from k l (omega (arith, le)) (omega (arith, lt)) is has

  -- one more that has none
  pub none_more : (layers : List LayerValue) (k : ℕ) (l : LayerValue) → k < length layers → l ≡ get_or layers k l → has_block x l ≡ false →
      list_any (has_block x) (drop (suc k) layers) ≡ false → list_any (has_block x) (drop k layers) ≡ false
  none_more [] k l lt is has rest = absurd (omega (arith, lt))
  none_more (m ∷ more) zero l lt is has rest = ap (λ b. b || list_any (has_block x) more) (ap (has_block x) (sym is) ∙ has) ∙ rest
  none_more (m ∷ more) (suc k) l lt is has rest = none_more more k l (omega (arith, lt)) is has rest

  -- and fewer of those that have none
  pub none_less : (layers : List LayerValue) (k from : ℕ) → k ≤ from → list_any (has_block x) (drop k layers) ≡ false →
      list_any (has_block x) (drop from layers) ≡ false
  none_less [] zero zero le h = refl
  none_less [] zero (suc from) le h = refl
  none_less [] (suc k) zero le h = refl
  none_less [] (suc k) (suc from) le h = refl
  none_less (m ∷ more) zero zero le h = h
  none_less (m ∷ more) zero (suc from) le h = none_less more zero from (omega arith) (last (has_block x m) (list_any (has_block x) more) h)
    where
      last : (a b : Bool) → (a || b) ≡ false → b ≡ false
      last true b h = absurd (true≢false h)
      last false b h = h
  none_less (m ∷ more) (suc k) zero le h = absurd (omega (arith, le))
  none_less (m ∷ more) (suc k) (suc from) le h = none_less more k from (omega (arith, le)) h

  -- the layer at a place that there is
  at_there : (layers : List LayerValue) (i : ℕ) (l : LayerValue) → i < length layers → l ≡ get_or layers i l → slice_get layers i ≡ Some l
  at_there layers i l lt is = slice_get_read layers (length layers) i l refl lt is

  -- one is found
  pub layer_found : (layers : List LayerValue) (n i left : ℕ) (l : LayerValue) → i < length layers → l ≡ get_or layers i l →
      has_block x l ≡ true → left ≡ 0 → left + length (having x (take i layers)) ≡ n → IsLayerOf (Some i) x n layers
  layer_found layers n i left l lt is has first sum = (
    lt,
    ap (option_map (has_block x)) (at_there layers i l lt is) ∙ ap Some has,
    omega (arith, first, sum),
  )

  -- or is left after
  pub left_after : (layers : List LayerValue) (i : ℕ) (l : LayerValue) (b : Bool) → i < length layers → l ≡ get_or layers i l →
      has_block x l ≡ b → length (having x (take (i + 1) layers)) ≡ one_more b (length (having x (take i layers)))
  left_after layers i l b lt is has =
      let next : i + 1 ≡ suc i = omega arith in
      ap (λ m. length (having x (take m layers))) next ∙ asked layers i l (at_there layers i l lt is)
      ∙ ap (λ c. one_more c (length (having x (take i layers)))) has

-- ---------------------------------------------------------------- what is listed
the_layer : (x : List ℕ) (n i : ℕ) (layers : List LayerValue) (l : LayerValue) → IsLayerOf (Some i) x n layers → l ≡ get_or layers i l →
    (slice_get layers i ≡ Some l) × (has_block x l ≡ true)
the_layer x n i layers l of is =
    let at = slice_get_read layers (length layers) i l refl of.0 is in
    (at, ap (λ o. unwrap_or o true) (sym (ap (option_map (has_block x)) at) ∙ of.1))

listed_of : (x : List ℕ) (n i : ℕ) (layers : List LayerValue) (l : LayerValue) → IsLayerOf (Some i) x n layers → l ≡ get_or layers i l →
    slice_get (having x layers) n ≡ Some l.template
listed_of x n i layers l of is =
    let at = the_layer x n i layers l of is in
    ap (slice_get (having x layers)) (sym of.2) ∙ there x layers i l at.0 at.1

-- the template of a layer that was found stands in the list
pub one_listed : (x : List ℕ) (n i : ℕ) (layers : List LayerValue) (seen : Named (List TemplateId)) (l : LayerValue) (t : TemplateId) →
    AreAscending layers → with_layers layers [] ≡ seen → IsLayerOf (Some i) x n layers → l ≡ get_or layers i l → t ≡ l.template →
    (ts : List TemplateId) × (find x seen ≡ Some ts) × (slice_get ts n ≡ Some t)
one_listed x n i layers seen l t o seen_is of is same =
    let at = listed_of x n i layers l of is in (
      having x layers,
      ap (find x) (sym seen_is) ∙ found x layers o ∙ listed_there (having x layers) n l.template at,
      at ∙ ap Some (sym same),
    )

-- with the others that stand there
pub alone_listed : (x : List ℕ) (n i : ℕ) (layers : List LayerValue) (seen : Named (List TemplateId)) (l : LayerValue) (t : TemplateId)
    (alone : Bool) → AreAscending layers → with_layers layers [] ≡ seen → IsLayerOf (Some i) x n layers → l ≡ get_or layers i l →
    t ≡ l.template → alone ≡ nat_eq (length (having x layers)) 1 → IsListed t alone x n seen
alone_listed x n i layers seen l t alone o seen_is of is same by =
    let at = listed_of x n i layers l of is in (
      having x layers,
      ap (find x) (sym seen_is) ∙ found x layers o ∙ listed_there (having x layers) n l.template at,
      at ∙ ap Some (sym same),
      by,
    )

-- one at a place after the first isn't alone
pub not_alone : (x : List ℕ) (n i : ℕ) (layers : List LayerValue) (l : LayerValue) → IsLayerOf (Some i) x n layers → l ≡ get_or layers i l →
    1 ≤ n → false ≡ nat_eq (length (having x layers)) 1
not_alone x n i layers l of is following =
    let at = the_layer x n i layers l of is in
    let more : 2 ≤ length (having x layers) = omega (arith, counted x layers i l at.0 at.1, of.2, following) in
    sym (ne_eqb (length (having x layers)) 1 (λ e. omega (arith, more, e)))

-- the first is alone where no layer after its own has the block
pub first_alone : (x : List ℕ) (n i : ℕ) (layers : List LayerValue) (l : LayerValue) (any : Bool) → IsLayerOf (Some i) x n layers →
    l ≡ get_or layers i l → n ≡ 0 → any ≡ list_any (has_block x) (drop (i + 1) layers) → not any ≡ nat_eq (length (having x layers)) 1
first_alone x n i layers l any of is first by =
    let at = the_layer x n i layers l of is in
    let next : i + 1 ≡ suc i = omega arith in
    let rest = drop (suc i) layers in
    let all : length (having x layers) ≡ suc (length (having x rest)) = omega (arith, counted x layers i l at.0 at.1, of.2, first) in
    by_any any (by ∙ ap (λ m. list_any (has_block x) (drop m layers)) next) ∙ ap (λ m. nat_eq m 1) (sym all)
  where
    one_or_more : (n : ℕ) → 1 ≤ n → false ≡ nat_eq (suc n) 1
    one_or_more n h = sym (ne_eqb (suc n) 1 (λ e. omega (arith, h, e)))

    by_any : (b : Bool) → b ≡ list_any (has_block x) (drop (suc i) layers) → not b ≡ nat_eq (suc (length (having x (drop (suc i) layers)))) 1
    by_any true e = one_or_more (length (having x (drop (suc i) layers))) (some_any x (drop (suc i) layers) (sym e))
    by_any false e = sym (ap (λ ts. nat_eq (suc (length ts)) 1) (none_any x (drop (suc i) layers) (sym e)))

-- ---------------------------------------------------------------- one layer more
pub one_layer : (layers : List LayerValue) (l : LayerValue) (ls : Named (List TemplateId)) →
    with_layers (layers ++ l ∷ []) ls ≡ with_each l.template l.names (with_layers layers ls)
one_layer [] l ls = refl
one_layer (m ∷ more) l ls = one_layer more l (with_each m.template m.names ls)

pub ascending_more : (layers : List LayerValue) (l : LayerValue) → AreAscending layers → IsStrictlySortedBy name_cmp l.names →
    AreAscending (layers ++ l ∷ [])
ascending_more [] l o a = (a, tt)
ascending_more (m ∷ more) l o a = (o.0, ascending_more more l o.1 a)

-- no more templates have a block than there are
having_few : (x : List ℕ) (layers : List LayerValue) → length (having x layers) ≤ length layers
having_few x [] = omega arith
having_few x (l ∷ more) = by (has_block x l) (having_few x more)
  where
    by : (b : Bool) → length (having x more) ≤ length more → length (cond b (l.template ∷ having x more) (having x more)) ≤ suc (length more)
    by true h = omega (arith, h)
    by false h = omega (arith, h)

pub none_after : (x : List ℕ) (n : ℕ) (layers : List LayerValue) → length layers ≤ n → slice_get (having x layers) (n + 1) ≡ None
none_after x n layers h =
    past x layers (n + 1) (length layers) (n + 1 - length (having x layers)) (omega arith)
    (let same : length (having x (take (length layers) layers)) ≡ length (having x layers) =
    ap (λ ls. length (having x ls)) (take_all (length layers) layers (omega arith)) in
    omega (arith, same, having_few x layers, h))

-- what is loaded, with a template more after all others
pub one_loaded : (layers after : List LayerValue) (names : List (List ℕ)) (seen : LoadedValue) (t : TemplateId) (xs : List (List ℕ))
    (l : LayerValue) → after ≡ layers ++ l ∷ [] → l.template ≡ t → l.names ≡ xs →
    record { blocks = with_layers layers []; names = names } ≡ seen →
    record { blocks = with_layers after []; names = names } ≡ record seen { blocks = with_each t xs seen.blocks }
one_loaded layers after names seen t xs l more template named is =
    ap (λ ls. record { blocks = with_layers ls []; names = names }) more
    ∙ ap (λ bs. record { blocks = bs; names = names }) (one_layer layers l [])
    ∙ ap (λ u. record { blocks = with_each u l.names (with_layers layers []); names = names }) template
    ∙ ap (λ ys. record { blocks = with_each t ys (with_layers layers []); names = names }) named
    ∙ ap (λ (v : LoadedValue). record v { blocks = with_each t xs v.blocks }) is

pub ascending_pushed : (layers after : List LayerValue) (l : LayerValue) → after ≡ layers ++ l ∷ [] → AreAscending layers →
    IsStrictlySortedBy name_cmp l.names → AreAscending after
ascending_pushed layers after l more o a = subst AreAscending (sym more) (ascending_more layers l o a)
