-- The names of a scope among the pairs of all scopes.
use Rattle.std.proofs.Common.{◌≡◌, ◌∙◌, ◌<◌, ◌≤◌, ◌+◌, ◌-◌, ◌++◌, ℕ, zero, suc, List, [], ◌∷◌, length, get_or, slice_get, slice_set, take, drop}
use Rattle.std.proofs.Common.{Bool, true, false, true≢false, cond, Option, None, Some, is_some, option_map, unwrap_or, refl, sym, ap, subst, arith}
use Rattle.std.specs.BTreeMap.{is_at, insert_entry}
use Rattle.std.specs.Map.{keys_of, lookup}
use Rattle.std.proofs.lemmas.Map.Made.{is_some-lookup}
use Rattle.tm_syntax.specs.Hashed.{hashed_cmp}
use Rattle.tm_syntax.specs.Named.{Named, find, name_cmp}
use Rattle.tm_values.specs.Val.{Val}
use Rattle.tm_meaning.specs.World.{Bindings}
use Rattle.tm_scopes.specs.Known.{is_among}
use Rattle.tm_scopes.specs.Marks.{Index, IsIndex, IsMarked, KeepsOthers, Stores, entries_of, index_of, scanned}
use Rattle.tm_scopes.specs.Pairs.{IsPlace, in_order}
use Rattle.tm_scopes.specs.declared.mark.ScopeMark.{ScopeMark}
use Rattle.tm_scopes.proofs.Ordered.{at_same, find-hashed, find-snoc, found_first, hashed-put, none_of}
use Rattle.tm_scopes.proofs.Ordered.{place_within, put_after, put_at}

-- ---------------------------------------------------------------- lists
module _ {X : Type 0} where
  pub drop-set : (f n : ℕ) (x : X) (xs : List X) → drop f (slice_set xs (f + n) x) ≡ slice_set (drop f xs) n x
  drop-set zero n x xs = let e : 0 + n ≡ n = omega arith in ap (λ k. slice_set xs k x) e
  drop-set (suc f) n x [] = refl
  drop-set (suc f) n x (y ∷ xs) =
      let e : suc f + n ≡ suc (f + n) = omega arith in ap (λ k. drop (suc f) (slice_set (y ∷ xs) k x)) e ∙ drop-set f n x xs

  pub take-set : (f n : ℕ) (x : X) (xs : List X) → take f (slice_set xs (f + n) x) ≡ take f xs
  take-set zero n x xs = refl
  take-set (suc f) n x [] = refl
  take-set (suc f) n x (y ∷ xs) =
      let e : suc f + n ≡ suc (f + n) = omega arith in
      ap (λ k. take (suc f) (slice_set (y ∷ xs) k x)) e ∙ ap (λ l. y ∷ l) (take-set f n x xs)

  pub length-set : (n : ℕ) (x : X) (xs : List X) → length (slice_set xs n x) ≡ length xs
  length-set n x [] = refl
  length-set zero x (y ∷ xs) = refl
  length-set (suc n) x (y ∷ xs) = ap suc (length-set n x xs)

  pub get-drop : (f n : ℕ) (x : X) (xs : List X) → get_or (drop f xs) n x ≡ get_or xs (f + n) x
  get-drop zero n x xs = let e : n ≡ 0 + n = omega arith in ap (λ k. get_or xs k x) e
  get-drop (suc f) n x [] = refl
  get-drop (suc f) n x (y ∷ xs) = let e : suc (f + n) ≡ suc f + n = omega arith in get-drop f n x xs ∙ ap (λ k. get_or (y ∷ xs) k x) e

  pub drop-snoc : (f : ℕ) (x : X) (xs : List X) → f ≤ length xs → drop f (xs ++ x ∷ []) ≡ drop f xs ++ x ∷ []
  drop-snoc zero x xs h = refl
  drop-snoc (suc f) x [] h = absurd (omega (arith, h))
  drop-snoc (suc f) x (y ∷ xs) h = drop-snoc f x xs (omega (arith, h))

  pub take-snoc : (f : ℕ) (x : X) (xs : List X) → f ≤ length xs → take f (xs ++ x ∷ []) ≡ take f xs
  take-snoc zero x xs h = refl
  take-snoc (suc f) x [] h = absurd (omega (arith, h))
  take-snoc (suc f) x (y ∷ xs) h = ap (λ l. y ∷ l) (take-snoc f x xs (omega (arith, h)))

  pub drop-long : (f : ℕ) (xs : List X) → length xs ≤ f → drop f xs ≡ []
  drop-long zero [] h = refl
  drop-long zero (x ∷ xs) h = absurd (omega (arith, h))
  drop-long (suc f) [] h = refl
  drop-long (suc f) (x ∷ xs) h = drop-long f xs (omega (arith, h))

  pub take-long : (f : ℕ) (xs : List X) → length xs ≤ f → take f xs ≡ xs
  take-long zero [] h = refl
  take-long zero (x ∷ xs) h = absurd (omega (arith, h))
  take-long (suc f) [] h = refl
  take-long (suc f) (x ∷ xs) h = ap (λ l. x ∷ l) (take-long f xs (omega (arith, h)))

  pub drop-take : (f : ℕ) (xs : List X) → drop f (take f xs) ≡ []
  drop-take zero xs = refl
  drop-take (suc f) [] = refl
  drop-take (suc f) (x ∷ xs) = drop-take f xs

  pub take-twice : (f : ℕ) (xs : List X) → take f (take f xs) ≡ take f xs
  take-twice zero xs = refl
  take-twice (suc f) [] = refl
  take-twice (suc f) (x ∷ xs) = ap (λ l. x ∷ l) (take-twice f xs)

  pub take-length : (f : ℕ) (xs : List X) → f ≤ length xs → length (take f xs) ≡ f
  take-length zero xs h = refl
  take-length (suc f) [] h = absurd (omega (arith, h))
  take-length (suc f) (x ∷ xs) h = ap suc (take-length f xs (omega (arith, h)))

  pub drop-length : (f : ℕ) (xs : List X) → length (drop f xs) ≡ length xs - f
  drop-length zero xs = omega arith
  drop-length (suc f) [] = omega arith
  drop-length (suc f) (x ∷ xs) = omega (arith, drop-length f xs)

  -- the rest of a slice from a place on
  pub rest-of : (f : ℕ) (xs ys : List X) → xs ≡ ys → take (length xs - f) (drop f xs) ≡ drop f ys
  rest-of f xs ys same = take-long (length xs - f) (drop f xs) (omega (arith, drop-length f xs)) ∙ ap (drop f) same

  last-of : (x : X) (xs : List X) → slice_get (xs ++ x ∷ []) (length xs) ≡ Some x
  last-of x [] = refl
  last-of x (y ∷ xs) = last-of x xs

  get-snoc : (n : ℕ) (x : X) (xs : List X) → n < length xs → slice_get (xs ++ x ∷ []) n ≡ slice_get xs n
  get-snoc n x [] h = absurd (omega (arith, h))
  get-snoc zero x (y ∷ xs) h = refl
  get-snoc (suc n) x (y ∷ xs) h = get-snoc n x xs (omega (arith, h))

-- ---------------------------------------------------------------- places by the names alone
module _ {A : Type 0} where
  keys-take : (n : ℕ) (ps : Named A) → keys_of (take n ps) ≡ take n (keys_of ps)
  keys-take zero ps = refl
  keys-take (suc n) [] = refl
  keys-take (suc n) (p ∷ ps) = ap (λ l. p.0 ∷ l) (keys-take n ps)

  keys-drop : (n : ℕ) (ps : Named A) → keys_of (drop n ps) ≡ drop n (keys_of ps)
  keys-drop zero ps = refl
  keys-drop (suc n) [] = refl
  keys-drop (suc n) (p ∷ ps) = keys-drop n ps

  keys-get : (n : ℕ) (ps : Named A) → option_map (λ p. p.0) (slice_get ps n) ≡ slice_get (keys_of ps) n
  keys-get n [] = refl
  keys-get zero (p ∷ ps) = refl
  keys-get (suc n) (p ∷ ps) = keys-get n ps

  keys-set : (n : ℕ) (p : List ℕ × A) (ps : Named A) → option_map (λ q. q.0) (slice_get ps n) ≡ Some p.0 →
      keys_of (slice_set ps n p) ≡ keys_of ps
  keys-set n p [] h = refl
  keys-set zero p (q ∷ ps) h = ap (λ o. unwrap_or o p.0 ∷ keys_of ps) (sym h)
  keys-set (suc n) p (q ∷ ps) h = ap (λ l. q.0 ∷ l) (keys-set n p ps h)

  none_by_names : (x : List ℕ) (ps qs : Named A) → keys_of qs ≡ keys_of ps → find x ps ≡ None → find x qs ≡ None
  none_by_names x ps qs same h =
      none_of (find x qs) (is_some-lookup (is_at (name_cmp x)) qs ∙ ap (is_among x) same ∙ sym (is_some-lookup (is_at (name_cmp x)) ps)
      ∙ ap is_some h)

  place_by_names : (x : List ℕ) (ps qs : Named A) (r : Option ℕ) → keys_of qs ≡ keys_of ps → IsPlace x ps r → IsPlace x qs r
  place_by_names x ps qs None same h = none_by_names x ps qs same h
  place_by_names x ps qs (Some n) same h = (
    none_by_names x (take n ps) (take n qs) (keys-take n qs ∙ ap (take n) same ∙ sym (keys-take n ps)) h.0,
    keys-get n qs ∙ ap (λ l. slice_get l n) same ∙ sym (keys-get n ps) ∙ h.1,
  )

  -- ---------------------------------------------------------------- places in both parts
  pub place_before : (x : List ℕ) (k : ℕ) (ps : Named A) (n : ℕ) → IsPlace x (take k ps) (Some n) → IsPlace x ps (Some n)
  place_before x zero ps n h = absurd (true≢false (sym (ap is_some h.1)))
  place_before x (suc k) [] n h = absurd (true≢false (sym (ap is_some h.1)))
  place_before x (suc k) (p ∷ ps) zero h = (refl, h.1)
  place_before x (suc k) (p ∷ ps) (suc n) h =
      let first = found_first (is_at (name_cmp x) p.0) p.1 (find x (take n (take k ps))) h.0 in
      let more = place_before x k ps n (first.1, h.1) in
      (ap (λ b. cond b (Some p.1) (find x (take n ps))) first.0 ∙ more.0, more.1)

  pub none_both : (x : List ℕ) (k : ℕ) (ps : Named A) → find x (take k ps) ≡ None → find x (drop k ps) ≡ None → find x ps ≡ None
  none_both x zero ps h g = g
  none_both x (suc k) [] h g = refl
  none_both x (suc k) (p ∷ ps) h g =
      let first = found_first (is_at (name_cmp x) p.0) p.1 (find x (take k ps)) h in
      ap (λ b. cond b (Some p.1) (find x ps)) first.0 ∙ none_both x k ps first.1 g

  pub place_behind : (x : List ℕ) (k : ℕ) (ps : Named A) (n : ℕ) → find x (take k ps) ≡ None → IsPlace x (drop k ps) (Some n) →
      IsPlace x ps (Some (k + n))
  place_behind x zero ps n h g = let e : n ≡ 0 + n = omega arith in subst (λ m. IsPlace x ps (Some m)) e g
  place_behind x (suc k) [] n h g = absurd (true≢false (sym (ap is_some g.1)))
  place_behind x (suc k) (p ∷ ps) n h g =
      let first = found_first (is_at (name_cmp x) p.0) p.1 (find x (take k ps)) h in
      let more = place_behind x k ps n first.1 g in
      let e : suc (k + n) ≡ suc k + n = omega arith in
      subst (λ m. IsPlace x (p ∷ ps) (Some m)) e (ap (λ b. cond b (Some p.1) (find x (take (k + n) ps))) first.0 ∙ more.0, more.1)

  none_in : (x : List ℕ) (k : ℕ) (ps : Named A) → find x ps ≡ None → find x (drop k ps) ≡ None
  none_in x zero ps h = h
  none_in x (suc k) [] h = refl
  none_in x (suc k) (p ∷ ps) h = none_in x k ps (found_first (is_at (name_cmp x) p.0) p.1 (find x ps) h).1

  -- a pair more, with another name or with this one
  place_snoc : (z x : List ℕ) (a : A) (ps : Named A) (r : Option ℕ) → find x ps ≡ None → is_at (name_cmp z) x ≡ false → IsPlace z ps r →
      IsPlace z (ps ++ (x, a) ∷ []) r
  place_snoc z x a ps None none apart h = find-snoc x a ps none z ∙ ap (λ b. cond b (Some a) (find z ps)) apart ∙ h
  place_snoc z x a ps (Some n) none apart h =
      let within : n < length ps = place_within z ps n h in (
        ap (find z) (take-snoc n (x, a) ps (omega (arith, within))) ∙ h.0,
        ap (option_map (λ p. p.0)) (get-snoc n (x, a) ps within) ∙ h.1,
      )

  place_last : (x : List ℕ) (a : A) (ps : Named A) → find x ps ≡ None → IsPlace x (ps ++ (x, a) ∷ []) (Some (length ps))
  place_last x a ps none = (
    ap (find x) (take-snoc (length ps) (x, a) ps (omega arith) ∙ take-long (length ps) ps (omega arith)) ∙ none,
    ap (option_map (λ p. p.0)) (last-of (x, a) ps),
  )

-- ---------------------------------------------------------------- the index
pub none_indexed : (index : Named ℕ) (own : Bindings) → index ≡ [] → length own ≤ scanned → IsIndex index own
none_indexed index own e few x =
    subst (λ (is : Named ℕ). IsPlace x (drop scanned own) (lookup (is_at (hashed_cmp x)) is)) (sym e)
    (ap (find x) (drop-long scanned own few))

-- Few pairs have none in the index, so one more of them changes nothing.
pub index_few : (index : Named ℕ) (own more : Bindings) → length own ≤ scanned → length more ≤ scanned → IsIndex index own → IsIndex index more
index_few index own more few fewer h x =
    subst (λ (ps : Bindings). IsPlace x ps (lookup (is_at (hashed_cmp x)) index))
    (drop-long scanned own few ∙ sym (drop-long scanned more fewer)) (h x)

-- a value that is replaced
index_set : (index : Named ℕ) (own : Bindings) (n : ℕ) (p : List ℕ × Val) → option_map (λ q. q.0) (slice_get own n) ≡ Some p.0 →
    IsIndex index own →
    IsIndex index (slice_set own n p)
index_set index own n p same h x =
    place_by_names x (drop scanned own) (drop scanned (slice_set own n p)) (lookup (is_at (hashed_cmp x)) index)
    (keys-drop scanned (slice_set own n p) ∙ ap (drop scanned) (keys-set n p own same) ∙ sym (keys-drop scanned own)) (h x)

-- a name more
index_more : (index : Named ℕ) (own : Bindings) (x : List ℕ) (v : Val) (n : ℕ) → scanned ≤ length own → n ≡ length own - scanned →
    find x own ≡ None → IsIndex index own → IsIndex (insert_entry hashed_cmp index x n) (own ++ (x, v) ∷ [])
index_more index own x v n many is none h z =
    let behind = drop scanned own in
    let lacks : find x behind ≡ None = none_in x scanned own none in
    let there : lookup (is_at (hashed_cmp z)) (insert_entry hashed_cmp index x n)
    ≡ cond (is_at (name_cmp z) x) (Some n) (lookup (is_at (hashed_cmp z)) index) =
    find-hashed z (insert_entry hashed_cmp index x n) ∙ hashed-put x n index z
    ∙ ap (cond (is_at (name_cmp z) x) (Some n)) (sym (find-hashed z index)) in
    subst (λ (ps : Bindings). IsPlace z ps (lookup (is_at (hashed_cmp z)) (insert_entry hashed_cmp index x n)))
    (sym (drop-snoc scanned (x, v) own many))
    (subst (λ o. IsPlace z (behind ++ (x, v) ∷ []) o) (sym there) (by (is_at (name_cmp z) x) refl lacks (h z)))
  where
    by : (b : Bool) → is_at (name_cmp z) x ≡ b → find x (drop scanned own) ≡ None →
        IsPlace z (drop scanned own) (lookup (is_at (hashed_cmp z)) index) →
        IsPlace z (drop scanned own ++ (x, v) ∷ []) (cond b (Some n) (lookup (is_at (hashed_cmp z)) index))
    by true e lacks g =
        subst (λ m. IsPlace z (drop scanned own ++ (x, v) ∷ []) (Some m)) (drop-length scanned own ∙ sym is)
        (subst (λ y. IsPlace y (drop scanned own ++ (x, v) ∷ []) (Some (length (drop scanned own)))) (sym (at_same z x e))
        (place_last x v (drop scanned own) lacks))
    by false e lacks g = place_snoc z x v (drop scanned own) (lookup (is_at (hashed_cmp z)) index) lacks e g

-- ---------------------------------------------------------------- a scope's own pairs among all
length-snoc : {X : Type 0} (x : X) (xs : List X) → length (xs ++ x ∷ []) ≡ suc (length xs)
length-snoc x [] = refl
length-snoc x (y ∷ xs) = ap suc (length-snoc x xs)

kept_by : (m : ScopeMark) (i : Index) (before after : Bindings) → IsMarked m before → IsIndex (entries_of i) (drop m.first after) →
    take m.first after ≡ take m.first before → m.first ≤ length after → KeepsOthers m (record m { index = i }) before after
kept_by m i before after h indexed below within = record {
  marked = record { within = within; indexed = indexed; bare = h.bare };
  same = refl;
  below = below;
}

module _ (m : ScopeMark) (all : Bindings) (x : List ℕ) (v : Val) where
  -- a value that is replaced
  pub kept_set : (n : ℕ) (k : List ℕ) → IsMarked m all → k ≡ x → IsPlace x (drop m.first all) (Some n) →
      KeepsOthers m m all (slice_set all (m.first + n) (k, v))
  kept_set n k h same place =
      let there : option_map (λ q. q.0) (slice_get (drop m.first all) n) ≡ Some k = place.1 ∙ ap Some (sym same) in
      kept_by m m.index all (slice_set all (m.first + n) (k, v)) h
      (subst (IsIndex (index_of m)) (sym (drop-set m.first n (k, v) all)) (index_set (index_of m) (drop m.first all) n (k, v) there h.indexed))
      (take-set m.first n (k, v) all) (subst (λ l. m.first ≤ l) (sym (length-set (m.first + n) (k, v) all)) h.within)

  pub stored_set : (n : ℕ) (k : List ℕ) → k ≡ x → IsPlace x (drop m.first all) (Some n) →
      Stores x v m all (slice_set all (m.first + n) (k, v))
  stored_set n k same place =
      ap in_order (drop-set m.first n (k, v) all) ∙ put_at x v k (drop m.first all) n same place

  within_more : IsMarked m all → m.first ≤ length (all ++ (x, v) ∷ [])
  within_more h = omega (arith, h.within, length-snoc (x, v) all)

  -- a name more among few
  pub kept_few : IsMarked m all → length (drop m.first all) < scanned → KeepsOthers m m all (all ++ (x, v) ∷ [])
  kept_few h few =
      let own = drop m.first all in
      kept_by m m.index all (all ++ (x, v) ∷ []) h
      (subst (IsIndex (index_of m)) (sym (drop-snoc m.first (x, v) all h.within))
      (index_few (index_of m) own (own ++ (x, v) ∷ []) (omega (arith, few)) (omega (arith, few, length-snoc (x, v) own)) h.indexed))
      (take-snoc m.first (x, v) all h.within) (within_more h)

  -- and among many
  pub kept_many : (new : ScopeMark) (n : ℕ) → IsMarked m all → scanned ≤ length (drop m.first all) →
      n ≡ length (drop m.first all) - scanned → find x (drop m.first all) ≡ None → new ≡ record m { index = new.index } →
      index_of new ≡ insert_entry hashed_cmp (index_of m) x n → KeepsOthers m new all (all ++ (x, v) ∷ [])
  kept_many new n h many is none same indexed =
      let own = drop m.first all in
      subst (λ (k : ScopeMark). KeepsOthers m k all (all ++ (x, v) ∷ [])) (sym same)
      (kept_by m new.index all (all ++ (x, v) ∷ []) h
      (subst (λ (is : Named ℕ). IsIndex is (drop m.first (all ++ (x, v) ∷ []))) (sym indexed)
      (subst (IsIndex (insert_entry hashed_cmp (index_of m) x n)) (sym (drop-snoc m.first (x, v) all h.within))
      (index_more (index_of m) own x v n many is none h.indexed)))
      (take-snoc m.first (x, v) all h.within) (within_more h))

  pub stored_more : IsMarked m all → find x (drop m.first all) ≡ None → Stores x v m all (all ++ (x, v) ∷ [])
  stored_more h none =
      ap in_order (drop-snoc m.first (x, v) all h.within) ∙ put_after x v (drop m.first all) none
