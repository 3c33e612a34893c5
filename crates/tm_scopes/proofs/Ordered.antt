-- Names in no order, seen in the order of the names.
use Rattle.std.proofs.Common.{◌≡◌, ◌≢◌, ◌∙◌, ℕ, zero, suc, List, [], ◌∷◌, ◌++◌, ◌+◌, ◌<◌, length, arith, refl, sym, ap, subst, Bool}
use Rattle.std.proofs.Common.{true, false, true≢false, cond, Option, Some, None, option_map, slice_get, slice_set, take, is_some, unwrap_or}
use Rattle.std.proofs.Common.{nat_eq, T, get_or, map, ◌||◌, ◌&&◌}
use Rattle.std.proofs.lemmas.Map.Lookups.{exact_bytes}
use Rattle.std.specs.FinMap.Entries.{is_sorted, is_sorted-put, same_entries, by_order, below_all, find-put as find_put, find as find_by}
use Rattle.std.specs.FinMap.Entries.{put as put_by, where_key, is_sorted-where_key, find-where_key}
use Rattle.std.specs.Prelude.{not}
use Rattle.std.proofs.Common.{Result, Ok, Err, OnOk, OnErr, is_ok}
use Rattle.tm_values.specs.Val.{Val}
use Rattle.tm_scopes.specs.Closures.{is_other, IsReplaced}
use Rattle.std.specs.BTreeMap.{is_at, insert_entry}
use Rattle.std.specs.Cmp.Lexicographic.{bytes_decides, nat_list_cmp_total, nat_list_eq_equiv, other_text, pointwise, same_text, texts_ties}
use Rattle.std.specs.Map.{keys_of, lookup}
use Rattle.std.specs.List.{AllByRecursion}
use Rattle.std.specs.List.Sorted.{IsStrictlySortedBy}
use Rattle.std.proofs.lemmas.Map.Made.{is_some-lookup}
use Rattle.std.specs.Ordering.{is_eq, is_lt, match_ordering}
use Rattle.std.specs.declared.cmp.Ordering.{Ordering}
use Rattle.std.specs.declared.cmp.Ordering.TheVariants.{Less, Equal, Greater}
use Rattle.tm_syntax.specs.Hashed.{hashed_cmp}
use Rattle.tm_syntax.specs.HashedLaws.{hashed_ties}
use Rattle.tm_syntax.specs.Named.{Named, find, name_cmp, put}
use Rattle.tm_scopes.specs.Known.{is_among}
use Rattle.tm_scopes.specs.Pairs.{in_order, IsPlace}

-- two that are the same compare as equal
pub at_itself : (x y : List ℕ) → x ≡ y → is_at (name_cmp x) y ≡ true
at_itself x y e = sym (texts_ties x y) ∙ subst (λ z. pointwise nat_eq x z ≡ true) e (same x)
  where
    same : (z : List ℕ) → pointwise nat_eq z z ≡ true
    same z = nat_list_eq_equiv.refl z

pub at_same : (x y : List ℕ) → is_at (name_cmp x) y ≡ true → x ≡ y
at_same x y e = (bytes_decides x y).0 (texts_ties x y ∙ e)

pub is_at-hashed : (z x : List ℕ) → is_at (hashed_cmp z) x ≡ is_at (name_cmp z) x
is_at-hashed z x = sym (hashed_ties z x) ∙ texts_ties z x

not_at : (x y : List ℕ) → y ≢ x → is_at (name_cmp x) y ≡ false
not_at x y apart = by (is_at (name_cmp x) y) refl
  where
    by : (b : Bool) → is_at (name_cmp x) y ≡ b → b ≡ false
    by true e = absurd (apart (sym (at_same x y e)))
    by false e = refl

pub either_way : (z x : List ℕ) (b : Bool) → is_at (name_cmp z) x ≡ b → is_at (name_cmp x) z ≡ b
either_way z x true e = at_itself x z (sym (at_same z x e))
either_way z x false e = not_at x z (λ same. true≢false (sym (at_itself z x same) ∙ e))

twice : {B : Type 0} (b : Bool) (u v w : B) → cond b u w ≡ cond b u (cond b v w)
twice true u v w = refl
twice false u v w = refl

turned : {B : Type 0} (b c : Bool) (u v w : B) → (b ≡ true → c ≡ true → ⊥) → cond b u (cond c v w) ≡ cond c v (cond b u w)
turned true true u v w h = absurd (h refl refl)
turned true false u v w h = refl
turned false true u v w h = refl
turned false false u v w h = refl

module _ {A : Type 0} where
  -- what a name stands for once another pair counts before all
  abbrev pub With : List ℕ → A → Named A → Named A → Type 0
  With x a ps qs = (z : List ℕ) → find z qs ≡ cond (is_at (name_cmp z) x) (Some a) (find z ps)

  over_same : (z x : List ℕ) (a : A) (p : List ℕ × A) (ps : Named A) → x ≡ p.0 →
      cond (is_at (name_cmp z) p.0) (Some a) (find z ps) ≡ cond (is_at (name_cmp z) x) (Some a) (find z (p ∷ ps))
  over_same z x a p ps e =
      twice (is_at (name_cmp z) p.0) (Some a) (Some p.1) (find z ps)
      ∙ ap (λ y. cond (is_at (name_cmp z) y) (Some a) (find z (p ∷ ps))) (sym e)

  over_other : (z x : List ℕ) (a : A) (p : List ℕ × A) (ps : Named A) → is_at (name_cmp x) p.0 ≡ false →
      cond (is_at (name_cmp z) p.0) (Some p.1) (cond (is_at (name_cmp z) x) (Some a) (find z ps))
      ≡ cond (is_at (name_cmp z) x) (Some a) (find z (p ∷ ps))
  over_other z x a p ps e =
      turned (is_at (name_cmp z) p.0) (is_at (name_cmp z) x) (Some p.1) (Some a) (find z ps)
      (λ first second. true≢false (sym (at_itself x p.0 (sym (at_same z x second) ∙ at_same z p.0 first)) ∙ e))

  put-is : (x : List ℕ) (a : A) (ps : Named A) → put_by name_cmp x a ps ≡ put x a ps
  put-is x a [] = refl
  put-is x a (p ∷ ps) = by (name_cmp x p.0) (put-is x a ps)
    where
      by : (r : Ordering) → put_by name_cmp x a ps ≡ put x a ps →
          by_order r ((x, a) ∷ p ∷ ps) ((p.0, a) ∷ ps) (p ∷ put_by name_cmp x a ps)
          ≡ match_ordering r ((x, a) ∷ p ∷ ps) ((p.0, a) ∷ ps) (p ∷ put x a ps)
      by Less h = refl
      by Equal h = refl
      by Greater h = ap (λ l. p ∷ l) h

  find-is : (z : List ℕ) (ps : Named A) → find_by name_cmp z ps ≡ find z ps
  find-is z [] = refl
  find-is z (p ∷ ps) = ap (cond (is_at (name_cmp z) p.0) (Some p.1)) (find-is z ps)

  find-put : (x : List ℕ) (a : A) (ps : Named A) → With x a ps (put x a ps)
  find-put x a ps z =
      sym (find-is z (put x a ps)) ∙ ap (find_by name_cmp z) (sym (put-is x a ps)) ∙ find_put name_cmp nat_list_cmp_total z x a ps
      ∙ ap (cond (is_at (name_cmp z) x) (Some a)) (find-is z ps)

  abbrev pub IsInOrder : Named A → Type 0
  IsInOrder ps = T (is_sorted name_cmp ps)

  sorted-put : (x : List ℕ) (a : A) (ps : Named A) → IsInOrder ps → IsInOrder (put x a ps)
  sorted-put x a ps h = subst IsInOrder (put-is x a ps) (is_sorted-put name_cmp nat_list_cmp_total x a ps h)

  pub sorted-in_order : (ps : Named A) → IsInOrder (in_order ps)
  sorted-in_order [] = tt
  sorted-in_order (p ∷ ps) = sorted-put p.0 p.1 (in_order ps) (sorted-in_order ps)

  pub find-in_order : (z : List ℕ) (ps : Named A) → find z (in_order ps) ≡ find z ps
  find-in_order z [] = refl
  find-in_order z (p ∷ ps) = find-put p.0 p.1 (in_order ps) z ∙ ap (cond (is_at (name_cmp z) p.0) (Some p.1)) (find-in_order z ps)

  -- the order of pairs with other names is of no weight
  pub in_order-with : (x : List ℕ) (a : A) (ps qs : Named A) → With x a ps qs → in_order qs ≡ put x a (in_order ps)
  in_order-with x a ps qs h =
      same_entries name_cmp nat_list_cmp_total exact_bytes (in_order qs) (put x a (in_order ps)) (sorted-in_order qs)
      (sorted-put x a (in_order ps) (sorted-in_order ps))
      (λ z. find-is z (in_order qs) ∙ find-in_order z qs ∙ h z ∙ ap (cond (is_at (name_cmp z) x) (Some a)) (sym (find-in_order z ps))
      ∙ sym (find-put x a (in_order ps) z) ∙ sym (find-is z (put x a (in_order ps))))

  pub found_first : (b : Bool) (u : A) (rest : Option A) → cond b (Some u) rest ≡ None → (b ≡ false) × (rest ≡ None)
  found_first true u rest h = absurd (true≢false (ap is_some h))
  found_first false u rest h = (refl, h)

  -- after pairs with other names
  pub find-snoc : (x : List ℕ) (a : A) (ps : Named A) → find x ps ≡ None → With x a ps (ps ++ (x, a) ∷ [])
  find-snoc x a [] h z = refl
  find-snoc x a (p ∷ ps) h z =
      let first = found_first (is_at (name_cmp x) p.0) p.1 (find x ps) h in
      ap (cond (is_at (name_cmp z) p.0) (Some p.1)) (find-snoc x a ps first.1 z) ∙ over_other z x a p ps first.0

  pub put_after : (x : List ℕ) (a : A) (ps : Named A) → find x ps ≡ None → in_order (ps ++ (x, a) ∷ []) ≡ put x a (in_order ps)
  put_after x a ps h = in_order-with x a ps (ps ++ (x, a) ∷ []) (find-snoc x a ps h)

  pub find-hashed : (z : List ℕ) (ps : Named A) → lookup (is_at (hashed_cmp z)) ps ≡ find z ps
  find-hashed z [] = refl
  find-hashed z (p ∷ ps) = ap (λ b. cond b (Some p.1) (lookup (is_at (hashed_cmp z)) ps)) (is_at-hashed z p.0)
      ∙ ap (cond (is_at (name_cmp z) p.0) (Some p.1)) (find-hashed z ps)

  pub hashed-put : (x : List ℕ) (a : A) (ps : Named A) → With x a ps (insert_entry hashed_cmp ps x a)
  hashed-put x a [] z = refl
  hashed-put x a (p ∷ ps) z = by (hashed_cmp x p.0) refl (hashed-put x a ps z)
    where
      by : (r : Ordering) → hashed_cmp x p.0 ≡ r →
          find z (insert_entry hashed_cmp ps x a) ≡ cond (is_at (name_cmp z) x) (Some a) (find z ps) →
          find z (match_ordering r ((x, a) ∷ p ∷ ps) ((p.0, a) ∷ ps) (p ∷ insert_entry hashed_cmp ps x a))
          ≡ cond (is_at (name_cmp z) x) (Some a) (find z (p ∷ ps))
      by Less e h = refl
      by Equal e h = over_same z x a p ps (at_same x p.0 (sym (is_at-hashed x p.0) ∙ ap is_eq e))
      by Greater e h = ap (cond (is_at (name_cmp z) p.0) (Some p.1)) h ∙ over_other z x a p ps (sym (is_at-hashed x p.0) ∙ ap is_eq e)

  pub put_among : (x : List ℕ) (a : A) (ps : Named A) → in_order (insert_entry hashed_cmp ps x a) ≡ put x a (in_order ps)
  put_among x a ps = in_order-with x a ps (insert_entry hashed_cmp ps x a) (hashed-put x a ps)

  replaced : (x : List ℕ) (a : A) (k : List ℕ) (ps : Named A) (n : ℕ) → k ≡ x → IsPlace x ps (Some n) →
      With x a ps (slice_set ps n (k, a))
  replaced x a k [] n e h z = absurd (true≢false (sym (ap is_some h.1)))
  replaced x a k (p ∷ ps) zero e h z =
      let same : p.0 ≡ x = ap (λ o. unwrap_or o x) h.1 in
      ap (λ y. cond (is_at (name_cmp z) y) (Some a) (find z ps)) (e ∙ sym same) ∙ over_same z x a p ps (sym same)
  replaced x a k (p ∷ ps) (suc n) e h z =
      let first = found_first (is_at (name_cmp x) p.0) p.1 (find x (take n ps)) h.0 in
      ap (cond (is_at (name_cmp z) p.0) (Some p.1)) (replaced x a k ps n e (first.1, h.1) z) ∙ over_other z x a p ps first.0

  pub put_at : (x : List ℕ) (a : A) (k : List ℕ) (ps : Named A) (n : ℕ) → k ≡ x → IsPlace x ps (Some n) →
      in_order (slice_set ps n (k, a)) ≡ put x a (in_order ps)
  put_at x a k ps n e h = in_order-with x a ps (slice_set ps n (k, a)) (replaced x a k ps n e h)

  -- what names stand for once this one stands for nothing
  abbrev Lacks : List ℕ → Named A → Named A → Type 0
  Lacks x ps qs = (z : List ℕ) → find z qs ≡ cond (is_at (name_cmp z) x) None (find z ps)

  by_other : (b c : Bool) (o : Option A) → c ≡ b → cond b None o ≡ cond (not c) o None
  by_other true c o e = rw e refl
  by_other false c o e = rw e refl

  pub in_order-lacks : (x : List ℕ) (ps qs : Named A) → Lacks x ps qs → in_order qs ≡ where_key name_cmp (is_other x) (in_order ps)
  in_order-lacks x ps qs h =
      same_entries name_cmp nat_list_cmp_total exact_bytes (in_order qs) (where_key name_cmp (is_other x) (in_order ps)) (sorted-in_order qs)
      (is_sorted-where_key name_cmp (is_other x) (in_order ps) (sorted-in_order ps))
      (λ z. find-is z (in_order qs) ∙ find-in_order z qs ∙ h z
      ∙ ap (cond (is_at (name_cmp z) x) None) (sym (find-in_order z ps) ∙ sym (find-is z (in_order ps)))
      ∙ by_other (is_at (name_cmp z) x) (is_at (name_cmp x) z) _ (either_way z x _ refl)
      ∙ sym (find-where_key name_cmp (is_other x) z (λ y e. ap (is_other x) (sym (exact_bytes z y e))) (in_order ps)))

  -- it stands for nothing, and the others for what they did
  pub forgotten_of : (x : List ℕ) (ps qs : Named A) → find x qs ≡ None →
      ((z : List ℕ) → is_at (name_cmp z) x ≡ false → find z qs ≡ find z ps) →
      in_order qs ≡ where_key name_cmp (is_other x) (in_order ps)
  forgotten_of x ps qs none others = in_order-lacks x ps qs (λ z. by z (is_at (name_cmp z) x) refl)
    where
      by : (z : List ℕ) (b : Bool) → is_at (name_cmp z) x ≡ b → find z qs ≡ cond b None (find z ps)
      by z true e = ap (λ y. find y qs) (at_same z x e) ∙ none
      by z false e = others z e

  -- what is found
  pub found_at : (x : List ℕ) (ps : Named A) (n : ℕ) → IsPlace x ps (Some n) → find x ps ≡ option_map (λ p. p.1) (slice_get ps n)
  found_at x [] n h = absurd (true≢false (sym (ap is_some h.1)))
  found_at x (p ∷ ps) zero h = ap (λ b. cond b (Some p.1) (find x ps)) (at_itself x p.0 (sym (ap (λ o. unwrap_or o x) h.1)))
  found_at x (p ∷ ps) (suc n) h = let first = found_first (is_at (name_cmp x) p.0) p.1 (find x (take n ps)) h.0 in ap
      (λ b. cond b (Some p.1) (find x ps)) first.0 ∙ found_at x ps n (first.1, h.1)

  -- one place more without the name
  pub none_yet : (x : List ℕ) (ps : Named A) (n : ℕ) (p : List ℕ × A) → find x (take n ps) ≡ None → slice_get ps n ≡ Some p →
      is_at (name_cmp x) p.0 ≡ false → find x (take (suc n) ps) ≡ None
  none_yet x [] n p h e apart = refl
  none_yet x (q ∷ ps) zero p h e apart = ap (λ b. cond b (Some q.1) None) (ap (λ o. is_at (name_cmp x) (unwrap_or o p).0) e ∙ apart)
  none_yet x (q ∷ ps) (suc n) p h e apart =
      let first = found_first (is_at (name_cmp x) q.0) q.1 (find x (take n ps)) h in ap
      (λ b. cond b (Some q.1) (find x (take (suc n) ps))) first.0 ∙ none_yet x ps n p first.1 e apart

  -- the pair at a place that there is, whatever is read where there is none
  pub the_item : (ps : Named A) (n : ℕ) (p : List ℕ × A) {x : List ℕ} → IsPlace x ps (Some n) → p ≡ get_or ps n p → slice_get ps n ≡ Some p
  the_item [] n p h e = absurd (true≢false (sym (ap is_some h.1)))
  the_item (q ∷ ps) zero p h e = ap Some (sym e)
  the_item (q ∷ ps) (suc n) p {x = x} h e = the_item ps n p {x = x}
      ((found_first (is_at (name_cmp x) q.0) q.1 (find x (take n ps)) h.0).1, h.1) e

  pub the_name : (x : List ℕ) (ps : Named A) (n : ℕ) (p : List ℕ × A) → IsPlace x ps (Some n) → p ≡ get_or ps n p → p.0 ≡ x
  the_name x ps n p h e = ap (λ o. unwrap_or o x) (sym (ap (option_map (λ p. p.0)) (the_item ps n p {x = x} h e)) ∙ h.1)

  pub at_place : (ps : Named A) (n : ℕ) (p : List ℕ × A) → n < length ps → slice_get ps n ≡ Some (get_or ps n p)
  at_place [] n p h = absurd (omega (arith, h))
  at_place (q ∷ ps) zero p h = refl
  at_place (q ∷ ps) (suc n) p h = at_place ps n p (omega (arith, h))

  pub place_within : (x : List ℕ) (ps : Named A) (n : ℕ) → IsPlace x ps (Some n) → n < length ps
  place_within x [] n h = absurd (true≢false (sym (ap is_some h.1)))
  place_within x (p ∷ ps) zero h = omega arith
  place_within x (p ∷ ps) (suc n) h =
      let more = place_within x ps n ((found_first (is_at (name_cmp x) p.0) p.1 (find x (take n ps)) h.0).1, h.1) in
      omega (arith, more)

  -- what stands at the place of a name, whatever is read where there is none
  pub found_value : (x : List ℕ) (ps : Named A) (n : ℕ) (d : List ℕ × A) → IsPlace x ps (Some n) → find x ps ≡ Some (get_or ps n d).1
  found_value x ps n d h = found_at x ps n h ∙ ap (option_map (λ p. p.1)) (at_place ps n d (place_within x ps n h))

  pub is_place : (x : List ℕ) (ps : Named A) (n : ℕ) (p : List ℕ × A) → n < length ps → true ≡ pointwise nat_eq (get_or ps n p).0 x →
      option_map (λ q. q.0) (slice_get ps n) ≡ Some x
  is_place x ps n p h e = ap (option_map (λ q. q.0)) (at_place ps n p h) ∙ ap Some (same_text (get_or ps n p).0 x e)

  pub no_place : (x : List ℕ) (ps : Named A) (n : ℕ) (p : List ℕ × A) → n < length ps → false ≡ pointwise nat_eq (get_or ps n p).0 x →
      find x (take n ps) ≡ None → find x (take (n + 1) ps) ≡ None
  no_place x ps n p h e before =
      let next : suc n ≡ n + 1 = omega arith in
      subst (λ m. find x (take m ps) ≡ None) next
      (none_yet x ps n (get_or ps n p) before (at_place ps n p h) (not_at x (get_or ps n p).0 (other_text (get_or ps n p).0 x e)))

-- ---------------------------------------------------------------- a name that is replaced
pub none_of : {A : Type 0} (o : Option A) → is_some o ≡ false → o ≡ None
none_of None e = refl
none_of (Some a) e = absurd (true≢false e)

pub replaced_by : {T E : Type 0} (r : Result T E) (done : Bool) (x : List ℕ) (v : Val) (ps more : Named Val) → done ≡ is_ok r →
    OnErr r (lookup (is_at (hashed_cmp x)) ps ≡ None) → is_some (lookup (is_at (hashed_cmp x)) ps) ≡ true →
    OnOk r (more ≡ insert_entry hashed_cmp ps x v) → IsReplaced done x v (in_order ps) (in_order more)
replaced_by (Ok t) done x v ps more is absent there put_in =
    subst (λ b. IsReplaced b x v (in_order ps) (in_order more)) (sym is) (ap in_order put_in ∙ put_among x v ps)
replaced_by (Err e) done x v ps more is absent there put_in = absurd (true≢false (sym there ∙ ap is_some absent))

-- ---------------------------------------------------------------- the names alone
abbrev units : List (List ℕ) → Named ℕ
units ks = map (λ k. (k, zero)) ks

one_of : (b c : Bool) → cond b (Some zero) (cond c (Some zero) None) ≡ cond (b || c) (Some zero) None
one_of true c = refl
one_of false c = refl

find-units : (z : List ℕ) (ks : List (List ℕ)) → find_by name_cmp z (units ks) ≡ cond (is_among z ks) (Some zero) None
find-units z [] = refl
find-units z (k ∷ ks) = ap (cond (is_at (name_cmp z) k) (Some zero)) (find-units z ks) ∙ one_of (is_at (name_cmp z) k) (is_among z ks)

both : (a b : Bool) → a ≡ true → T b → T (a && b)
both true b e h = h
both false b e h = absurd (true≢false (sym e))

below-units : (k : List ℕ) (ks : List (List ℕ)) → AllByRecursion (λ y. name_cmp k y ≡ Less) ks → T (below_all name_cmp k (units ks))
below-units k [] h = tt
below-units k (y ∷ ks) h = both (is_lt (name_cmp k y)) (below_all name_cmp k (units ks)) (ap is_lt h.0) (below-units k ks h.1)

two : (a b : Bool) → T a → T b → T (a && b)
two true b h g = g
two false b h g = absurd h

of_two : (a b : Bool) → T (a && b) → T a × T b
of_two true b h = (tt, h)
of_two false b h = absurd h

sorted-units : (ks : List (List ℕ)) → IsStrictlySortedBy name_cmp ks → T (is_sorted name_cmp (units ks))
unfolding IsStrictlySortedBy
sorted-units [] h = tt
sorted-units (k ∷ ks) h = two (below_all name_cmp k (units ks)) (is_sorted name_cmp (units ks)) (below-units k ks h.0) (sorted-units ks h.1)

keys-units : (ks : List (List ℕ)) → keys_of (units ks) ≡ ks
keys-units [] = refl
keys-units (k ∷ ks) = ap (λ l. k ∷ l) (keys-units ks)

module _ {A : Type 0} where
  below-keys : (k : List ℕ) (ps : Named A) → below_all name_cmp k (units (keys_of ps)) ≡ below_all name_cmp k ps
  below-keys k [] = refl
  below-keys k (p ∷ ps) = ap (λ b. is_lt (name_cmp k p.0) && b) (below-keys k ps)

  sorted-keys : (ps : Named A) → is_sorted name_cmp (units (keys_of ps)) ≡ is_sorted name_cmp ps
  sorted-keys [] = refl
  sorted-keys (p ∷ ps) = ap (λ b. b && is_sorted name_cmp (units (keys_of ps))) (below-keys p.0 ps)
      ∙ ap (λ b. below_all name_cmp p.0 ps && b) (sorted-keys ps)

  pub among-keys : (z : List ℕ) (ps : Named A) → is_among z (keys_of (in_order ps)) ≡ is_among z (keys_of ps)
  among-keys z ps = sym (is_some-lookup (is_at (name_cmp z)) (in_order ps)) ∙ ap is_some (find-in_order z ps)
      ∙ is_some-lookup (is_at (name_cmp z)) ps

  -- names in order, each once, are those of the pairs in their order
  pub names_in_order : (ks : List (List ℕ)) (ps : Named A) → IsStrictlySortedBy name_cmp ks →
      ((z : List ℕ) → is_among z ks ≡ is_among z (keys_of ps)) → ks ≡ keys_of (in_order ps)
  names_in_order ks ps h same =
      let others = keys_of (in_order ps) in
      sym (keys-units ks)
      ∙ ap keys_of (same_entries name_cmp nat_list_cmp_total exact_bytes (units ks) (units others) (sorted-units ks h)
      (subst T (sym (sorted-keys (in_order ps))) (sorted-in_order ps))
      (λ z. find-units z ks ∙ ap (λ b. cond b (Some zero) None) (same z ∙ sym (among-keys z ps)) ∙ sym (find-units z others)))
      ∙ keys-units others
