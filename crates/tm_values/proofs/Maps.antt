-- What a place in a map gives, and that `put` keeps the order.
use Rattle.std.proofs.Common.{◌≡◌, ◌≤◌, ◌<◌, ◌-◌, ◌+◌, ◌⊎◌, inl, inr, ℕ, zero, suc, Bool, true, false, true≢false, nat_eq, List, [], ◌∷◌, length, get_or, set, Some, None, MatchResult, Result}
use Rattle.std.proofs.Common.{Ok, Err, Ordering, Less, Equal, Greater, refl, sym, ap, ◌∙◌, arith}
use Rattle.std.proofs.lemmas.Bool.Decides.{nat_tests}
use Rattle.std.proofs.lemmas.Cmp.{alike_right}
use Rattle.std.proofs.lemmas.Slice.Eq.{bytes_eq-Decides}
use Rattle.std.specs.Str.{bytes_eq}
use Rattle.std.specs.Bool.{◌==◌}
use Rattle.std.specs.List.{insert}
use Rattle.std.specs.List.Sorted.{IsSearchInRange, IsBinarySearchResult, IsNonDecreasingBy}
use Rattle.std.specs.Ordering.{is_eq, match_ordering, ordering_index, ordering_reverse}
use Rattle.tm_values.specs.Total.{val_cmp_total}
use Rattle.tm_values.specs.Map.{put, find, IsAbove, IsMap, IsThere, IsGapFor}
use Rattle.tm_values.specs.Order.{val_cmp}
use Rattle.tm_values.specs.Val.{Val}

-- the other way round
pub turned : (a b : Val) (o : Ordering) → val_cmp a b ≡ o → val_cmp b a ≡ ordering_reverse o
turned a b o e = val_cmp_total.antisymm b a ∙ ap ordering_reverse e

pub above : (k l : Val) (ps : List (Val × Val)) → val_cmp k l ≡ Less → IsAbove l ps → IsAbove k ps
above k l [] h a = tt
above k l (p ∷ ps) h a = (val_cmp_total.trans k l p.0 h a.0, above k l ps h a.1)

above-at : (k : Val) (ps : List (Val × Val)) (i : ℕ) (d : Val × Val) → IsAbove k ps → i < length ps → val_cmp k (get_or ps i d).0 ≡ Less
above-at k [] i d a h = absurd (omega arith)
above-at k (p ∷ ps) zero d a h = a.0
above-at k (p ∷ ps) (suc i) d a h = above-at k ps i d a.1 (omega arith)

-- a key that is there is found
pub find-there : (k : Val) (ps : List (Val × Val)) (i : ℕ) (d : Val × Val) → IsMap ps → IsThere k ps i → find k ps ≡ Some (get_or ps i d).1
find-there k [] i d m t = absurd (omega (arith, t.in_range))
find-there k (p ∷ ps) zero d m t = rw (turned p.0 k Equal (t.same_key d))
find-there k (p ∷ ps) (suc i) d m t =
    let in_range : i < length ps = omega (arith, t.in_range) in
    let key : val_cmp (get_or ps i d).0 k ≡ Equal = t.same_key d in
    let lower : val_cmp p.0 k ≡ Less = sym (alike_right val_cmp_total (get_or ps i d).0 k p.0 key) ∙ above-at p.0 ps i d m.0 in_range in
    rw (turned p.0 k Less lower) (find-there k ps i d m.1 (record { in_range = in_range; same_key = λ e. t.same_key e }))

pub find-read : (k : Val) (ps : List (Val × Val)) (i : ℕ) (x : Val × Val) → IsMap ps → IsThere k ps i → x ≡ get_or ps i x →
    find k ps ≡ Some x.1
find-read k ps i x m t e = find-there k ps i x m t ∙ ap (λ (p : Val × Val). Some p.1) (sym e)

-- and one that is not there isn't
pub find-gap : (k : Val) (ps : List (Val × Val)) (i : ℕ) → IsGapFor k ps i → find k ps ≡ None
find-gap k [] i g = refl
find-gap k (p ∷ ps) zero g = rw (turned p.0 k Greater (g.higher_after 0 p (omega arith) (omega arith)))
find-gap k (p ∷ ps) (suc i) g =
    rw (turned p.0 k Less (g.lower_before 0 p (omega arith)))
    (find-gap k ps i (record {
      in_range = omega (arith, g.in_range);
      lower_before = λ j d h. g.lower_before (suc j) d (omega arith);
      higher_after = λ j d h l. g.higher_after (suc j) d (omega arith) (omega arith);
    }))

-- `put` writes over the value of a key that is there
pub put-there : (k v : Val) (ps : List (Val × Val)) (i : ℕ) (d : Val × Val) → IsMap ps → IsThere k ps i →
    put k v ps ≡ set ps i ((get_or ps i d).0, v)
put-there k v [] i d m t = absurd (omega (arith, t.in_range))
put-there k v (p ∷ ps) zero d m t = rw (turned p.0 k Equal (t.same_key d))
put-there k v (p ∷ ps) (suc i) d m t =
    let in_range : i < length ps = omega (arith, t.in_range) in
    let key : val_cmp (get_or ps i d).0 k ≡ Equal = t.same_key d in
    let lower : val_cmp p.0 k ≡ Less = sym (alike_right val_cmp_total (get_or ps i d).0 k p.0 key) ∙ above-at p.0 ps i d m.0 in_range in
    rw (turned p.0 k Less lower) (ap (λ l. p ∷ l) (put-there k v ps i d m.1 (record { in_range = in_range; same_key = λ e. t.same_key e })))

pub put-read : (k v : Val) (ps : List (Val × Val)) (i : ℕ) (x : Val × Val) → IsMap ps → IsThere k ps i → x ≡ get_or ps i x →
    put k v ps ≡ set ps i (x.0, v)
put-read k v ps i x m t e = put-there k v ps i x m t ∙ ap (λ (p : Val × Val). set ps i (p.0, v)) (sym e)

-- and puts a new pair into the gap
pub put-gap : (k v : Val) (ps : List (Val × Val)) (i : ℕ) → IsGapFor k ps i → put k v ps ≡ insert ps i (k, v)
put-gap k v [] zero g = refl
put-gap k v [] (suc i) g = absurd (omega (arith, g.in_range))
put-gap k v (p ∷ ps) zero g = rw (turned p.0 k Greater (g.higher_after 0 p (omega arith) (omega arith)))
put-gap k v (p ∷ ps) (suc i) g =
    rw (turned p.0 k Less (g.lower_before 0 p (omega arith)))
    (ap (λ l. p ∷ l) (put-gap k v ps i (record {
      in_range = omega (arith, g.in_range);
      lower_before = λ j d h. g.lower_before (suc j) d (omega arith);
      higher_after = λ j d h l. g.higher_after (suc j) d (omega arith) (omega arith);
    })))

above_case : (o : Ordering) (l k v : Val) (p : Val × Val) (ps : List (Val × Val)) → val_cmp l k ≡ Less → IsAbove l (p ∷ ps) →
    IsAbove l (put k v ps)
    → IsAbove l (match_ordering o ((k, v) ∷ p ∷ ps) ((p.0, v) ∷ ps) (p ∷ put k v ps))
above_case Less l k v p ps h a rest = (h, a)
above_case Equal l k v p ps h a rest = a
above_case Greater l k v p ps h a rest = (a.0, rest)

above-put : (l k v : Val) (ps : List (Val × Val)) → val_cmp l k ≡ Less → IsAbove l ps → IsAbove l (put k v ps)
above-put l k v [] h a = (h, tt)
above-put l k v (p ∷ ps) h a = above_case (val_cmp k p.0) l k v p ps h a (above-put l k v ps h a.1)

map_case : (o : Ordering) (k v : Val) (p : Val × Val) (ps : List (Val × Val)) → val_cmp k p.0 ≡ o → IsMap (p ∷ ps) → IsMap (put k v ps)
    → IsMap (match_ordering o ((k, v) ∷ p ∷ ps) ((p.0, v) ∷ ps) (p ∷ put k v ps))
map_case Less k v p ps e m rest = ((e, above k p.0 ps e m.0), m)
map_case Equal k v p ps e m rest = m
map_case Greater k v p ps e m rest = (above-put p.0 k v ps (turned k p.0 Greater e) m.0, rest)

-- a map stays a map
pub map-put : (k v : Val) (ps : List (Val × Val)) → IsMap ps → IsMap (put k v ps)
map-put k v [] m = (tt, tt)
map-put k v (p ∷ ps) m = map_case (val_cmp k p.0) k v p ps refl m (map-put k v ps m.1)

-- of two keys the lower one stands no higher to a third
rises : (a b k : Val) (o : Ordering) → val_cmp a b ≡ Less → val_cmp b k ≡ o → ordering_index (val_cmp a k) ≤ ordering_index (val_cmp b k)
rises a b k Less h e = rw (e, val_cmp_total.trans a b k h e) (omega arith)
rises a b k Equal h e = rw (e, sym (alike_right val_cmp_total b k a e) ∙ h) (omega arith)
rises a b k Greater h e = rw e (at_most_two (val_cmp a k))
  where
    at_most_two : (o : Ordering) → ordering_index o ≤ 2
    at_most_two Less = omega arith
    at_most_two Equal = omega arith
    at_most_two Greater = omega arith

keys_rise : (k : Val) (ps : List (Val × Val)) → IsMap ps → IsNonDecreasingBy (λ p. ordering_index (val_cmp p.0 k)) ps
keys_rise k [] m i j d le h = absurd (omega arith)
keys_rise k (p ∷ ps) m zero zero d le h = omega arith
keys_rise k (p ∷ ps) m zero (suc j) d le h = rises p.0 (get_or ps j d).0 k (val_cmp (get_or ps j d).0 k)
    (above-at p.0 ps j d m.0 (omega arith)) refl
keys_rise k (p ∷ ps) m (suc i) zero d le h = absurd (omega arith)
keys_rise k (p ∷ ps) m (suc i) (suc j) d le h = keys_rise k ps m.1 i j d (omega arith) (omega arith)

-- what a binary search for the key answers
pub searched : (k : Val) (ps : List (Val × Val)) → IsMap ps → (r : Result ℕ ℕ) → IsSearchInRange r (length ps) →
    IsBinarySearchResult (λ p. val_cmp p.0 k) ps r → MatchResult r (IsThere k ps) (IsGapFor k ps)
searched k ps m (Ok i) h found = record { in_range = h; same_key = λ d. found d }
searched k ps m (Err i) h parted = record {
  in_range = h;
  lower_before = λ j d l. (parted (keys_rise k ps m)).0 j d (omega arith) l;
  higher_after = λ j d l t. (parted (keys_rise k ps m)).1 j d l t;
}

-- so it does where a value is written over
pub kept-there : (k v : Val) (ps : List (Val × Val)) (i : ℕ) (x : Val × Val) → IsMap ps → IsThere k ps i → x ≡ get_or ps i x →
    IsMap (set ps i (x.0, v))
kept-there k v ps i x m t e = rw (← put-read k v ps i x m t e) (map-put k v ps m)

-- and where a pair is put into a gap
pub kept-gap : (k v : Val) (ps : List (Val × Val)) (i : ℕ) → IsMap ps → IsGapFor k ps i → IsMap (insert ps i (k, v))
kept-gap k v ps i m g = rw (← put-gap k v ps i g) (map-put k v ps m)

below_last : (k : Val) (ps : List (Val × Val)) (i j : ℕ) (d x : Val × Val) → IsMap ps → j ≤ i → i < length ps → x ≡ get_or ps i d →
    val_cmp x.0 k ≡ Less → val_cmp (get_or ps j d).0 k ≡ Less
below_last k [] i j d x m le h e low = absurd (omega arith)
below_last k (p ∷ ps) zero zero d x m le h e low = rw (← e) low
below_last k (p ∷ ps) zero (suc j) d x m le h e low = absurd (omega arith)
below_last k (p ∷ ps) (suc i) zero d x m le h e low = val_cmp_total.trans p.0 x.0 k (rw e (above-at p.0 ps i d m.0 (omega arith))) low
below_last k (p ∷ ps) (suc i) (suc j) d x m le h e low = below_last k ps i j d x m.1 (omega arith) (omega arith) e low

pub less_by_index : (o : Ordering) → (ordering_index o == 0) ≡ true → o ≡ Less
less_by_index Less h = refl
less_by_index Equal h = cc
less_by_index Greater h = cc

-- a key above the last one has its gap at the end
pub end-gap : (k : Val) (ps : List (Val × Val)) (x : Val × Val) → IsMap ps → ((d : Val × Val) → x ≡ get_or ps (length ps - 1) d) →
    val_cmp x.0 k ≡ Less → IsGapFor k ps (length ps)
end-gap k ps x m e low = record {
  in_range = omega arith;
  lower_before = λ j d h. below_last k ps (length ps - 1) j d x m (omega arith) (omega arith) (e d) low;
  higher_after = λ j d h l. absurd (omega arith);
}

-- a key that is none of them isn't found
none_by : (k : Val) (p : Val × Val) (ps : List (Val × Val)) (o : Ordering) → val_cmp p.0 k ≡ o → is_eq (val_cmp p.0 k) ≡ false →
    find k ps ≡ None → find k (p ∷ ps) ≡ None
none_by k p ps Less e other h = rw (turned p.0 k Less e) h
none_by k p ps Equal e other h = absurd (true≢false (sym (ap is_eq e) ∙ other))
none_by k p ps Greater e other h = rw (turned p.0 k Greater e)

pub find-none : (k : Val) (ps : List (Val × Val)) →
    ((j : ℕ) (d : Val × Val) → j < length ps → is_eq (val_cmp (get_or ps j d).0 k) ≡ false) → find k ps ≡ None
find-none k [] h = refl
find-none k (p ∷ ps) h =
    none_by k p ps (val_cmp p.0 k) refl (h 0 p (omega arith)) (find-none k ps (λ j d l. h (suc j) d (omega (arith, l))))

-- texts of different lengths are not the same
both_false : (a b : Bool) → (a ≡ true → ⊥) → (b ≡ true → ⊥) → a ≡ b
both_false false false h k = refl
both_false true b h k = absurd (h refl)
both_false false true h k = absurd (k refl)

equal_lengths : (a b : ℕ) → nat_eq a b ≡ true → a ≡ b
equal_lengths a b e = grind (arith, nat_tests, e)

pub unlike : (xs ys : List ℕ) → (length xs ≡ length ys → ⊥) → nat_eq (length xs) (length ys) ≡ bytes_eq xs ys
unlike xs ys differ =
    both_false (nat_eq (length xs) (length ys)) (bytes_eq xs ys) (λ e. differ (equal_lengths (length xs) (length ys) e))
    (λ e. differ (ap length ((bytes_eq-Decides xs ys).0 e)))

-- what is found by a scan
get_same : (ps : List (Val × Val)) (i : ℕ) (d e : Val × Val) → i < length ps → get_or ps i d ≡ get_or ps i e
get_same [] i d e h = absurd (omega arith)
get_same (p ∷ ps) zero d e h = refl
get_same (p ∷ ps) (suc i) d e h = get_same ps i d e (omega (arith, h))

equal_by : (o : Ordering) → is_eq o ≡ true → o ≡ Equal
equal_by Less e = absurd (true≢false (sym e))
equal_by Equal e = refl
equal_by Greater e = absurd (true≢false (sym e))

pub scanned-there : (k : Val) (ps : List (Val × Val)) (i : ℕ) (x : Val × Val) → i < length ps → x ≡ get_or ps i x →
    is_eq (val_cmp x.0 k) ≡ true → IsThere k ps i
scanned-there k ps i x h is same = record {
  in_range = h;
  same_key = λ d. ap (λ (p : Val × Val). val_cmp p.0 k) (get_same ps i d x h ∙ sym is) ∙ equal_by (val_cmp x.0 k) same;
}

-- and what a scan has passed
abbrev pub Passed : Val → List (Val × Val) → ℕ → Type 0
Passed k ps i = (j : ℕ) (d : Val × Val) → j < i → is_eq (val_cmp (get_or ps j d).0 k) ≡ false

one_more : (i j : ℕ) → j < i + 1 → (j < i) ⊎ (j ≡ i)
one_more i j h = grind (arith, h)

pub scanned-on : (k : Val) (ps : List (Val × Val)) (i : ℕ) (x : Val × Val) → i < length ps → x ≡ get_or ps i x →
    is_eq (val_cmp x.0 k) ≡ false → Passed k ps i → Passed k ps (i + 1)
scanned-on k ps i x h is other passed j d less = at (one_more i j less) where
  at : (j < i) ⊎ (j ≡ i) → is_eq (val_cmp (get_or ps j d).0 k) ≡ false
  at (inl before) = passed j d before
  at (inr here) = ap (λ n. is_eq (val_cmp (get_or ps n d).0 k)) here
      ∙ ap (λ (p : Val × Val). is_eq (val_cmp p.0 k)) (get_same ps i d x h ∙ sym is) ∙ other
