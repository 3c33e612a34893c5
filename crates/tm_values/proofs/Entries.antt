-- What pairs that are put one after the other leave at each key; so pairs of equal keys alone must keep their order.
use Rattle.std.proofs.Common.{◌≡◌, ◌≢◌, Bool, List, [], ◌∷◌, ◌++◌, Option, Some, None, Ordering, Less, Equal, Greater, refl, sym, ap, ◌∙◌}
use Rattle.std.proofs.lemmas.Cmp.{alike_right, tied_itself}
use Rattle.std.specs.List.{filter}
use Rattle.std.specs.List.Sorted.{ties, IsStableBy}
use Rattle.std.specs.Ordering.{match_ordering, is_lt}
use Rattle.tm_values.proofs.Maps.{turned, above, map-put}
use Rattle.tm_values.specs.Total.{val_cmp_total}
use Rattle.tm_values.specs.Map.{put, put_each, put_all, find, IsAbove, IsMap, IsFoundWherePut, KeepsOtherKeys}
use Rattle.tm_values.specs.Order.{val_cmp}
use Rattle.tm_values.specs.Val.{Val}

-- the pair at the key
abbrev entry : Val → List (Val × Val) → Option (Val × Val)
entry k [] = None
entry k (p ∷ ps) = match_ordering (val_cmp k p.0) None (Some p) (entry k ps)

-- a pair that is put where there was this one: the first spelling, the last value
abbrev renewed : Option (Val × Val) → Val × Val → Val × Val
renewed None p = p
renewed (Some q) p = (q.0, p.1)

-- what is at a key that stands so to that of the pair that is put
abbrev after : Ordering → Option (Val × Val) → Val × Val → Option (Val × Val)
after o e p = match_ordering o e (Some (renewed e p)) e

below_all : (a k v : Val) (p : Val × Val) (ps : List (Val × Val)) (o : Ordering) → val_cmp a p.0 ≡ Less → val_cmp k a ≡ o
    → match_ordering o None (Some (a, v)) (entry k (p ∷ ps)) ≡ after o (entry k (p ∷ ps)) (a, v)
below_all a k v p ps Less h e = rw (val_cmp_total.trans k a p.0 e h)
below_all a k v p ps Equal h e = rw (val_cmp_total.congr k a p.0 e ∙ h)
below_all a k v p ps Greater h e = refl

at_first : (a v : Val) (p : Val × Val) (rest : Option (Val × Val)) (o : Ordering)
    → match_ordering o None (Some (p.0, v)) rest ≡ after o (match_ordering o None (Some p) rest) (a, v)
at_first a v p rest Less = refl
at_first a v p rest Equal = refl
at_first a v p rest Greater = refl

above_first : (a k v : Val) (p : Val × Val) (old new : Option (Val × Val)) (o : Ordering) → val_cmp p.0 a ≡ Less → val_cmp k p.0 ≡ o
    → new ≡ after (val_cmp k a) old (a, v)
    → match_ordering o None (Some p) new ≡ after (val_cmp k a) (match_ordering o None (Some p) old) (a, v)
above_first a k v p old new Less h e rest = rw (val_cmp_total.trans k p.0 a e h)
above_first a k v p old new Equal h e rest = rw (val_cmp_total.congr k p.0 a e ∙ h)
above_first a k v p old new Greater h e rest = rest

put_case : (a k v : Val) (p : Val × Val) (ps : List (Val × Val)) (o : Ordering) → val_cmp a p.0 ≡ o
    → entry k (put a v ps) ≡ after (val_cmp k a) (entry k ps) (a, v)
    → entry k (match_ordering o ((a, v) ∷ p ∷ ps) ((p.0, v) ∷ ps) (p ∷ put a v ps)) ≡ after (val_cmp k a) (entry k (p ∷ ps)) (a, v)
put_case a k v p ps Less e rest = below_all a k v p ps (val_cmp k a) e refl
put_case a k v p ps Equal e rest = rw (alike_right val_cmp_total a p.0 k e) (at_first a v p (entry k ps) (val_cmp k p.0))
put_case a k v p ps Greater e rest = above_first a k v p (entry k ps) (entry k (put a v ps)) (val_cmp k p.0)
    (turned a p.0 Greater e) refl rest

-- what one pair leaves at each key
entry-put : (a k v : Val) (ps : List (Val × Val)) → entry k (put a v ps) ≡ after (val_cmp k a) (entry k ps) (a, v)
entry-put a k v [] = alone (val_cmp k a)
  where
    alone : (o : Ordering) → match_ordering o None (Some (a, v)) None ≡ after o None (a, v)
    alone Less = refl
    alone Equal = refl
    alone Greater = refl
entry-put a k v (p ∷ ps) = put_case a k v p ps (val_cmp a p.0) refl (entry-put a k v ps)

-- ---- many pairs

abbrev pub lower_key : Val × Val → Val × Val → Bool
lower_key p q = is_lt (val_cmp p.0 q.0)

-- the pairs at the key
abbrev group : Val → List (Val × Val) → List (Val × Val)
group k ps = filter (ties lower_key (k, k)) ps

abbrev renewed_by : Option (Val × Val) → List (Val × Val) → Option (Val × Val)
renewed_by e [] = e
renewed_by e (p ∷ ps) = renewed_by (Some (renewed e p)) ps

group_step : (k : Val) (p : Val × Val) (ps : List (Val × Val)) (e : Option (Val × Val)) (o : Ordering) → val_cmp k p.0 ≡ o
    → renewed_by (after o e p) (group k ps) ≡ renewed_by e (group k (p ∷ ps))
group_step k p ps e Less h = rw h
group_step k p ps e Equal h = rw (h, turned k p.0 Equal h)
group_step k p ps e Greater h = rw (h, turned k p.0 Greater h)

-- the pairs of its own key alone say what is at a key
entry-put_each : (k : Val) (m ps : List (Val × Val)) → entry k (put_each m ps) ≡ renewed_by (entry k m) (group k ps)
entry-put_each k m [] = refl
entry-put_each k m (p ∷ ps) =
    entry-put_each k (put p.0 p.1 m) ps
    ∙ (ap (λ e. renewed_by e (group k ps)) (entry-put p.0 k p.1 m) ∙ group_step k p ps (entry k m) (val_cmp k p.0) refl)

pub map-put_each : (m ps : List (Val × Val)) → IsMap m → IsMap (put_each m ps)
map-put_each m [] h = h
map-put_each m (p ∷ ps) h = map-put_each (put p.0 p.1 m) ps (map-put p.0 p.1 m h)

-- ---- maps that have the same at each key are the same

no_entry : (k : Val) (ps : List (Val × Val)) → IsAbove k ps → entry k ps ≡ None
no_entry k [] a = refl
no_entry k (p ∷ ps) a = rw a.0

own_entry : (p : Val × Val) (ps : List (Val × Val)) → entry p.0 (p ∷ ps) ≡ Some p
own_entry p ps = rw (tied_itself val_cmp_total p.0)

like_above : (k l : Val) (ps : List (Val × Val)) → val_cmp k l ≡ Equal → IsAbove l ps → IsAbove k ps
like_above k l [] e a = tt
like_above k l (p ∷ ps) e a = (val_cmp_total.congr k l p.0 e ∙ a.0, like_above k l ps e a.1)

same_rest : (k : Val) (p : Val × Val) (ps qs : List (Val × Val)) (o : Ordering) → val_cmp k p.0 ≡ o → IsAbove p.0 ps → IsAbove p.0 qs
    → match_ordering o None (Some p) (entry k ps) ≡ match_ordering o None (Some p) (entry k qs) → entry k ps ≡ entry k qs
same_rest k p ps qs Less e a b h = no_entry k ps (above k p.0 ps e a) ∙ sym (no_entry k qs (above k p.0 qs e b))
same_rest k p ps qs Equal e a b h = no_entry k ps (like_above k p.0 ps e a) ∙ sym (no_entry k qs (like_above k p.0 qs e b))
same_rest k p ps qs Greater e a b h = h

same_first : (p q : Val × Val) (ps qs : List (Val × Val)) (o : Ordering) → val_cmp p.0 q.0 ≡ o
    → Some p ≡ match_ordering o None (Some q) (entry p.0 qs) → match_ordering (val_cmp q.0 p.0) None (Some p) (entry q.0 ps) ≡ Some q →
    p ≡ q
same_first p q ps qs Less e h k = cc
same_first p q ps qs Equal e h k = cc
same_first p q ps qs Greater e h k =
    let none_there : None ≡ Some q = rw (turned p.0 q.0 Greater e) at k in
    cc

same_map : (ps qs : List (Val × Val)) → IsMap ps → IsMap qs → ((k : Val) → entry k ps ≡ entry k qs) → ps ≡ qs
same_map [] [] m n h = refl
same_map [] (q ∷ qs) m n h = let none_there : None ≡ Some q = h q.0 ∙ own_entry q qs in cc
same_map (p ∷ ps) [] m n h = let none_there : Some p ≡ None = sym (own_entry p ps) ∙ h p.0 in cc
same_map (p ∷ ps) (q ∷ qs) m n h =
    let first : p ≡ q = same_first p q ps qs (val_cmp p.0 q.0) refl (sym (own_entry p ps) ∙ h p.0) (h q.0 ∙ own_entry q qs) in
    let n' : IsAbove p.0 qs × IsMap qs = rw (← first) at n in
    let h' : (k : Val) → entry k (p ∷ ps) ≡ entry k (p ∷ qs) = rw (← first) at h in
    let rest : ps ≡ qs = same_map ps qs m.1 n'.1 (λ k. same_rest k p ps qs (val_cmp k p.0) refl m.0 n'.0 (h' k)) in
    cc

-- pairs whose equal keys keep their order make the same map
pub put_all-stable : (ps qs : List (Val × Val)) → IsStableBy lower_key ps qs → put_all qs ≡ put_all ps
put_all-stable ps qs stable =
    same_map (put_all qs) (put_all ps) (map-put_each [] qs tt) (map-put_each [] ps tt)
    (λ k. entry-put_each k [] qs ∙ (ap (renewed_by None) (stable (k, k)) ∙ sym (entry-put_each k [] ps)))

-- one pair more
pub put_each-push : (m ps : List (Val × Val)) (p : Val × Val) → put_each m (ps ++ p ∷ []) ≡ put p.0 p.1 (put_each m ps)
put_each-push m [] p = refl
put_each-push m (q ∷ ps) p = put_each-push (put q.0 q.1 m) ps p

-- ---- what is found

abbrev value_in : Option (Val × Val) → Option Val
value_in None = None
value_in (Some p) = Some p.1

find-entry : (k : Val) (ps : List (Val × Val)) → find k ps ≡ value_in (entry k ps)
find-entry k [] = refl
find-entry k (p ∷ ps) = by_case (find-entry k ps) (val_cmp k p.0)
  where
    by_case : find k ps ≡ value_in (entry k ps) → (o : Ordering) →
        match_ordering o None (Some p.1) (find k ps) ≡ value_in (match_ordering o None (Some p) (entry k ps))
    by_case h Less = refl
    by_case h Equal = refl
    by_case h Greater = h

new_value : (e : Option (Val × Val)) (k v : Val) → value_in (Some (renewed e (k, v))) ≡ Some v
new_value None k v = refl
new_value (Some p) k v = refl

pub found_where_put : IsFoundWherePut
found_where_put k v ps =
    let here : entry k (put k v ps) ≡ Some (renewed (entry k ps) (k, v)) = rw (tied_itself val_cmp_total k) at (entry-put k k v ps) in
    find-entry k (put k v ps) ∙ (ap value_in here ∙ new_value (entry k ps) k v)

elsewhere : (o : Ordering) (e : Option (Val × Val)) (p : Val × Val) → o ≢ Equal → after o e p ≡ e
elsewhere Less e p h = refl
elsewhere Equal e p h = absurd (h refl)
elsewhere Greater e p h = refl

pub keeps_other_keys : KeepsOtherKeys
keeps_other_keys k v l ps h =
    find-entry l (put k v ps) ∙ (ap value_in (entry-put k l v ps ∙ elsewhere (val_cmp l k) (entry l ps) (k, v) h) ∙ sym (find-entry l ps))
