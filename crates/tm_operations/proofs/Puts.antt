-- Keywords after plain arguments, and maps put one after the other.
use Rattle.std.proofs.Common.{Vec, Global, ◌≡◌, ◌++◌, nat_lt, Bool, true, false, cond, List, [], ◌∷◌, length, Ok, Err, Less, Greater, refl}
use Rattle.std.proofs.Common.{sym, ap, subst, ◌∙◌, append_assoc, slice_get}
use Rattle.std.proofs.lemmas.List.{append-nil}
use Rattle.tm_definitions.specs.Maps.{keyword_pairs, plain_alone, keywords_of, plain_of, base_of, dict_of, has_text_key, text_pairs}
use Rattle.tm_definitions.specs.Maps.{namespace_of, IsMapWithKeywords}
use Rattle.tm_definitions.specs.Ranges.{given, at_most_arguments}
use Rattle.tm_values.proofs.Maps.{turned, map-put}
use Rattle.tm_values.specs.Answer.{Answer, refused, IsAnswer, OkOrOutOfMemory}
use Rattle.tm_values.specs.Map.{put, put_each, put_all, IsAbove, IsMap}
use Rattle.tm_values.specs.Order.{val_cmp}
use Rattle.tm_values.specs.Records.{RecordData}
use Rattle.tm_values.specs.Val.{Val, keywords, pairs_of}
use Rattle.tm_values.specs.View.{node_view}
use Rattle.tm_values.specs.declared.parts.Parts.{Parts}
use Rattle.tm_values.specs.declared.value.Node.{Node}
use Rattle.tm_values.specs.declared.value.Node.TheVariants as node
use Rattle.std.specs.declared.rc.Rc.{Rc}
use Rattle.tm_values.proofs.Lists.{entries_of-pairs_of}
use Rattle.tm_values.specs.declared.error.ErrorKind.TheVariants as kind

-- the last argument
pub keywords-last : (vs : List Val) (v : Val) → keywords_of (vs ++ v ∷ []) ≡ keyword_pairs v
keywords-last [] v = refl
keywords-last (w ∷ []) v = refl
keywords-last (w ∷ x ∷ vs) v = keywords-last (x ∷ vs) v

pub plain-last : (vs : List Val) (v : Val) → plain_of (vs ++ v ∷ []) ≡ vs ++ plain_alone v
plain-last [] v = refl
plain-last (w ∷ []) v = refl
plain-last (w ∷ x ∷ vs) v = ap (λ l. w ∷ l) (plain-last (x ∷ vs) v)

-- ---- maps

-- each key is below k
abbrev IsBelow : Val → List (Val × Val) → Type 0
IsBelow k [] = Unit {0}
IsBelow k (p ∷ ps) = (val_cmp k p.0 ≡ Greater) × IsBelow k ps

-- and that for each key of a map
abbrev AreBelow : List (Val × Val) → List (Val × Val) → Type 0
AreBelow done [] = Unit {0}
AreBelow done (p ∷ ps) = IsBelow p.0 done × AreBelow done ps

none_below : (ps : List (Val × Val)) → AreBelow [] ps
none_below [] = tt
none_below (p ∷ ps) = (tt, none_below ps)

one_below : (k : Val) (p : Val × Val) (done : List (Val × Val)) → val_cmp k p.0 ≡ Greater → IsBelow k done → IsBelow k (done ++ p ∷ [])
one_below k p [] h b = (h, tt)
one_below k p (q ∷ done) h b = (b.0, one_below k p done h b.1)

more_below : (p : Val × Val) (done ps : List (Val × Val)) → IsAbove p.0 ps → AreBelow done ps → AreBelow (done ++ p ∷ []) ps
more_below p done [] a b = tt
more_below p done (q ∷ ps) a b = (one_below q.0 p done (turned p.0 q.0 Less a.0) b.0, more_below p done ps a.1 b.1)

put-last : (k v : Val) (ps : List (Val × Val)) → IsBelow k ps → put k v ps ≡ ps ++ (k, v) ∷ []
put-last k v [] h = refl
put-last k v (p ∷ ps) h = rw h.0 (ap (λ l. p ∷ l) (put-last k v ps h.1))

put_each-after : (done m : List (Val × Val)) → AreBelow done m → IsMap m → put_each done m ≡ done ++ m
put_each-after done [] b m = sym (append-nil done)
put_each-after done (p ∷ ps) b m =
    rw (put-last p.0 p.1 done b.0)
    (put_each-after (done ++ p ∷ []) ps (more_below p done ps m.0 b.1) m.1 ∙ append_assoc done (p ∷ []) ps)

put_each-append : (m a b : List (Val × Val)) → put_each m (a ++ b) ≡ put_each (put_each m a) b
put_each-append m [] b = refl
put_each-append m (p ∷ ps) b = put_each-append (put p.0 p.1 m) ps b

pub map_with_keywords : IsMapWithKeywords
map_with_keywords m ks h = put_each-append [] m ks ∙ ap (λ (l : List (Val × Val)). put_each l ks) (put_each-after [] m (none_below m) h)

-- ---- what is made is a map

map-put_each : (m ps : List (Val × Val)) → IsMap m → IsMap (put_each m ps)
map-put_each m [] h = h
map-put_each m (p ∷ ps) h = map-put_each (put p.0 p.1 m) ps (map-put p.0 p.1 m h)

above_if : (e : Bool) (k : Val) (p : Val × Val) (ps : List (Val × Val)) → val_cmp k p.0 ≡ Less → IsAbove k ps →
    IsAbove k (cond e (p ∷ ps) ps)
above_if true k p ps h a = (h, a)
above_if false k p ps h a = a

above-text_pairs : (k : Val) (ps : List (Val × Val)) → IsAbove k ps → IsAbove k (text_pairs ps)
above-text_pairs k [] a = tt
above-text_pairs k (p ∷ ps) a = above_if (has_text_key p) k p (text_pairs ps) a.0 (above-text_pairs k ps a.1)

map_if : (e : Bool) (p : Val × Val) (ps : List (Val × Val)) → IsAbove p.0 ps → IsMap ps → IsMap (cond e (p ∷ ps) ps)
map_if true p ps a m = (a, m)
map_if false p ps a m = m

map-text_pairs : (ps : List (Val × Val)) → IsMap ps → IsMap (text_pairs ps)
map-text_pairs [] m = tt
map-text_pairs (p ∷ ps) m = map_if (has_text_key p) p (text_pairs ps) (above-text_pairs p.0 ps m.0) (map-text_pairs ps m.1)

counted : (e : Bool) (m ps : List (Val × Val)) → IsMap m → cond e (refused kind.TooManyArguments) (Ok m) ≡ Ok ps → IsMap ps
counted true m ps h e = absurd (cc)
counted false m ps h e = let same : m ≡ ps = cc in subst IsMap same h

joined : (base : Answer (List (Val × Val))) (plain : List Val) (ks ps : List (Val × Val)) →
    given base (λ qs. at_most_arguments 1 plain (Ok (put_all (qs ++ ks)))) ≡ Ok ps → IsMap ps
joined (Ok qs) plain ks ps e = counted (nat_lt 1 (length plain)) (put_all (qs ++ ks)) ps (map-put_each [] (qs ++ ks) tt) e
joined (Err chain) plain ks ps e = absurd (cc)

dict_is_map : (r : RecordData) (vs : List Val) (ps : List (Val × Val)) → dict_of r vs ≡ Ok ps → IsMap ps
dict_is_map r vs ps e = joined (base_of r (slice_get (plain_of vs) 0)) (plain_of vs) (keywords_of vs) ps e

-- the texts among a map's keys make a map at once
pub named : (r : RecordData) (vs : List Val) (ps kept : List (Val × Val)) (result : Answer (List (Val × Val))) → dict_of r vs ≡ Ok ps →
    kept ≡ text_pairs ps
    → OkOrOutOfMemory result (λ m. m ≡ put_all kept) → IsAnswer result (namespace_of r vs)
named r vs ps kept (Ok m) e k h =
    let same : put_all (text_pairs ps)
    ≡ text_pairs ps = put_each-after [] (text_pairs ps) (none_below (text_pairs ps)) (map-text_pairs ps (dict_is_map r vs ps e)) in
    rw e (ap Ok (sym (h ∙ (ap put_all k ∙ same))))
named r vs ps kept (Err chain) e k h = λ m. absurd (cc (m, h))

-- ---- arguments and their last one

pub split : (vs before : List Val) (v : Val) (ps : List (Val × Val)) → vs ≡ before ++ v ∷ [] → v ≡ keywords (pairs_of ps) →
    (before ≡ plain_of vs) × (ps ≡ keywords_of vs)
split vs before v ps w e =
    (rw (w, plain-last before v, e) (sym (append-nil before)), rw (w, keywords-last before v, e) (sym (entries_of-pairs_of ps)))

abbrev Keyed : Type 0
Keyed = Rc (Vec (Val × Val) Global) Global

-- a value that is no keyword map stays
pub unsplit : (vs before : List Val) (n : Node) (v : Val) → vs ≡ before ++ v ∷ [] → node_view n ≡ v →
    ((x : Keyed) (parts : Parts) → n ≡ node.Keywords x parts → ⊥) → (vs ≡ plain_of vs) × ([] ≡ keywords_of vs)
unsplit vs before n v w e h =
    let alone = stays n h in
    (rw (w, plain-last before v, ← e, alone.0), rw (w, keywords-last before v, ← e, alone.1))
  where
    stays : (n : Node) → ((x : Keyed) (parts : Parts) → n ≡ node.Keywords x parts → ⊥) →
        (plain_alone (node_view n) ≡ node_view n ∷ []) × (keyword_pairs (node_view n) ≡ [])
    stays (node.Keywords x parts) h = absurd (h x parts refl)
    stays _ h = (refl, refl)
