-- Names that are distinct, and a set of those that were seen.
use Rattle.std.proofs.Common.{◌≡◌, ℕ, ◌+◌, ◌<◌, ◌≤◌, Bool, true, false, cond, not, ◌||◌, ◌&&◌, List, [], ◌∷◌, length, drop, get_or, Bor}
use Rattle.std.proofs.Common.{Ordering, refl, sym, ap, ◌∙◌, arith, drop-cons}
use Rattle.std.proofs.lemmas.List.{drop_all}
use Rattle.std.specs.BTreeMap.{is_at}
use Rattle.std.specs.BTreeSet.{BTreeSet, contains, Updates}
use Rattle.std.specs.List.{list_any}
use Rattle.std.specs.Str.{bytes_eq}
use Rattle.tm_syntax.specs.Hashed.{hashed_cmp}
use Rattle.tm_syntax.specs.HashedLaws.{hashed_ties}
use Rattle.tm_parser.specs.Distinct.{are_distinct, texts}

-- the order of names behind references
abbrev pub order : Bor (List ℕ) → Bor (List ℕ) → Ordering
order x y = hashed_cmp x.now y.now

-- Whether no name stands twice, and the set has none of them.
abbrev pub are_new : BTreeSet (Bor (List ℕ)) → List (Bor (List ℕ)) → Bool
are_new seen [] = true
are_new seen (x ∷ xs) = not (contains order seen x || list_any (bytes_eq x.now) (texts xs)) && are_new seen xs

pub all_seen : (seen : BTreeSet (Bor (List ℕ))) (names : List (Bor (List ℕ))) (k : ℕ) → length names ≤ k →
    are_new seen (drop k names) ≡ true
all_seen seen names k le = ap (are_new seen) (drop_all k names le)

-- to an empty set all names are new
pub none_seen : (seen : BTreeSet (Bor (List ℕ))) → seen.keys ≡ [] → (names : List (Bor (List ℕ))) →
    are_new seen names ≡ are_distinct (texts names)
none_seen seen empty [] = refl
none_seen seen empty (x ∷ xs) =
    ap (λ (ks : List (Bor (List ℕ))). not (list_any (is_at (order x)) ks || list_any (bytes_eq x.now) (texts xs)) && are_new seen xs) empty
    ∙ ap (λ b. not (list_any (bytes_eq x.now) (texts xs)) && b) (none_seen seen empty xs)

same_name : (x y : Bor (List ℕ)) → is_at (order x) y ≡ bytes_eq x.now y.now
same_name x y = sym (hashed_ties x.now y.now)

swapped : (same rest seen other more : Bool) →
    (not (same || rest) && (not (seen || other) && more)) ≡ (not (cond same true seen || other) && (not rest && more))
swapped true rest seen other more = refl
swapped false true true other more = refl
swapped false true false true more = refl
swapped false true false false more = refl
swapped false false seen other more = refl

-- a name more is in the set: what is new to the larger one
module _ (old new : BTreeSet (Bor (List ℕ))) (x : Bor (List ℕ)) (added : Updates order old new x true) where
  seen_now : (y : Bor (List ℕ)) → contains order new y ≡ cond (bytes_eq x.now y.now) true (contains order old y)
  seen_now y = added.0 y ∙ ap (λ b. cond b true (contains order old y)) (same_name x y)

  larger : (xs : List (Bor (List ℕ))) → (not (list_any (bytes_eq x.now) (texts xs)) && are_new old xs) ≡ are_new new xs
  larger [] = refl
  larger (y ∷ ys) =
      swapped (bytes_eq x.now y.now) (list_any (bytes_eq x.now) (texts ys)) (contains order old y) (list_any (bytes_eq y.now) (texts ys))
      (are_new old ys)
      ∙ ap (λ b. not (b || list_any (bytes_eq y.now) (texts ys)) && (not (list_any (bytes_eq x.now) (texts ys)) && are_new old ys))
      (sym (seen_now y))
      ∙ ap (λ b. not (contains order new y || list_any (bytes_eq y.now) (texts ys)) && b) (larger ys)

  one_seen : (xs : List (Bor (List ℕ))) → contains order old x ≡ false → are_new old (x ∷ xs) ≡ are_new new xs
  one_seen xs unseen = ap (λ b. not (b || list_any (bytes_eq x.now) (texts xs)) && are_new old xs) unseen ∙ larger xs

at_name : (seen : BTreeSet (Bor (List ℕ))) (names : List (Bor (List ℕ))) (k : ℕ) (x : Bor (List ℕ)) → k < length names →
    x ≡ get_or names k x → are_new seen (drop k names) ≡ are_new seen (x ∷ drop (k + 1) names)
at_name seen names k x lt is =
    let e : drop k names ≡ x ∷ drop (k + 1) names = grind (arith, drop-cons names k x lt, is) in
    ap (are_new seen) e

-- what the answer of the set says
was_not : (b : Bool) → not b ≡ true → b ≡ false
was_not true h = sym h
was_not false h = refl

was : (b : Bool) → not b ≡ false → b ≡ true
was true h = refl
was false h = sym h

-- one turn of the loop over names
pub turn : (whole : Bool) (old new : BTreeSet (Bor (List ℕ))) (names : List (Bor (List ℕ))) (k : ℕ) (x : Bor (List ℕ)) → k < length names →
    x ≡ get_or names k x → not (contains order old x) ≡ true → Updates order old new x true →
    are_new old (drop k names) ≡ whole → are_new new (drop (k + 1) names) ≡ whole
turn whole old new names k x lt is fresh added so =
    sym (one_seen old new x added (drop (k + 1) names) (was_not _ fresh)) ∙ sym (at_name old names k x lt is) ∙ so

pub seen_before : (whole : Bool) (seen : BTreeSet (Bor (List ℕ))) (names : List (Bor (List ℕ))) (k : ℕ) (x : Bor (List ℕ)) →
    k < length names → x ≡ get_or names k x → not (contains order seen x) ≡ false → are_new seen (drop k names) ≡ whole → false ≡ whole
seen_before whole seen names k x lt is known so =
    sym (ap (λ b. not (b || list_any (bytes_eq x.now) (texts (drop (k + 1) names))) && are_new seen (drop (k + 1) names))
    (was _ known)) ∙ sym (at_name seen names k x lt is) ∙ so
