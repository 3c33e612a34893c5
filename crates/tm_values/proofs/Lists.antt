-- Items and pairs, as data and as a list.
use Rattle.std.proofs.Common.{◌≡◌, ◌≤◌, ◌<◌, ℕ, zero, suc, List, [], ◌∷◌, length, drop, Less, refl, ap, arith}
use Rattle.tm_values.specs.Order.{vals_cmp, pairs_cmp}
use Rattle.tm_values.specs.Val.{Val, Vals, no_vals, val, vals_of, list_of, Pairs, no_pairs, pair, pairs_of, entries_of}

pub list_of-vals_of : (vs : List Val) → list_of (vals_of vs) ≡ vs
list_of-vals_of [] = refl
list_of-vals_of (v ∷ vs) = ap (λ l. v ∷ l) (list_of-vals_of vs)

pub vals_of-list_of : (vs : Vals) → vals_of (list_of vs) ≡ vs
vals_of-list_of no_vals = refl
vals_of-list_of (val v vs) = ap (val v) (vals_of-list_of vs)

pub entries_of-pairs_of : (ps : List (Val × Val)) → entries_of (pairs_of ps) ≡ ps
entries_of-pairs_of [] = refl
entries_of-pairs_of (p ∷ ps) = ap (λ l. p ∷ l) (entries_of-pairs_of ps)

pub pairs_of-entries_of : (ps : Pairs) → pairs_of (entries_of ps) ≡ ps
pairs_of-entries_of no_pairs = refl
pairs_of-entries_of (pair k v ps) = ap (pair k v) (pairs_of-entries_of ps)

pub ruleset round_trips = (list_of-vals_of, vals_of-list_of, entries_of-pairs_of, pairs_of-entries_of)

drop-none : {A : Type 0} (i : ℕ) → drop {A = A} i [] ≡ []
drop-none zero = refl
drop-none (suc i) = refl

-- where the left items are at their end, and the right ones are not
pub fewer-items : (xs ys : List Val) (i : ℕ) → length xs ≤ i → i < length ys → Less ≡ vals_cmp (vals_of (drop i xs)) (vals_of (drop i ys))
fewer-items xs [] i h k = absurd (omega arith)
fewer-items [] (y ∷ ys) zero h k = refl
fewer-items [] (y ∷ ys) (suc i) h k = rw (drop-none {A = Val} i) at (fewer-items [] ys i (omega arith) (omega arith))
fewer-items (x ∷ xs) (y ∷ ys) zero h k = absurd (omega arith)
fewer-items (x ∷ xs) (y ∷ ys) (suc i) h k = fewer-items xs ys i (omega arith) (omega arith)

-- the same of pairs
pub fewer-pairs : (xs ys : List (Val × Val)) (i : ℕ) → length xs ≤ i → i < length ys →
    Less ≡ pairs_cmp (pairs_of (drop i xs)) (pairs_of (drop i ys))
fewer-pairs xs [] i h k = absurd (omega arith)
fewer-pairs [] (y ∷ ys) zero h k = refl
fewer-pairs [] (y ∷ ys) (suc i) h k = rw (drop-none {A = Val × Val} i) at (fewer-pairs [] ys i (omega arith) (omega arith))
fewer-pairs (x ∷ xs) (y ∷ ys) zero h k = absurd (omega arith)
fewer-pairs (x ∷ xs) (y ∷ ys) (suc i) h k = fewer-pairs xs ys i (omega arith) (omega arith)
