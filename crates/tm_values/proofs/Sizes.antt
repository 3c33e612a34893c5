-- An item is smaller than the items that it stands among; a key and a value are smaller than their pairs.
use Rattle.std.proofs.Common.{arith, ◌≡◌, ◌+◌, ◌<◌, ◌++◌, ℕ, zero, suc, List, [], ◌∷◌, length, get_or}
use Rattle.tm_values.specs.Val.{Val, val_size, vals_size, vals_of, pairs_size, pairs_of}

pub item-smaller : (vs : List Val) (i : ℕ) (d : Val) → i < length vs → val_size (get_or vs i d) < vals_size (vals_of vs)
item-smaller [] i d h = absurd (omega arith)
item-smaller (v ∷ vs) zero d h = omega arith
item-smaller (v ∷ vs) (suc i) d h = omega (arith, item-smaller vs i d (omega arith))

pub key-smaller : (ps : List (Val × Val)) (i : ℕ) (d : Val × Val) → i < length ps → val_size (get_or ps i d).0 < pairs_size (pairs_of ps)
key-smaller [] i d h = absurd (omega arith)
key-smaller (p ∷ ps) zero d h = omega arith
key-smaller (p ∷ ps) (suc i) d h = omega (arith, key-smaller ps i d (omega arith))

pub value-smaller : (ps : List (Val × Val)) (i : ℕ) (d : Val × Val) → i < length ps → val_size (get_or ps i d).1 < pairs_size (pairs_of ps)
value-smaller [] i d h = absurd (omega arith)
value-smaller (p ∷ ps) zero d h = omega arith
value-smaller (p ∷ ps) (suc i) d h = omega (arith, value-smaller ps i d (omega arith))

-- values that are joined are as large as both together
pub vals_joined : (xs ys : List Val) → vals_size (vals_of (xs ++ ys)) ≡ vals_size (vals_of xs) + vals_size (vals_of ys)
vals_joined [] ys = omega arith
vals_joined (x ∷ xs) ys = omega (arith, vals_joined xs ys)

pub pairs_joined : (ps qs : List (Val × Val)) → pairs_size (pairs_of (ps ++ qs)) ≡ pairs_size (pairs_of ps) + pairs_size (pairs_of qs)
pairs_joined [] qs = omega arith
pairs_joined (p ∷ ps) qs = omega (arith, pairs_joined ps qs)

-- and what a pop takes from pairs
pub pairs_popped : (ps qs : List (Val × Val)) (k v : Val) → ps ≡ qs ++ ((k, v) ∷ []) →
    pairs_size (pairs_of ps) ≡ pairs_size (pairs_of qs) + (val_size k + val_size v + 2)
pairs_popped ps qs k v e = rw e (omega (arith, pairs_joined qs ((k, v) ∷ [])))

pub ruleset joined_sizes = (vals_joined, pairs_joined)
