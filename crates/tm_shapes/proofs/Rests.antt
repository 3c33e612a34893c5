-- What is left of a list.
use Rattle.std.proofs.Common.{◌≡◌, ◌+◌, ◌<◌, ◌≤◌, ℕ, zero, suc, List, [], ◌∷◌, drop, drop-cons, get_or, length, Some, refl, sym, ap, arith}
use Rattle.std.specs.Prelude.{slice_get}

-- what is left from a place is the item there and what is left after it
pub next : {X : Type 0} → (xs : List X) (k : ℕ) (x : X) → k < length xs → x ≡ get_or xs k x → drop k xs ≡ x ∷ drop (k + 1) xs
next xs k x lt d = grind (arith, drop-cons xs k x lt, d)

-- nothing is left from the end
pub none_left : {X : Type 0} → (xs : List X) (k : ℕ) → length xs ≤ k → drop k xs ≡ []
none_left [] zero h = refl
none_left [] (suc k) h = refl
none_left (x ∷ xs) zero h = absurd (omega (arith, h))
none_left (x ∷ xs) (suc k) h = none_left xs k (omega (arith, h))

-- the item at a place
pub item_at : {X : Type 0} → (xs : List X) (k : ℕ) (x : X) → k < length xs → x ≡ get_or xs k x → slice_get xs k ≡ Some x
item_at [] k x h e = absurd (omega (arith, h))
item_at (y ∷ xs) zero x h e = ap Some (sym e)
item_at (y ∷ xs) (suc k) x h e = item_at xs k x (omega (arith, h)) e
