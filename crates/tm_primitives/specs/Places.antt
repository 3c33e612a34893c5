-- Which places of a sequence an index and a slice take.
use Rattle.std.specs.Prelude.{◌≡◌, ◌≢◌, ◌<◌, ◌≤ℤ◌, ◌<ℤ◌, unsigned_abs, int_lt, ℕ, zero, suc, ℤ, pos, negsuc, ◌+ℤ◌, ◌-ℤ◌, ◌*ℤ◌, cond, Option}
use Rattle.std.specs.Prelude.{Some, None, List, [], ◌∷◌, length, slice_index_or, ⊤}
use Rattle.std.specs.List.{All, AllPairs, range_with_len}
use Rattle.std.specs.Int.{is_negative, div_ceil}

-- an index counted from the start; a negative one counts from the end
abbrev pub from_start : ℕ → ℤ → ℤ
from_start n i = cond (is_negative i) (i +ℤ pos n) i

-- x as a place among n, where it is one
abbrev pub place_among : ℕ → ℤ → Option ℕ
place_among n x =
    cond (is_negative x) None (cond (int_lt x (pos n)) (Some (unsigned_abs x)) None)

-- the place of the index among n, where it is one
abbrev pub place_of : ℕ → ℤ → Option ℕ
place_of n i = place_among n (from_start n i)

-- the lowest and the highest bound of a slice by steps of z: from 0 to n, or from -1 to n - 1
abbrev pub lowest : ℤ → ℤ
lowest z = cond (is_negative z) (negsuc 0) (pos 0)

abbrev pub highest : ℕ → ℤ → ℤ
highest n z = cond (is_negative z) (pos n -ℤ pos 1) (pos n)

-- x, or the end of low to high that is nearest to it
abbrev pub clamp : ℤ → ℤ → ℤ → ℤ
clamp low high x = cond (int_lt x low) low (cond (int_lt high x) high x)

-- a bound that is given
abbrev pub bound_of : ℕ → ℤ → ℤ → ℤ
bound_of n z i = clamp (lowest z) (highest n z) (from_start n i)

abbrev pub slice_start : ℕ → ℤ → Option ℤ → ℤ
slice_start n z None = cond (is_negative z) (highest n z) (lowest z)
slice_start n z (Some i) = bound_of n z i

abbrev pub stop_of : ℕ → ℤ → Option ℤ → ℤ
stop_of n z None = cond (is_negative z) (lowest z) (highest n z)
stop_of n z (Some i) = bound_of n z i

-- how far y is above x; 0 where it is not
abbrev pub distance : ℤ → ℤ → ℕ
distance x y = cond (int_lt x y) (unsigned_abs (y -ℤ x)) 0

-- how many of x, x + z, x + 2z, .. stand strictly before y
abbrev pub count_before : ℤ → ℤ → ℤ → ℕ
count_before z x y = div_ceil (cond (is_negative z) (distance y x) (distance x y)) (unsigned_abs z)

-- the m places from x on, each z after the one before
abbrev pub places_from : ℤ → ℤ → ℕ → List ℕ
places_from x z zero = []
places_from x z (suc m) = unsigned_abs x ∷ places_from (x +ℤ z) z m

-- the places from x on, by steps of z, those before y
abbrev pub places_between : ℤ → ℤ → ℤ → List ℕ
places_between z x y = places_from x z (count_before z x y)

-- of n places those that a slice takes: from its start on, by steps of z, those before its stop
abbrev pub places_of : ℕ → Option ℤ → Option ℤ → ℤ → List ℕ
places_of n start stop z = places_between z (slice_start n z start) (stop_of n z stop)

-- each of x, x + z, .., m in all, is a place below n
abbrev pub Within : ℕ → ℤ → ℤ → ℕ → Type 0
Within n x z zero = ⊤
Within n x z (suc m) = (pos 0 ≤ℤ x) × (x <ℤ pos n) × Within n (x +ℤ z) z m

-- the places are not such that each is the next one after the one before
abbrev pub IsNoRun : List ℕ → Type 0
IsNoRun ps = (p n : ℕ) → ps ≢ range_with_len p n

-- ---- the laws

-- x stands before y, going by steps of z
abbrev pub IsBefore : ℤ → ℤ → ℤ → Type 0
IsBefore (pos z) x y = x <ℤ y
IsBefore (negsuc z) x y = y <ℤ x

-- the place after k steps
abbrev pub step_to : ℤ → ℤ → ℕ → ℤ
step_to x z k = x +ℤ pos k *ℤ z

-- the k-th of the places is the slice's start + k * z
abbrev pub AreSpaced : ℕ → Option ℤ → ℤ → List ℕ → Type 0
AreSpaced n start z ps =
    (k d : ℕ) → k < length ps → pos (slice_index_or ps k d) ≡ step_to (slice_start n z start) z k

-- the places stand before the slice's stop
abbrev pub AreBefore : ℕ → Option ℤ → ℤ → List ℕ → Type 0
AreBefore n stop z ps = All (λ p. IsBefore z (pos p) (stop_of n z stop)) ps

-- and one more step from the last of them would not
abbrev pub IsDone : ℕ → Option ℤ → Option ℤ → ℤ → List ℕ → Type 0
IsDone n start stop z ps =
    IsBefore z (step_to (slice_start n z start) z (length ps)) (stop_of n z stop) → ⊥

-- strictly up or strictly down, by the step's sign: so none comes twice
abbrev pub GoTheWay : ℤ → List ℕ → Type 0
GoTheWay (pos z) ps = AllPairs (λ p q. p < q) ps
GoTheWay (negsuc z) ps = AllPairs (λ p q. q < p) ps
