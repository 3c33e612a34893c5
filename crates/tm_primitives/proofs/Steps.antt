-- Numbers by steps: that those before the stop are places, and where they stand.
use Rattle.std.proofs.Common.{◌≡◌, ◌≢◌, ◌<◌, ◌≤◌, ◌+◌, ◌*◌, ◌<ℤ◌, ◌≤ℤ◌, ◌+ℤ◌, ◌-ℤ◌, ℕ, ℤ, pos, negsuc, neg_ℤ, int_lt, ◌⊎◌, ◌^◌, Bool, true}
use Rattle.std.proofs.Common.{false, cond, Option, Some, None, List, ◌∷◌, length, get_or, inl, inr, refl, ap, ◌∙◌, arith, zero, suc}
use Rattle.std.proofs.Common.{unsigned_abs}
use Rattle.std.proofs.lemmas.Int.{ints}
use Rattle.std.proofs.lemmas.Grind.{div_ceil_times}
use Rattle.std.proofs.Math.Nat.{suc-mul}
use Rattle.std.specs.List.{range_with_len}
use Rattle.std.specs.Int.RustNames.{FitsSigned}
use Rattle.std.specs.Int.{w128, div_ceil, is_negative}
use Rattle.tm_primitives.specs.Places.{places_from, Within, clamp, slice_start, stop_of, distance, count_before, from_start}

pub length-places_from : (x z : ℤ) (m : ℕ) → length (places_from x z m) ≡ m
length-places_from x z zero = refl
length-places_from x z (suc m) = ap suc (length-places_from (x +ℤ z) z m)

place_fits : (x : ℤ) → pos 0 ≤ℤ x → x <ℤ pos (2 ^ 64) → FitsSigned w128 x
place_fits (pos n) low high = record { sfits = omega (arith, ints, high) }
place_fits (negsuc n) low high = absurd (omega (arith, ints, low))

-- where another place follows, it is a number of the type
pub next_fits : (x z : ℤ) (m : ℕ) → Within (2 ^ 64) x z m → 1 < m → FitsSigned w128 (x +ℤ z)
next_fits x z zero h l = absurd (omega arith)
next_fits x z (suc zero) h l = absurd (omega arith)
next_fits x z (suc (suc m)) h l = place_fits (x +ℤ z) h.2.0 h.2.1

-- going up from x, while k steps stay below n + one step
up_within : (n k m : ℕ) (x : ℤ) → pos 0 ≤ℤ x → (x +ℤ pos (m * k)) <ℤ pos (n + k) → Within n x (pos k) m
up_within n k zero x low h = tt
up_within n k (suc m) x low h =
    let e : suc m * k ≡ m * k + k = suc-mul m k in
    (low, omega (arith, ints, low, h, e), up_within n k m (x +ℤ pos k) (omega (arith, ints, low)) (omega (arith, ints, low, h, e)))

-- going down from x, while k + 1 steps stay above -1 less one step
down_within : (n k m : ℕ) (x : ℤ) → x <ℤ pos n → pos (m * suc k) <ℤ (x +ℤ pos (suc (suc k))) → Within n x (negsuc k) m
down_within n k zero x high h = tt
down_within n k (suc m) x high h =
    let e : suc m * suc k ≡ m * suc k + suc k = suc-mul m (suc k) in
    (omega (arith, ints, h, e), high, down_within n k m (x +ℤ negsuc k) (omega (arith, ints, high)) (omega (arith, ints, h, e)))

-- ---- a slice's bounds

cut_in : (low high x : ℤ) → low ≤ℤ high → (low ≤ℤ clamp low high x) × (clamp low high x ≤ℤ high)
cut_in low high x h = grind (arith, ints)

-- bounds of a slice that goes up, or down
pub start_up : (n : ℕ) (z : ℤ) (s : Option ℤ) → is_negative z ≡ false → (pos 0 ≤ℤ slice_start n z s) × (slice_start n z s ≤ℤ pos n)
start_up n z None e = rw e (omega (arith, ints), omega (arith, ints))
start_up n z (Some i) e = rw e (cut_in (pos 0) (pos n) (from_start n i) (omega (arith, ints)))

pub stop_up : (n : ℕ) (z : ℤ) (s : Option ℤ) → is_negative z ≡ false → (pos 0 ≤ℤ stop_of n z s) × (stop_of n z s ≤ℤ pos n)
stop_up n z None e = rw e (omega (arith, ints), omega (arith, ints))
stop_up n z (Some i) e = rw e (cut_in (pos 0) (pos n) (from_start n i) (omega (arith, ints)))

pub start_down : (n : ℕ) (z : ℤ) (s : Option ℤ) → is_negative z ≡ true →
    (negsuc 0 ≤ℤ slice_start n z s) × (slice_start n z s ≤ℤ (pos n -ℤ pos 1))
start_down n z None e = rw e (omega (arith, ints), omega (arith, ints))
start_down n z (Some i) e = rw e (cut_in (negsuc 0) (pos n -ℤ pos 1) (from_start n i) (omega (arith, ints)))

pub stop_down : (n : ℕ) (z : ℤ) (s : Option ℤ) → is_negative z ≡ true → (negsuc 0 ≤ℤ stop_of n z s) × (stop_of n z s ≤ℤ (pos n -ℤ pos 1))
stop_down n z None e = rw e (omega (arith, ints), omega (arith, ints))
stop_down n z (Some i) e = rw e (cut_in (negsuc 0) (pos n -ℤ pos 1) (from_start n i) (omega (arith, ints)))

pub abs_is : (z : ℤ) → pos 0 ≤ℤ z → pos (unsigned_abs z) ≡ z
abs_is (pos n) h = refl
abs_is (negsuc n) h = absurd (omega (arith, ints, h))

distance_if : (b : Bool) (x y : ℤ) → int_lt x y ≡ b →
    ((x <ℤ y) × (pos (cond b (unsigned_abs (y -ℤ x)) 0) ≡ y -ℤ x)) ⊎ ((y ≤ℤ x) × (cond b (unsigned_abs (y -ℤ x)) 0 ≡ 0))
distance_if true x y e =
    let h : x <ℤ y = grind (arith, ints) in
    inl (h, abs_is (y -ℤ x) (omega (arith, ints, h)))
distance_if false x y e = inr (grind (arith, ints), refl)

pub distance_is : (x y : ℤ) → ((x <ℤ y) × (pos (distance x y) ≡ y -ℤ x)) ⊎ ((y ≤ℤ x) × (distance x y ≡ 0))
distance_is x y = distance_if (int_lt x y) x y refl

-- the number of steps goes past the stop by less than a step
up_short : (n k m : ℕ) (x y : ℤ) → 0 < k → m ≡ div_ceil (distance x y) k → x ≤ℤ pos n → y ≤ℤ pos n → (x +ℤ pos (m * k)) <ℤ pos (n + k)
up_short n k m x y p e hx hy =
    rw e
    (let b : div_ceil (distance x y) k * k < distance x y + k = (div_ceil_times (distance x y) k p).1 in
    elim (distance_is x y) [
      | inl d ↦ omega (arith, ints, b, hx, hy, d.0, d.1)
      | inr d ↦ omega (arith, ints, b, hx, hy, d.0, d.1)
    ])

down_short : (k : ℕ) (x y : ℤ) → negsuc 0 ≤ℤ x → negsuc 0 ≤ℤ y → pos (div_ceil (distance y x) (suc k) * suc k) <ℤ (x +ℤ pos (suc (suc k)))
down_short k x y hx hy =
    let b : div_ceil (distance y x) (suc k) * suc k < distance y x + suc k = (div_ceil_times (distance y x) (suc k) (omega arith)).1 in
    elim (distance_is y x) [
      | inl d ↦ omega (arith, ints, b, hx, hy, d.0, d.1)
      | inr d ↦ omega (arith, ints, b, hx, hy, d.0, d.1)
    ]

pub not_negative : (k : ℕ) → is_negative (pos k) ≡ false
not_negative k = grind (arith, ints)

pub count_up : (z x y : ℤ) → is_negative z ≡ false → count_before z x y ≡ div_ceil (distance x y) (unsigned_abs z)
count_up z x y e = rw e

-- each place that a slice takes is one
pub slice_within : (n : ℕ) (start stop : Option ℤ) (z : ℤ) → z ≢ pos 0 →
    Within n (slice_start n z start) z (count_before z (slice_start n z start) (stop_of n z stop))
slice_within n start stop (pos zero) h = absurd (h refl)
slice_within n start stop (pos (suc k)) h =
    let e = not_negative (suc k) in
    let s = start_up n (pos (suc k)) start e in
    let t = stop_up n (pos (suc k)) stop e in
    up_within n (suc k) (count_before (pos (suc k)) (slice_start n (pos (suc k)) start) (stop_of n (pos (suc k)) stop))
    (slice_start n (pos (suc k)) start) s.0
    (up_short n (suc k) (count_before (pos (suc k)) (slice_start n (pos (suc k)) start) (stop_of n (pos (suc k)) stop))
    (slice_start n (pos (suc k)) start) (stop_of n (pos (suc k)) stop) (omega arith)
    (count_up (pos (suc k)) (slice_start n (pos (suc k)) start) (stop_of n (pos (suc k)) stop) e) s.1 t.1)
slice_within n start stop (negsuc k) h =
    let s = start_down n (negsuc k) start refl in
    let t = stop_down n (negsuc k) stop refl in
    down_within n k (count_before (negsuc k) (slice_start n (negsuc k) start) (stop_of n (negsuc k) stop)) (slice_start n (negsuc k) start)
    (omega (arith, ints, s.1))
    (down_short k (slice_start n (negsuc k) start) (stop_of n (negsuc k) stop) s.0 t.0)

pub within_more : (n m : ℕ) (x z : ℤ) (count : ℕ) → n ≤ m → Within n x z count → Within m x z count
within_more n m x z zero h w = tt
within_more n m x z (suc count) h w = (w.0, omega (arith, ints, h, w.1), within_more n m (x +ℤ z) z count h w.2)

pub bounds_near : (n : ℕ) (start stop : Option ℤ) (z : ℤ) → n < 2 ^ 64 → unsigned_abs (stop_of n z stop -ℤ slice_start n z start) < 2 ^ 64
bounds_near n start stop z h = near_if (is_negative z) refl
  where
    small : (d : ℤ) → neg_ℤ (pos n) ≤ℤ d → d ≤ℤ pos n → unsigned_abs d < 2 ^ 64
    small (pos m) low high = omega (arith, ints, low, high, h)
    small (negsuc m) low high = omega (arith, ints, low, high, h)

    near_if : (b : Bool) → is_negative z ≡ b → unsigned_abs (stop_of n z stop -ℤ slice_start n z start) < 2 ^ 64
    near_if true e =
        let s = start_down n z start e in
        let t = stop_down n z stop e in
        small (stop_of n z stop -ℤ slice_start n z start) (omega (arith, ints, s.0, s.1, t.0, t.1))
        (omega (arith, ints, s.0, s.1, t.0, t.1))
    near_if false e =
        let s = start_up n z start e in
        let t = stop_up n z stop e in
        small (stop_of n z stop -ℤ slice_start n z start) (omega (arith, ints, s.0, s.1, t.0, t.1))
        (omega (arith, ints, s.0, s.1, t.0, t.1))

pub slice_inside : (n : ℕ) (start stop : Option ℤ) (z x y : ℤ) (count : ℕ) → z ≢ pos 0 → n < 2 ^ 64
    → x ≡ slice_start n z start → y ≡ stop_of n z stop → count ≡ count_before z x y → Within (2 ^ 64) x z count
slice_inside n start stop z x y count h l ex ey ec = rw (ec, ex, ey)
    (within_more n (2 ^ 64) (slice_start n z start) z (count_before z (slice_start n z start) (stop_of n z stop)) (omega (arith, l))
    (slice_within n start stop z h))

-- places one by one
pub run_is : (x : ℤ) (m : ℕ) → Within (2 ^ 64) x (pos 1) m → 0 < m → places_from x (pos 1) m ≡ range_with_len (unsigned_abs x) m
run_is x m w h = by_ones x m (first_at_least x m w h)
  where
    first_at_least : (x : ℤ) (m : ℕ) → Within (2 ^ 64) x (pos 1) m → 0 < m → pos 0 ≤ℤ x
    first_at_least x zero w h = absurd (omega arith)
    first_at_least x (suc m) w h = w.0

    after : (x : ℤ) → pos 0 ≤ℤ x → unsigned_abs (x +ℤ pos 1) ≡ unsigned_abs x + 1
    after (pos n) h = refl
    after (negsuc n) h = absurd (omega (arith, ints, h))

    by_ones : (x : ℤ) (m : ℕ) → pos 0 ≤ℤ x → places_from x (pos 1) m ≡ range_with_len (unsigned_abs x) m
    by_ones x zero h = refl
    by_ones x (suc m) h = ap (λ (l : List ℕ). unsigned_abs x ∷ l) (by_ones (x +ℤ pos 1) m (omega (arith, ints, h))
        ∙ ap (λ (a : ℕ). range_with_len a m) (after x h))

-- places of which the second is not next to the first
pub no_run : (x z : ℤ) (m : ℕ) → Within (2 ^ 64) x z m → m ≢ 0 → m ≢ 1 → z ≢ pos 1 → (p n : ℕ) → places_from x z m ≢ range_with_len p n
no_run x z zero w h k l p n e = h refl
no_run x z (suc zero) w h k l p n e = k refl
no_run x z (suc (suc m)) w h k l p zero e = let lengths : suc (length (places_from (x +ℤ z) z (suc m)))
    ≡ 0 = ap length e in absurd (omega (arith, lengths))
no_run x z (suc (suc m)) w h k l p (suc zero) e = let lengths : suc (suc (length (places_from (x +ℤ z +ℤ z) z m)))
    ≡ 1 = ap length e in absurd (omega (arith, lengths))
no_run x z (suc (suc m)) w h k l p (suc (suc n)) e =
    let first : unsigned_abs x ≡ p = ap (λ (ps : List ℕ). get_or ps 0 0) e in
    let second : unsigned_abs (x +ℤ z) ≡ p + 1 = ap (λ (ps : List ℕ). get_or ps 1 0) e in
    let here : pos (unsigned_abs x) ≡ x = abs_is x w.0 in
    let there : pos (unsigned_abs (x +ℤ z)) ≡ x +ℤ z = abs_is (x +ℤ z) w.2.0 in
    l (omega (arith, ints, first, second, here, there))
