-- The laws of the places that a slice takes.
use Rattle.std.proofs.Common.{◌≡◌, ◌≢◌, ◌<◌, ◌≤◌, ◌+◌, ◌*◌, ◌<ℤ◌, ◌≤ℤ◌, ◌+ℤ◌, ◌-ℤ◌, ◌*ℤ◌, ℕ, ℤ, pos, negsuc, neg_ℤ, Option, List, length}
use Rattle.std.proofs.Common.{get_or, inl, inr, refl, sym, ap, ◌∙◌, arith, zero, suc, unsigned_abs}
use Rattle.std.proofs.lemmas.Int.{ints}
use Rattle.std.proofs.lemmas.Grind.{div_ceil_times}
use Rattle.std.proofs.lemmas.Nat.{mul-le}
use Rattle.std.proofs.Math.Nat.{suc-mul}
use Rattle.std.proofs.Math.IntN.{pos-*ℤ-pos, pos-*ℤ-negsuc}
use Rattle.std.specs.List.{All}
use Rattle.std.specs.Int.{div_ceil}
use Rattle.tm_primitives.proofs.Steps.{length-places_from, slice_within, abs_is, distance_is, count_up, not_negative}
use Rattle.tm_primitives.specs.Places.{places_from, places_of, Within, slice_start, stop_of, distance, count_before, IsBefore, step_to}
use Rattle.tm_primitives.specs.Places.{AreSpaced, AreBefore, IsDone, GoTheWay}

-- k steps up, or down
up_to : (x : ℤ) (a k : ℕ) → step_to x (pos a) k ≡ x +ℤ pos (k * a)
up_to x a k = ap (λ (d : ℤ). x +ℤ d) (pos-*ℤ-pos k a)

down_to : (x : ℤ) (a k : ℕ) → step_to x (negsuc a) k ≡ x -ℤ pos (k * suc a)
down_to x a k =
    let e : pos k *ℤ negsuc a ≡ neg_ℤ (pos (k * suc a)) = pos-*ℤ-negsuc k a in
    omega (arith, ints, e)

step_none : (x z : ℤ) → step_to x z 0 ≡ x
step_none x (pos a) = up_to x a 0 ∙ omega (arith, ints)
step_none x (negsuc a) = down_to x a 0 ∙ omega (arith, ints)

step_more : (x z : ℤ) (k : ℕ) → step_to x z (suc k) ≡ step_to (x +ℤ z) z k
step_more x (pos a) k =
    let e : suc k * a ≡ k * a + a = suc-mul k a in
    up_to x a (suc k) ∙ (omega (arith, ints, e) ∙ sym (up_to (x +ℤ pos a) a k))
step_more x (negsuc a) k =
    let e : suc k * suc a ≡ k * suc a + suc a = suc-mul k (suc a) in
    down_to x a (suc k) ∙ (omega (arith, ints, e) ∙ sym (down_to (x +ℤ negsuc a) a k))

at_step : (n : ℕ) (x z : ℤ) (m k d : ℕ) → Within n x z m → k < m → pos (get_or (places_from x z m) k d) ≡ step_to x z k
at_step n x z zero k d w h = absurd (omega arith)
at_step n x z (suc m) zero d w h = abs_is x w.0 ∙ sym (step_none x z)
at_step n x z (suc m) (suc k) d w h = at_step n (x +ℤ z) z m k d w.2 (omega arith) ∙ sym (step_more x z k)

all_within : (n : ℕ) (x z : ℤ) (m k d : ℕ) → Within n x z m → k < m → get_or (places_from x z m) k d < n
all_within n x z zero k d w h = absurd (omega arith)
all_within n x z (suc m) zero d w h =
    let e : pos (unsigned_abs x) ≡ x = abs_is x w.0 in
    omega (arith, ints, w.1, e)
all_within n x z (suc m) (suc k) d w h = all_within n (x +ℤ z) z m k d w.2 (omega arith)

-- before the stop, up or down
before_up : (a m k : ℕ) (x y : ℤ) → m ≡ div_ceil (distance x y) (suc a) → k < m → (x +ℤ pos (k * suc a)) <ℤ y
before_up a m k x y e h =
    let short : m * suc a < distance x y + suc a = rw e ((div_ceil_times (distance x y) (suc a) (omega arith)).1) in
    let next : suc k * suc a ≤ m * suc a = mul-le (suc k) (suc a) m (suc a) h (omega arith) in
    let same : suc k * suc a ≡ k * suc a + suc a = suc-mul k (suc a) in
    elim (distance_is x y) [
      | inl d ↦ omega (arith, ints, short, next, same, d.0, d.1)
      | inr d ↦ absurd (omega (arith, ints, short, next, same, d.1))
    ]

before_down : (a m k : ℕ) (x y : ℤ) → m ≡ div_ceil (distance y x) (suc a) → k < m → y <ℤ (x -ℤ pos (k * suc a))
before_down a m k x y e h =
    let short : m * suc a < distance y x + suc a = rw e ((div_ceil_times (distance y x) (suc a) (omega arith)).1) in
    let next : suc k * suc a ≤ m * suc a = mul-le (suc k) (suc a) m (suc a) h (omega arith) in
    let same : suc k * suc a ≡ k * suc a + suc a = suc-mul k (suc a) in
    elim (distance_is y x) [
      | inl d ↦ omega (arith, ints, short, next, same, d.0, d.1)
      | inr d ↦ absurd (omega (arith, ints, short, next, same, d.1))
    ]

-- and the step after the last one is past it
past_up : (a m : ℕ) (x y : ℤ) → m ≡ div_ceil (distance x y) (suc a) → y ≤ℤ (x +ℤ pos (m * suc a))
past_up a m x y e =
    let long : distance x y ≤ m * suc a = rw e ((div_ceil_times (distance x y) (suc a) (omega arith)).0) in
    elim (distance_is x y) [
      | inl d ↦ omega (arith, ints, long, d.1)
      | inr d ↦ omega (arith, ints, d.0)
    ]

past_down : (a m : ℕ) (x y : ℤ) → m ≡ div_ceil (distance y x) (suc a) → (x -ℤ pos (m * suc a)) ≤ℤ y
past_down a m x y e =
    let long : distance y x ≤ m * suc a = rw e ((div_ceil_times (distance y x) (suc a) (omega arith)).0) in
    elim (distance_is y x) [
      | inl d ↦ omega (arith, ints, long, d.1)
      | inr d ↦ omega (arith, ints, d.0)
    ]

-- of the steps that are counted each is before the stop, and the one after them is not
pub before_at : (z x y : ℤ) (k : ℕ) → z ≢ pos 0 → k < count_before z x y → IsBefore z (step_to x z k) y
before_at (pos zero) x y k h l = absurd (h refl)
before_at (pos (suc a)) x y k h l =
    let b = before_up a (count_before (pos (suc a)) x y) k x y (count_up (pos (suc a)) x y (not_negative (suc a))) l in
    omega (arith, ints, b, up_to x (suc a) k)
before_at (negsuc a) x y k h l =
    let b = before_down a (count_before (negsuc a) x y) k x y refl l in
    omega (arith, ints, b, down_to x a k)

pub past_at : (z x y : ℤ) (m : ℕ) → z ≢ pos 0 → m ≡ count_before z x y → IsBefore z (step_to x z m) y → ⊥
past_at (pos zero) x y m h e l = h refl
past_at (pos (suc a)) x y m h e l =
    let b = past_up a m x y (e ∙ count_up (pos (suc a)) x y (not_negative (suc a))) in
    omega (arith, ints, b, l, up_to x (suc a) m)
past_at (negsuc a) x y m h e l =
    let b = past_down a m x y e in
    omega (arith, ints, b, l, down_to x a m)

-- two places, in order
rising : (x : ℤ) (a j k p q : ℕ) → j < k → pos p ≡ step_to x (pos (suc a)) j → pos q ≡ step_to x (pos (suc a)) k → p < q
rising x a j k p q h ep eq =
    let le : suc j * suc a ≤ k * suc a = mul-le (suc j) (suc a) k (suc a) h (omega arith) in
    let same : suc j * suc a ≡ j * suc a + suc a = suc-mul j (suc a) in
    omega (arith, ints, le, same, ep, eq, up_to x (suc a) j, up_to x (suc a) k)

falling : (x : ℤ) (a j k p q : ℕ) → j < k → pos p ≡ step_to x (negsuc a) j → pos q ≡ step_to x (negsuc a) k → q < p
falling x a j k p q h ep eq =
    let le : suc j * suc a ≤ k * suc a = mul-le (suc j) (suc a) k (suc a) h (omega arith) in
    let same : suc j * suc a ≡ j * suc a + suc a = suc-mul j (suc a) in
    omega (arith, ints, le, same, ep, eq, down_to x a j, down_to x a k)

go_the_way : (z x : ℤ) (ps : List ℕ) → z ≢ pos 0 → ((k d : ℕ) → k < length ps → pos (get_or ps k d) ≡ step_to x z k) → GoTheWay z ps
go_the_way (pos zero) x ps h s = absurd (h refl)
go_the_way (pos (suc a)) x ps h s = λ j k d l m. rising x a j k (get_or ps j d) (get_or ps k d) l (s j d (omega (arith, l, m))) (s k d m)
go_the_way (negsuc a) x ps h s = λ j k d l m. falling x a j k (get_or ps j d) (get_or ps k d) l (s j d (omega (arith, l, m))) (s k d m)

-- ---- of a slice

pub within : (n : ℕ) (start stop : Option ℤ) (z : ℤ) → z ≢ pos 0 → All (λ p. p < n) (places_of n start stop z)
within n start stop z h k d l = all_within n (slice_start n z start) z (count_before z (slice_start n z start) (stop_of n z stop)) k d
    (slice_within n start stop z h) (rw length-places_from at l)

pub spaced : (n : ℕ) (start stop : Option ℤ) (z : ℤ) → z ≢ pos 0 → AreSpaced n start z (places_of n start stop z)
spaced n start stop z h k d l =
    at_step n (slice_start n z start) z (count_before z (slice_start n z start) (stop_of n z stop)) k d (slice_within n start stop z h)
    (rw length-places_from at l)

pub before : (n : ℕ) (start stop : Option ℤ) (z : ℤ) → z ≢ pos 0 → AreBefore n stop z (places_of n start stop z)
before n start stop z h k d l = rw (spaced n start stop z h k d l)
    (before_at z (slice_start n z start) (stop_of n z stop) k h (rw length-places_from at l))

pub done : (n : ℕ) (start stop : Option ℤ) (z : ℤ) → z ≢ pos 0 → IsDone n start stop z (places_of n start stop z)
done n start stop z h l = past_at z (slice_start n z start) (stop_of n z stop)
    (count_before z (slice_start n z start) (stop_of n z stop)) h refl (rw length-places_from at l)

pub strict : (n : ℕ) (start stop : Option ℤ) (z : ℤ) → z ≢ pos 0 → GoTheWay z (places_of n start stop z)
strict n start stop z h = go_the_way z (slice_start n z start) (places_of n start stop z) h (spaced n start stop z h)

-- the same of a start and a number that were computed
pub below : (n : ℕ) (start stop : Option ℤ) (z x y : ℤ) (count : ℕ) → z ≢ pos 0 → x ≡ slice_start n z start → y ≡ stop_of n z stop
    → count ≡ count_before z x y → All (λ p. p < n) (places_from x z count)
below n start stop z x y count h ex ey ec = rw (ec, ex, ey) (within n start stop z h)
