-- Numbers by steps: that those before the stop are counted, and that what is asked for decides.
use Rattle.std.proofs.Common.{◌≡◌, ◌≢◌, ◌<◌, ◌≤◌, ◌+◌, ◌*◌, ◌≤ℤ◌, ◌<ℤ◌, ◌*ℤ◌, ◌^◌, ◌&&◌, not, nat_lt, slice_get, ℕ, ℤ, pos, negsuc, Bool, true, false}
use Rattle.std.proofs.Common.{Option, Some, None, Ok, List, [], ◌∷◌, length, map as each, refl, sym, ap, ◌∙◌, arith, suc}
use Rattle.std.proofs.lemmas.Bool.Decides.{nat_tests}
use Rattle.std.proofs.lemmas.Int.{ints}
use Rattle.std.proofs.lemmas.List.{length-map}
use Rattle.std.proofs.lemmas.List.FromFn.{length-map-range_with_len, get_or-map-range_with_len}
use Rattle.std.proofs.lemmas.Nat.{mul-le}
use Rattle.std.proofs.lemmas.Option.{slice_get_past, slice_get_read}
use Rattle.std.proofs.Math.IntN.{pos-*ℤ-pos, pos-*ℤ-negsuc}
use Rattle.std.specs.Int.{w64, w128}
use Rattle.std.specs.Int.RustNames.{FitsSigned}
use Rattle.std.specs.Option.{option_copied, unwrap_or}
use Rattle.std.specs.Ordering.{int_eq}
use Rattle.std.specs.Slice.{IsItemAt}
use Rattle.std.specs.Borrow.{Bor}
use Rattle.tm_definitions.specs.Ranges.{Span, count_of, numbers_from, numbers_of, is_served, served, ranged, required_in, later_in, span_of, range_of}
use Rattle.tm_definitions.specs.Ranges.{AreStepped, StandBefore, LeaveNoneOut}
use Rattle.tm_primitives.proofs.Laws.{before_at, past_at}
use Rattle.tm_operations.specs.Ranges.{AreIn64Bits}
use Rattle.tm_primitives.specs.Places.{step_to, IsBefore}
use Rattle.tm_values.specs.Answer.{invalid}
use Rattle.tm_values.specs.Parts.{parts_of_vals}
use Rattle.tm_values.specs.Writable.{fits_json, in_all_forms, vals_writable}
use Rattle.tm_values.specs.declared.parts.Parts.{Parts}
use Rattle.tm_values.specs.Val.{Val, number, vals_of, vals_size}

-- ---- the laws

count_is : (s : Span) → length (numbers_of s) ≡ count_of s
count_is s = length-map-range_with_len (step_to s.start s.step) 0 (count_of s)

pub stepped : AreStepped
stepped s k d h =
    let e = count_is s in
    get_or-map-range_with_len (step_to s.start s.step) 0 (count_of s) k k d (omega arith) (omega arith)

pub before : StandBefore
before s z k d h =
    let e = count_is s in
    rw (stepped s k d h) (before_at s.step s.start s.stop k z (omega arith))

pub whole : LeaveNoneOut
whole s z h = past_at s.step s.start s.stop (length (numbers_of s)) z (count_is s) h

-- ---- the code

-- a number after that many steps is one of 128 bits
fits_between : (y : ℤ) → negsuc (2 ^ 100) ≤ℤ y → y ≤ℤ pos (2 ^ 100) → FitsSigned w128 y
fits_between (pos n) low high = record { sfits = omega (arith, ints, high) }
fits_between (negsuc n) low high = record { sfits = omega (arith, ints, low) }

fits_64 : (y : ℤ) → negsuc (2 ^ 63) <ℤ y → y <ℤ pos (2 ^ 63) → FitsSigned w64 y
fits_64 (pos n) low high = record { sfits = omega (arith, ints, high) }
fits_64 (negsuc n) low high = record { sfits = omega (arith, ints, low) }

near : (x : ℤ) → FitsSigned w64 x → (negsuc (2 ^ 63) ≤ℤ x) × (x ≤ℤ pos (2 ^ 63))
near (pos n) h = let l : n < 2 ^ 63 = h.sfits in (omega (arith, ints), omega (arith, ints))
near (negsuc n) h = let l : n < 2 ^ 63 = h.sfits in (omega (arith, ints), omega (arith, ints))

steps_near : (z : ℤ) (k : ℕ) → FitsSigned w64 z → k ≤ 100000 → (negsuc (2 ^ 90) ≤ℤ (pos k *ℤ z)) × ((pos k *ℤ z) ≤ℤ pos (2 ^ 90))
steps_near (pos a) k h l =
    let b : a < 2 ^ 63 = h.sfits in
    let most : k * a ≤ 100000 * 2 ^ 63 = mul-le k a 100000 (2 ^ 63) l (omega arith) in
    let e = pos-*ℤ-pos k a in
    (omega (arith, ints, e, most), omega (arith, ints, e, most))
steps_near (negsuc a) k h l =
    let b : a < 2 ^ 63 = h.sfits in
    let most : k * suc a ≤ 100000 * 2 ^ 63 = mul-le k (suc a) 100000 (2 ^ 63) l (omega arith) in
    let e = pos-*ℤ-negsuc k a in
    (omega (arith, ints, e, most), omega (arith, ints, e, most))

pub wide : (x : ℤ) → FitsSigned w64 x → FitsSigned w128 x
wide x h = fits_between x (omega (arith, ints, (near x h).0)) (omega (arith, ints, (near x h).1))

pub steps_fit : (z : ℤ) (k : ℕ) → FitsSigned w64 z → k ≤ 100000 → FitsSigned w128 (pos k *ℤ z)
steps_fit z k h l = fits_between (pos k *ℤ z) (omega (arith, ints, (steps_near z k h l).0)) (omega (arith, ints, (steps_near z k h l).1))

pub step_fits : (x z : ℤ) (k : ℕ) → FitsSigned w64 x → FitsSigned w64 z → k ≤ 100000 → FitsSigned w128 (step_to x z k)
step_fits x z k f g l =
    let start = near x f in
    let steps = steps_near z k g l in
    fits_between (step_to x z k) (omega (arith, ints, start.0, start.1, steps.0, steps.1))
    (omega (arith, ints, start.0, start.1, steps.0, steps.1))

-- JSON has each number of 64 bits
in_json : (z : ℤ) → FitsSigned w64 z → fits_json z ≡ true
in_json (pos n) h = let l : n < 2 ^ 63 = h.sfits in grind (arith, nat_tests)
in_json (negsuc n) h = let l : n < 2 ^ 63 = h.sfits in grind (arith, nat_tests)

pub length_is : (x z : ℤ) (n : ℕ) → length (each number (numbers_from x z n)) ≡ n
length_is x z n = length-map (numbers_from x z n) number ∙ length-map-range_with_len (step_to x z) 0 n

pub plain_numbers : (zs : List ℤ) → AreIn64Bits zs → vals_writable (vals_of (each number zs)) ≡ in_all_forms
plain_numbers [] h = refl
plain_numbers (z ∷ zs) h =
    let first : fits_json z ≡ true = in_json z (h 0 z (omega arith)) in
    let rest = plain_numbers zs (λ k d l. h (suc k) d (omega (arith, l))) in
    rw (first, rest)

-- a list of numbers has for each its own size and one
sizes_of_numbers : (zs : List ℤ) → vals_size (vals_of (each number zs)) ≡ 2 * length zs
sizes_of_numbers [] = omega arith
sizes_of_numbers (z ∷ zs) = omega (arith, sizes_of_numbers zs)

pub parts_of_numbers : (x z : ℤ) (n : ℕ) (parts : Parts) → AreIn64Bits (numbers_from x z n) → parts.writable ≡ in_all_forms → parts.size ≡ 2 * n + 1 →
    parts ≡ parts_of_vals (vals_of (each number (numbers_from x z n)))
parts_of_numbers x z n parts h plain size =
    let zs = numbers_from x z n in
    let count : length zs ≡ n = length-map-range_with_len (step_to x z) 0 n in
    let sizes : parts.size ≡ vals_size (vals_of (each number zs)) + 1 = omega (arith, size, count, sizes_of_numbers zs) in
    rw (plain_numbers zs h, ← plain, ← sizes) refl

-- a number from the start on that stands before the stop is one of 64 bits
between : (z x y : ℤ) (k : ℕ) → z ≢ pos 0 → FitsSigned w64 x → FitsSigned w64 y → IsBefore z (step_to x z k) y → FitsSigned w64 (step_to x z k)
between (pos a) x y k n f g h =
    let start = near x f in
    let stop = near y g in
    let e = pos-*ℤ-pos k a in
    fits_64 (step_to x (pos a) k) (omega (arith, ints, start.0, e)) (omega (arith, ints, stop.1, h))
between (negsuc a) x y k n f g h =
    let start = near x f in
    let stop = near y g in
    let e = pos-*ℤ-negsuc k a in
    fits_64 (step_to x (negsuc a) k) (omega (arith, ints, stop.0, h)) (omega (arith, ints, start.1, e))

pub in_range : (s : Span) → s.step ≢ pos 0 → FitsSigned w64 s.start → FitsSigned w64 s.stop → AreIn64Bits (numbers_of s)
in_range s z f g k d h =
    let e = count_is s in
    rw (stepped s k d h) (between s.step s.start s.stop k z f g (before_at s.step s.start s.stop k z (omega arith)))

-- too many numbers
too_long : (e : Bool) (s : Span) → 100000 < count_of s → e && not (nat_lt 100000 (count_of s)) ≡ false
too_long true s h = grind (arith, nat_tests)
too_long false s h = refl

pub refused_count : (s : Span) → 100000 < count_of s → ranged s ≡ invalid
refused_count s h = ap (λ (b : Bool). served b s) (too_long (not (int_eq s.step (pos 0))) s h)

-- and what is served
pub served_count : (s : Span) → s.step ≢ pos 0 → count_of s ≤ 100000 → ranged s ≡ served true s
served_count s z h =
    let long : nat_lt 100000 (count_of s) ≡ false = grind (arith, nat_tests) in
    let step : int_eq s.step (pos 0) ≡ false = grind (arith, ints) in
    let is : is_served s ≡ true = rw (long, step) in
    ap (λ (b : Bool). served b s) is

-- what is lent is the item
pub copied : (vs : List Val) (i : ℕ) (r : Option (Bor Val)) → IsItemAt vs i r → option_copied r ≡ slice_get vs i
copied vs i None h = sym (slice_get_past vs i h.3)
copied vs i (Some x) h = sym (slice_get_read vs (length vs) i x.now refl h.3.0 h.1)

-- at most three arguments, each as it has to be
asked : (vs : List Val) (a : ℤ) (b z : Option ℤ) → required_in (slice_get vs 0) ≡ Ok a → later_in (slice_get vs 1) ≡ Ok b →
    later_in (slice_get vs 2) ≡ Ok z
    → length vs ≤ 3 → range_of vs ≡ ranged (span_of a b z)
asked vs a b z e f g h =
    let long : nat_lt 3 (length vs) ≡ false = grind (arith, nat_tests) in
    rw (e, f, g, long)

pub asked_both : (vs : List Val) (a y step : ℤ) (b z : Option ℤ) → required_in (slice_get vs 0) ≡ Ok a → later_in (slice_get vs 1) ≡ Ok b →
    later_in (slice_get vs 2) ≡ Ok z
    → length vs ≤ 3 → b ≡ Some y → step ≡ unwrap_or z (pos 1) → range_of vs ≡ ranged (record { start = a; stop = y; step = step })
asked_both vs a y step b z e f g h i s = asked vs a b z e f g h ∙ rw (i, s)

pub asked_one : (vs : List Val) (a step : ℤ) (b z : Option ℤ) → required_in (slice_get vs 0) ≡ Ok a → later_in (slice_get vs 1) ≡ Ok b →
    later_in (slice_get vs 2) ≡ Ok z
    → length vs ≤ 3 → b ≡ None → step ≡ unwrap_or z (pos 1) → range_of vs ≡ ranged (record { start = pos 0; stop = a; step = step })
asked_one vs a step b z e f g h i s = asked vs a b z e f g h ∙ rw (i, s)
