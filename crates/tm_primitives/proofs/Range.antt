-- Numbers in range: what std's checked methods say, and powers.
use Rattle.std.proofs.Common.{◌≡◌, ◌<◌, ◌≤◌, ℕ, ℤ, pos, negsuc, ◌^◌, ◌%◌, ◌==◌, Bool, true, false, cond, Option, Some, None, refl, ap}
use Rattle.std.proofs.Common.{arith, zero, suc, neg_ℤ, lit<}
use Rattle.std.proofs.lemmas.Bool.Decides.{nat_tests}
use Rattle.std.specs.Option.{SomeIff}
use Rattle.std.specs.Int.RustNames.{FitsSigned}
use Rattle.std.specs.Int.{w128, int_pow}
use Rattle.std.proofs.Math.Nat.{pow-le-pow_left, pow-le-pow_right, pow-suc, mul-zero}
use Rattle.tm_primitives.specs.Whole.{in_range, if_in_range}

pub in_range_from_fits : (z : ℤ) → FitsSigned w128 z → in_range z ≡ true
in_range_from_fits (pos n) h = let k : n < 2 ^ 127 = h.sfits in grind (arith, nat_tests)
in_range_from_fits (negsuc n) h = let k : n < 2 ^ 127 = h.sfits in grind (arith, nat_tests)

out_of_range : (z : ℤ) → (FitsSigned w128 z → ⊥) → in_range z ≡ false
out_of_range (pos n) h = let k : n < 2 ^ 127 → ⊥ = λ l. h (record { sfits = l }) in grind (arith, nat_tests)
out_of_range (negsuc n) h = let k : n < 2 ^ 127 → ⊥ = λ l. h (record { sfits = l }) in grind (arith, nat_tests)

-- what a checked method answers
pub if_in_range_from_checked : (r : Option ℤ) (z : ℤ) → SomeIff r (FitsSigned w128 z) z → r ≡ if_in_range z
if_in_range_from_checked None z h = rw (out_of_range z h)
if_in_range_from_checked (Some x) z h = rw (in_range_from_fits z h.0) (ap Some h.1)

-- ---- powers

far : (m e : ℕ) → 2 ≤ m → 128 ≤ e → 2 ^ 128 ≤ m ^ e
far m e h k =
    let a : 2 ^ 128 ≤ 2 ^ e = pow-le-pow_right {n = 2} (lit< tt) k in
    let b : 2 ^ e ≤ m ^ e = pow-le-pow_left h e in
    omega (arith, a, b)

too_high : (x : ℕ) → 2 ^ 128 ≤ x → in_range (pos x) ≡ false
too_high x h = grind (arith, nat_tests)

too_low : (x : ℕ) → 2 ^ 128 ≤ x → in_range (neg_ℤ (pos x)) ≡ false
too_low zero h = absurd (omega arith)
too_low (suc x) h = grind (arith, nat_tests)

too_far : (even : Bool) (x : ℕ) → 2 ^ 128 ≤ x → in_range (cond even (pos x) (neg_ℤ (pos x))) ≡ false
too_far true x h = too_high x h
too_far false x h = too_low x h

pub power_too_far : (a : ℤ) (e : ℕ) → 128 ≤ e → (a ≡ pos 0 → ⊥) → (a ≡ pos 1 → ⊥) → (a ≡ negsuc 0 → ⊥) → None ≡ if_in_range (int_pow a e)
power_too_far (pos zero) e k p q r = absurd (p refl)
power_too_far (pos (suc zero)) e k p q r = absurd (q refl)
power_too_far (pos (suc (suc n))) e k p q r = rw (too_high (suc (suc n) ^ e) (far (suc (suc n)) e (omega arith) k))
power_too_far (negsuc zero) e k p q r = absurd (r refl)
power_too_far (negsuc (suc n)) e k p q r = rw (too_far (e % 2 == 0) (suc (suc n) ^ e) (far (suc (suc n)) e (omega arith) k))

one_pow : (e : ℕ) → 1 ^ e ≡ 1
one_pow zero = refl
one_pow (suc e) = simp (pow-suc, one_pow e)

zero_pow : (e : ℕ) → 128 ≤ e → 0 ^ e ≡ 0
zero_pow zero h = absurd (omega arith)
zero_pow (suc e) h = simp (pow-suc, mul-zero)

pub power_of_zero : (a : ℤ) (e : ℕ) → a ≡ pos 0 → 128 ≤ e → Some a ≡ if_in_range (int_pow a e)
power_of_zero a e h k = rw (h, zero_pow e k)

pub power_of_one : (a : ℤ) (e : ℕ) → a ≡ pos 1 → Some a ≡ if_in_range (int_pow a e)
power_of_one a e h = rw (h, one_pow e)

pub power_of_minus_one : (a : ℤ) (e : ℕ) (even : Bool) → a ≡ negsuc 0 → (e % 2 == 0) ≡ even →
    cond even (Some (pos 1)) (Some (negsuc 0)) ≡ if_in_range (int_pow a e)
power_of_minus_one a e true h k = rw (h, one_pow e, k)
power_of_minus_one a e false h k = rw (h, one_pow e, k)
