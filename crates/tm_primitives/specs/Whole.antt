-- Arithmetic on whole numbers of 128 bits with sign: the exact result, or none.
use Rattle.std.specs.Prelude.{◌≡◌, ◌≤ℤ◌, ◌<ℤ◌, unsigned_abs, ℤ, pos, negsuc, ◌^◌, ◌+ℤ◌, ◌-ℤ◌, ◌*ℤ◌, neg_ℤ, Bool, cond, nat_lt, Option, Some}
use Rattle.std.specs.Prelude.{None}
use Rattle.std.specs.Ordering.{int_eq}
use Rattle.std.specs.Int.{int_div_euclid, int_rem_euclid, int_pow}

-- z lies from -2^127 to 2^127 - 1
abbrev pub in_range : ℤ → Bool
in_range (pos n) = nat_lt n (2 ^ 127)
in_range (negsuc n) = nat_lt n (2 ^ 127)

-- the number, unless it is out of range
abbrev pub if_in_range : ℤ → Option ℤ
if_in_range z = cond (in_range z) (Some z) None

abbrev pub sum_of : ℤ → ℤ → Option ℤ
sum_of a b = if_in_range (a +ℤ b)

abbrev pub difference_of : ℤ → ℤ → Option ℤ
difference_of a b = if_in_range (a -ℤ b)

abbrev pub product_of : ℤ → ℤ → Option ℤ
product_of a b = if_in_range (a *ℤ b)

abbrev pub negation_of : ℤ → Option ℤ
negation_of a = if_in_range (neg_ℤ a)

-- the quotient whose remainder is not negative; none by zero
abbrev pub quotient_of : ℤ → ℤ → Option ℤ
quotient_of a b = cond (int_eq b (pos 0)) None (if_in_range (int_div_euclid a b))

-- the remainder that is not negative; none by zero
abbrev pub remainder_of : ℤ → ℤ → Option ℤ
remainder_of a b = cond (int_eq b (pos 0)) None (if_in_range (int_rem_euclid a b))

-- none for a negative exponent
abbrev pub power_of : ℤ → ℤ → Option ℤ
power_of a (pos e) = if_in_range (int_pow a e)
power_of a (negsuc e) = None

-- a = b * (a // b) + a % b and 0 <= a % b < |b|, wherever both are given
abbrev pub IsEuclidean : ℤ → ℤ → Type 0
IsEuclidean a b =
    (q r : ℤ) → quotient_of a b ≡ Some q → remainder_of a b ≡ Some r
    → (a ≡ b *ℤ q +ℤ r) × (pos 0 ≤ℤ r) × (r <ℤ pos (unsigned_abs b))
