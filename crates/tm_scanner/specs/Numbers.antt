-- Whole numbers.
use Rattle.std.specs.Prelude.{ℕ, ◌+◌, ◌*◌, nat_lt, List, [], ◌∷◌, Bool, false, Option, Some, None, is_some, codes, if◌then◌else◌, ◌==◌}
use Rattle.std.specs.Prelude.{◌&&◌, ◌||◌}
use Rattle.std.specs.Option.{option_or, unwrap_or}
use Rattle.std.specs.Char.{digit_value}
use Rattle.tm_delimiters.specs.Front.{◌>>=◌, after}

-- the digit of a base at the start
abbrev pub digit : ℕ → List ℕ → Option (ℕ × List ℕ)
digit base [] = None
digit base (c ∷ cs) = if nat_lt (digit_value c) base then Some (digit_value c, cs) else None

abbrev pub starts_digits : ℕ → List ℕ → Bool
starts_digits base cs = is_some (digit base cs)

abbrev pub starts_number : List ℕ → Bool
starts_number cs = starts_digits 10 cs

-- the number with one more digit; None above 2 ^ 127 - 1
abbrev pub with_digit : ℕ → ℕ → ℕ → Option ℕ
with_digit base n d = if nat_lt (n * base + d) 170141183460469231731687303715884105728 then Some (n * base + d) else None

-- The number n with the digits at the start, with an optional `_` before each, and the rest after
-- them.
abbrev pub digits : ℕ → ℕ → List ℕ → Option (ℕ × List ℕ)
digits base n [] = Some (n, [])
digits base n (c ∷ cs) =
    if nat_lt (digit_value c) base then with_digit base n (digit_value c) >>= (λ m. digits base m cs)
    else (if (c == 95) && starts_digits base cs then digits base n cs else Some (n, c ∷ cs))

-- the digit at the start, with an optional `_` before it
abbrev pub next_digit : ℕ → List ℕ → Option (ℕ × List ℕ)
next_digit base cs = option_or (digit base cs) (after (codes "_") cs >>= digit base)

-- the digits after the prefix of a base, if the bytes begin with it
abbrev pub based : List ℕ → ℕ → List ℕ → Option (ℕ × List ℕ)
based prefix base cs = after prefix cs >>= (λ rest. if starts_digits base rest then Some (base, rest) else None)

-- the base of a number, and its digits
abbrev pub prefixed : List ℕ → Option (ℕ × List ℕ)
prefixed cs = option_or (based (codes "0x") 16 cs) (option_or (based (codes "0o") 8 cs) (based (codes "0b") 2 cs))

abbrev pub base_of : List ℕ → ℕ × List ℕ
base_of cs = unwrap_or (prefixed cs) (10, cs)

-- whether the bytes begin with a point or an `e`, and a digit
abbrev pub starts_fraction : List ℕ → Bool
starts_fraction [] = false
starts_fraction (c ∷ cs) = ((c == 46) || (c == 101) || (c == 69)) && starts_number cs

-- the whole number at the start; a decimal number with a fraction or an exponent isn't one
abbrev pub number : List ℕ → Option (ℕ × List ℕ)
number cs = do
  first ← digit (base_of cs).0 (base_of cs).1
  x ← digits (base_of cs).0 first.0 first.1
  if ((base_of cs).0 == 10) && starts_fraction x.1 then None else Some x
