-- String literals.
use Rattle.std.specs.Prelude.{◌≡◌, ℕ, ◌+◌, ◌-◌, ◌*◌, nat_lt, nat_le, List, [], ◌∷◌, ◌++◌, Bool, true, false, Option, Some, None}
use Rattle.std.specs.Prelude.{if◌then◌else◌, ◌==◌, ◌&&◌, ◌||◌, codes, encode_utf8}
use Rattle.std.specs.Char.{digit_value}
use Rattle.memchr.specs.Find.{is_byte2}
use Rattle.tm_values.specs.Val.{Val, text}
use Rattle.tm_scanner.specs.declared.texts.Quote.{Quote}
use Rattle.tm_scanner.specs.declared.texts.Quote.TheVariants as quote
use Rattle.tm_delimiters.specs.Front.{◌>>=◌, after, until, first_is, ascii}
use Rattle.tm_scanner.specs.Steps.{Steps, joined}

abbrev pub byte_of : Quote → ℕ
byte_of quote.Double = 34
byte_of quote.Single = 39

-- the rest after a quote, if the bytes begin with it
abbrev pub past_quote : Quote → List ℕ → Option (List ℕ)
past_quote q cs = after (byte_of q ∷ []) cs

-- the quote at the start
abbrev pub quote_at : List ℕ → Option (Quote × List ℕ)
quote_at [] = None
quote_at (c ∷ cs) = if c == 34 then Some (quote.Double, cs) else (if c == 39 then Some (quote.Single, cs) else None)

-- the bytes before the next quote or backslash
abbrev pub run : Quote → List ℕ → List ℕ × List ℕ
run q cs = until (first_is (is_byte2 (byte_of q) 92)) cs

abbrev pub hex_digit : List ℕ → Option (ℕ × List ℕ)
hex_digit [] = None
hex_digit (c ∷ cs) = if nat_lt (digit_value c) 16 then Some (digit_value c, cs) else None

-- the code of four hexadecimal digits
abbrev pub hex : List ℕ → Option (ℕ × List ℕ)
hex cs = do
  a ← hex_digit cs
  b ← hex_digit a.1
  c ← hex_digit b.1
  d ← hex_digit c.1
  Some (4096 * a.0 + 256 * b.0 + 16 * c.0 + d.0, d.1)

-- whether a code is a character: not a surrogate, and within Unicode
abbrev pub is_character : ℕ → Bool
is_character code = nat_lt code 0xD800 || (nat_lt 0xDFFF code && nat_lt code 0x11_0000)

abbrev pub character : ℕ → Option ℕ
character code = if is_character code then Some code else None

-- the second half of a surrogate pair
abbrev pub low_surrogate : List ℕ → Option (ℕ × List ℕ)
low_surrogate cs = do
  rest ← after (codes "\\u") cs
  low ← hex rest
  if nat_le 0xDC00 low.0 && nat_lt low.0 0xE000 then Some (low.0 - 0xDC00, low.1) else None

-- the character of a code, or of the surrogate pair that begins with it
abbrev pub unicode_by : Bool → ℕ × List ℕ → Option (ℕ × List ℕ)
unicode_by false code = character code.0 >>= (λ c. Some (c, code.1))
unicode_by true code = do
  low ← low_surrogate code.1
  c ← character (0x10000 + 1024 * (code.0 - 0xD800) + low.0)
  Some (c, low.1)

abbrev pub unicode : List ℕ → Option (ℕ × List ℕ)
unicode cs = do
  code ← hex cs
  unicode_by (nat_le 0xD800 code.0 && nat_lt code.0 0xDC00) code

-- \\ \" \' \/ \b \f \n \r \t
abbrev pub letters : List (ℕ × ℕ)
letters = (92, 92) ∷ (34, 34) ∷ (39, 39) ∷ (47, 47) ∷ (98, 8) ∷ (102, 12) ∷ (110, 10) ∷ (114, 13) ∷ (116, 9) ∷ []

abbrev pub letter_in : List (ℕ × ℕ) → ℕ → Option ℕ
letter_in [] c = None
letter_in (x ∷ xs) c = if c == x.0 then Some x.1 else letter_in xs c

abbrev pub letter : ℕ → Option ℕ
letter c = letter_in letters c

-- the character of an escape sequence
abbrev pub escape : List ℕ → Option (ℕ × List ℕ)
escape cs = do
  rest ← after (92 ∷ []) cs
  x ← ascii rest
  if x.0 == 117 then unicode x.1 else letter x.0 >>= (λ c. Some (c, x.1))

-- an escape sequence, and the bytes after it, before the next quote or backslash
abbrev pub part : Quote → List ℕ → Option (List ℕ × List ℕ)
part q cs = escape cs >>= (λ c. Some (encode_utf8 c.0 ++ (run q c.1).0, (run q c.1).1))

abbrev pub IsPart : Quote → List ℕ → List ℕ → List ℕ → Type 0
IsPart q cs bytes rest = part q cs ≡ Some (bytes, rest)

-- The bytes of a string literal after its opening quote: those before the first escape sequence,
-- and then the escape sequences, each with the bytes after it, up to the closing quote.
abbrev pub IsText : Quote → List ℕ → List ℕ → List ℕ → Type 0
IsText q cs bytes rest =
    (parts : List (List ℕ)) × Steps (IsPart q) (run q cs).1 parts (byte_of q ∷ rest) × (bytes ≡ (run q cs).0 ++ joined parts)

-- the same as a value
abbrev pub IsLiteral : Quote → List ℕ → Val → List ℕ → Type 0
IsLiteral q cs v rest = (bytes : List ℕ) × IsText q cs bytes rest × (v ≡ text bytes false)
