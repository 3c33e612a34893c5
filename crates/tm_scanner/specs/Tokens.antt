-- The tokens in a tag.
use Rattle.std.specs.Prelude.{◌≡◌, ℕ, zero, suc, ◌-◌, nat_lt, pos, List, [], ◌∷◌, ◌++◌, Option, Some, None, option_map, if◌then◌else◌, codes}
use Rattle.std.specs.Option.{option_or, unwrap_or}
use Rattle.tm_values.specs.Val as val
use Rattle.tm_syntax.specs.declared.token.Token.{Token}
use Rattle.tm_syntax.specs.declared.token.Token.TheVariants as tokens
use Rattle.tm_syntax.specs.declared.token.Sign.{Sign}
use Rattle.tm_syntax.specs.declared.token.Sign.TheVariants as sign
use Rattle.tm_scanner.specs.declared.texts.Quote.{Quote}
use Rattle.tm_delimiters.specs.declared.whitespace.Whitespace.{Whitespace}
use Rattle.tm_delimiters.specs.Front.{after, past_blanks}
use Rattle.tm_delimiters.specs.Whitespace.{ending, to_end, past_blanks_to}
use Rattle.tm_scanner.specs.Steps.{Steps}
use Rattle.tm_scanner.specs.Names.{name_at, reserved}
use Rattle.tm_scanner.specs.Numbers.{number, starts_number}
use Rattle.tm_scanner.specs.Texts.{quote_at, IsLiteral}

-- The marks. A longer mark comes before the shorter one that it begins with.
abbrev pub marks : List (List ℕ × Sign)
marks =
    (codes "**", sign.DoubleStar) ∷ (codes "*", sign.Star) ∷ (codes "//", sign.DoubleSlash) ∷ (codes "/", sign.Slash)
    ∷ (codes "<=", sign.LessOrEqual) ∷ (codes "<", sign.Less) ∷ (codes ">=", sign.GreaterOrEqual) ∷ (codes ">", sign.Greater)
    ∷ (codes "==", sign.Equal) ∷ (codes "=", sign.Assign) ∷ (codes "!=", sign.NotEqual) ∷ (codes "+", sign.Plus) ∷ (codes "-", sign.Minus)
    ∷ (codes "~", sign.Tilde) ∷ (codes "|", sign.Bar) ∷ (codes "%", sign.Percent)
    ∷ (codes "(", sign.OpenRound) ∷ (codes ")", sign.CloseRound)
    ∷ (codes "[", sign.OpenSquare) ∷ (codes "]", sign.CloseSquare) ∷ (codes "{", sign.OpenCurly) ∷ (codes "}", sign.CloseCurly)
    ∷ (codes ",", sign.Comma) ∷ (codes ".", sign.Dot) ∷ (codes ":", sign.Colon) ∷ []

-- the first mark of a table that the bytes begin with
abbrev pub mark_in : List (List ℕ × Sign) → List ℕ → Option (Sign × List ℕ)
mark_in [] cs = None
mark_in (m ∷ ms) cs = option_or (option_map (λ rest. (m.1, rest)) (after m.0 cs)) (mark_in ms cs)

abbrev pub mark : List ℕ → Option (Sign × List ℕ)
mark cs = mark_in marks cs

-- the longer of two marks, if the word follows the shorter one
abbrev pub longer_mark : List ℕ → List ℕ → Sign → Sign → Sign × List ℕ
longer_mark cs word longer shorter = unwrap_or (option_map (λ rest. (longer, rest)) (after word cs)) (shorter, cs)

abbrev pub name_or : List ℕ → Option Sign → Token
name_or name None = tokens.Name name
name_or name (Some s) = tokens.Sign s

-- the name or reserved word at the start
abbrev pub word : List ℕ → Option (Token × List ℕ)
word cs = option_map (λ x. (name_or x.0 (reserved x.0), x.1)) (name_at cs)

-- a token at the start that isn't a string literal
abbrev pub plain : List ℕ → Option (Token × List ℕ)
plain cs =
    if starts_number cs
    then option_map (λ x. (tokens.Literal (val.number (pos x.0)), x.1)) (number cs)
    else option_or (option_map (λ x. (tokens.Sign x.0, x.1)) (mark cs)) (word cs)

abbrev pub IsTokenAfter : Option (Quote × List ℕ) → List ℕ × List ℕ → Token → List ℕ → Type 0
IsTokenAfter None x t rest = (left : List ℕ) × (plain x.0 ≡ Some (t, left)) × (rest ≡ left ++ x.1)
IsTokenAfter (Some q) x t rest = (v : val.Val) × IsLiteral q.0 q.1 v rest × (t ≡ tokens.Literal v)

-- The token at the start of two parts, and the rest after it. Only a string literal may continue in
-- the second part.
abbrev pub IsToken : List ℕ × List ℕ → Token → List ℕ → Type 0
IsToken x t rest = IsTokenAfter (quote_at (x.0 ++ x.1)) x t rest

-- one more open bracket, up to 150
abbrev pub deeper : ℕ → Option ℕ
deeper depth = if nat_lt depth 150 then Some (suc depth) else None

-- the number of open brackets after a token
abbrev pub depth_after : Token → ℕ → Option ℕ
depth_after (tokens.Sign sign.OpenRound) depth = deeper depth
depth_after (tokens.Sign sign.OpenSquare) depth = deeper depth
depth_after (tokens.Sign sign.OpenCurly) depth = deeper depth
depth_after (tokens.Sign sign.CloseRound) depth = Some (depth - 1)
depth_after (tokens.Sign sign.CloseSquare) depth = Some (depth - 1)
depth_after (tokens.Sign sign.CloseCurly) depth = Some (depth - 1)
depth_after _ depth = Some depth

-- A place in the content of a tag: the rest, and the number of open brackets.
pub record ContentPlace : Type 0 where
  pub rest : List ℕ
  pub depth : ℕ

-- the end of the tag, if the bytes begin with it and no bracket is open
abbrev pub past_end : List ℕ → List ℕ → ℕ → Option (Whitespace × List ℕ)
past_end by rest zero = ending by rest
past_end by rest (suc depth) = None

-- The bytes before the tag's end, and the rest from there on. The end counts only if no bracket is
-- open.
abbrev pub split_at_end : List ℕ → ℕ → List ℕ → List ℕ × List ℕ
split_at_end by zero cs = to_end by cs
split_at_end by (suc depth) cs = (cs, [])

-- the rest after the blanks before that place
abbrev pub past_blanks_at : List ℕ → ℕ → List ℕ → List ℕ
past_blanks_at by zero cs = past_blanks_to by cs
past_blanks_at by (suc depth) cs = past_blanks cs

-- a token, if the content doesn't end here, and the blanks after it
pub record Passes (by : List ℕ) (s : ContentPlace) (t : Token) (u : ContentPlace) : Type 0 where
  pub goes_on : past_end by s.rest s.depth ≡ None
  pub next : List ℕ
  pub token : IsToken (split_at_end by s.depth s.rest) t next
  pub depth : depth_after t s.depth ≡ Some u.depth
  pub rest : u.rest ≡ past_blanks_at by u.depth next

-- The content of a tag is these tokens. Its end is the mark there, and the rest after it.
abbrev pub Content : List ℕ → List ℕ → List Token → Whitespace × List ℕ → Type 0
Content by cs ts end =
    (at_end : ContentPlace) × Steps (Passes by) (record { rest = past_blanks_to by cs; depth = 0 }) ts at_end
    × (past_end by at_end.rest at_end.depth ≡ Some end)
