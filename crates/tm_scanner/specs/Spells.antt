-- The tokens of a source.
use Rattle.std.specs.Prelude.{◌≡◌, ℕ, List, [], ◌∷◌, ◌++◌, Bool, false, None, if◌then◌else◌, ◌==◌, ◌&&◌}
use Rattle.tm_syntax.specs.declared.token.Token.{Token}
use Rattle.tm_scanner.specs.Steps.{Steps, joined}
use Rattle.tm_delimiters.specs.Syntax.{Syntax}
use Rattle.tm_delimiters.specs.Front.{first_of}
use Rattle.tm_delimiters.specs.Trimming.{trimmed}
use Rattle.tm_delimiters.specs.Starts.{tag_start}
use Rattle.tm_delimiters.specs.Front.{past_blanks}
use Rattle.tm_scanner.specs.Pieces.{raw, SourcePlace, IsPiece}
use Rattle.tm_scanner.specs.Tokens.{IsToken}

-- `\n` or `\r\n`, and nothing after it
abbrev pub is_newline : List ℕ → Bool
is_newline [] = false
is_newline (c ∷ []) = c == 10
is_newline (c ∷ d ∷ []) = (c == 13) && (d == 10)
is_newline (c ∷ d ∷ e ∷ cs) = false

-- the bytes without one newline at their end
abbrev pub without_final_newline : List ℕ → List ℕ
without_final_newline [] = []
without_final_newline (c ∷ cs) = if is_newline (c ∷ cs) then [] else c ∷ without_final_newline cs

-- the part of the source that is read
abbrev pub read_of : Syntax → List ℕ → List ℕ
read_of s source = if s.keep_trailing_newline then source else without_final_newline source

-- A source consists of pieces, and of a raw text after the last one. The tokens are theirs, in
-- order.
abbrev pub SpellsTokens : Syntax → List ℕ → List Token → Type 0
SpellsTokens s source ts =
    (pieces : List (List Token)) × (last : SourcePlace)
    × Steps (IsPiece s) (record { before = None; rest = read_of s source }) pieces last
    × (first_of (tag_start s) last.rest ≡ None)
    × (ts ≡ joined pieces ++ raw (trimmed s last.before None last.rest))

-- a token, if the source doesn't end here, and the blanks after it
pub record Reads (rest : List ℕ) (t : Token) (left : List ℕ) : Type 0 where
  pub goes_on : rest ≡ [] → ⊥
  pub next : List ℕ
  pub token : IsToken (rest, []) t next
  pub blanks : left ≡ past_blanks next

-- The source of an expression is tokens up to its end, with blanks around them.
abbrev pub SpellsParts : List ℕ → List Token → Type 0
SpellsParts source ts = Steps Reads (past_blanks source) ts []
