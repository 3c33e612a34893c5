-- The pieces of a source: a raw text and the tag after it.
use Rattle.std.specs.Prelude.{◌≡◌, ℕ, List, [], ◌∷◌, ◌++◌, Option, Some, None, nat_eq, ◌||◌, codes, if◌then◌else◌}
use Rattle.std.specs.Str.{chars}
use Rattle.tm_syntax.specs.declared.token.Token.{Token}
use Rattle.tm_syntax.specs.declared.token.Token.TheVariants as tokens
use Rattle.tm_syntax.specs.declared.token.Sign.TheVariants as sign
use Rattle.tm_syntax.specs.declared.token.Tag.{Tag}
use Rattle.tm_delimiters.specs.declared.syntax.Kind.{Kind}
use Rattle.tm_delimiters.specs.declared.syntax.Kind.TheVariants as kind
use Rattle.tm_delimiters.specs.declared.whitespace.Whitespace.{Whitespace}
use Rattle.tm_delimiters.specs.declared.trimming.Side.{Side}
use Rattle.tm_delimiters.specs.Front.{◌>>=◌, after, ascii, first_of, past_blanks}
use Rattle.tm_scanner.specs.Names.{leaves_name, name_at, tag_of}
use Rattle.tm_delimiters.specs.Syntax.{Syntax}
use Rattle.tm_delimiters.specs.Whitespace.{whitespace_at, ending, ends_here, to_end, past_blanks_to, comment_end}
use Rattle.tm_delimiters.specs.Trimming.{trimmed}
use Rattle.tm_delimiters.specs.Starts.{tag_start}
use Rattle.tm_scanner.specs.Tokens.{Content}

-- the token of a raw text, unless it is empty
abbrev pub raw : List ℕ → List Token
raw [] = []
raw (c ∷ cs) = tokens.Raw (c ∷ cs) ∷ []

-- the rest after these letters, if the tag doesn't end before or between them
abbrev pub past_letters : List ℕ → List ℕ → List ℕ → Option (List ℕ)
past_letters by [] cs = Some cs
past_letters by (w ∷ ws) cs = do
  x ← ascii cs
  if nat_eq x.0 w then (if ends_here by cs then None else past_letters by ws x.1) else None

-- the rest after blanks and a word, if the tag or the name ends there
abbrev pub past_word : List ℕ → List ℕ → List ℕ → Option (List ℕ)
past_word by word cs =
    past_letters by word (past_blanks_to by cs)
    >>= (λ rest. if ends_here by rest || leaves_name (chars rest) then Some rest else None)

-- an `endraw` tag at the start: the mark at its start, the mark at its end, and the rest
abbrev pub endraw : Syntax → List ℕ → Option (Whitespace × (Whitespace × List ℕ))
endraw s cs = do
  inside ← after s.block_start cs
  rest ← past_word s.block_end (codes "endraw") (whitespace_at inside).1
  end ← ending s.block_end (past_blanks_to s.block_end rest)
  Some ((whitespace_at inside).0, end)

-- one side of a block tag
abbrev pub block_side : Whitespace → Option Side
block_side w = Some (record { kind = kind.Block; whitespace = w })

-- After the word `raw`: the text before the first `endraw` tag, trimmed, and the end of that tag.
abbrev pub raw_block : Syntax → List ℕ → Option (List ℕ × (Whitespace × List ℕ))
raw_block s cs = do
  opened ← ending s.block_end (past_blanks_to s.block_end cs)
  closed ← first_of (endraw s) opened.1
  Some (trimmed s (block_side opened.0) (block_side closed.1.0) closed.0, closed.1.1)

abbrev pub IsRawBlock : Syntax → List ℕ → List Token → Whitespace × List ℕ → Type 0
IsRawBlock s cs ts end = (text : List ℕ) × (raw_block s cs ≡ Some (text, end)) × (ts ≡ raw text)

-- the word of a block tag
abbrev pub tag_word : List ℕ → Option (Tag × List ℕ)
tag_word cs = do
  name ← name_at (past_blanks cs)
  tag ← tag_of name.0
  Some (tag, name.1)

abbrev pub IsBlockTag : List ℕ → List ℕ → List Token → Whitespace × List ℕ → Type 0
IsBlockTag by cs ts end =
    (word : Tag × List ℕ) × (tag_word (to_end by cs).0 ≡ Some word) × (inside : List Token)
    × Content by (word.1 ++ (to_end by cs).1) inside end
    × (ts ≡ tokens.Tag word.0 ∷ (inside ++ tokens.Sign sign.BlockEnd ∷ []))

-- A block is a raw block, if it begins with the word `raw`, or else a block tag.
abbrev pub IsBlockAfter : Syntax → Option (List ℕ) → List ℕ → List Token → Whitespace × List ℕ → Type 0
IsBlockAfter s None cs ts end = IsBlockTag s.block_end cs ts end
IsBlockAfter s (Some rest) cs ts end = IsRawBlock s rest ts end

abbrev pub IsBlock : Syntax → List ℕ → List Token → Whitespace × List ℕ → Type 0
IsBlock s cs ts end = IsBlockAfter s (past_word s.block_end (codes "raw") cs) cs ts end

abbrev pub IsEmission : List ℕ → List ℕ → List Token → Whitespace × List ℕ → Type 0
IsEmission by cs ts end =
    (inside : List Token) × Content by cs inside end
    × (ts ≡ tokens.Sign sign.VariableStart ∷ (inside ++ tokens.Sign sign.VariableEnd ∷ []))

-- the tokens of a tag of a kind after its start, the mark at its end, and the rest after it
abbrev pub IsTag : Syntax → Kind → List ℕ → List Token → Whitespace × List ℕ → Type 0
IsTag s kind.Block cs ts end = IsBlock s cs ts end
IsTag s kind.Variable cs ts end = IsEmission s.variable_end cs ts end
IsTag s kind.Comment cs ts end = (ts ≡ []) × (comment_end s.comment_end cs ≡ Some end)

-- A place in a source: the tag that ends there, if any, and the rest.
pub record SourcePlace : Type 0 where
  pub before : Option Side
  pub rest : List ℕ

-- A raw text before the next tag, and that tag.
pub record IsPiece (s : Syntax) (p : SourcePlace) (ts : List Token) (q : SourcePlace) : Type 0 where
  pub text : List ℕ
  pub start : Side
  pub after : List ℕ
  pub next : first_of (tag_start s) p.rest ≡ Some (text, (start, after))
  pub inside : List Token
  pub end : Whitespace × List ℕ
  pub tag : IsTag s start.kind after inside end
  pub tokens : ts ≡ raw (trimmed s p.before (Some start) text) ++ inside
  pub place : q ≡ record { before = Some (record { kind = start.kind; whitespace = end.0 }); rest = end.1 }
