-- Where tags start.
use Rattle.std.specs.Prelude.{◌≡◌, ℕ, List, Bool, true, nat_eq, Option, Some, None, option_map, drop, ◌||◌}
use Rattle.std.specs.List.{starts_with}
use Rattle.tm_delimiters.specs.declared.syntax.Kind.{Kind}
use Rattle.tm_delimiters.specs.declared.syntax.Kind.TheVariants as kind
use Rattle.tm_delimiters.specs.declared.trimming.Side.{Side}
use Rattle.tm_delimiters.specs.Front.{after}
use Rattle.tm_delimiters.specs.Syntax.{Syntax}
use Rattle.tm_delimiters.specs.Whitespace.{whitespace_at}

-- the delimiters of a kind
abbrev pub start_delimiter : Syntax → Kind → List ℕ
start_delimiter s kind.Block = s.block_start
start_delimiter s kind.Variable = s.variable_start
start_delimiter s kind.Comment = s.comment_start

abbrev pub end_delimiter : Syntax → Kind → List ℕ
end_delimiter s kind.Block = s.block_end
end_delimiter s kind.Variable = s.variable_end
end_delimiter s kind.Comment = s.comment_end

-- the start delimiter of a kind at the start
abbrev pub opens : Syntax → Kind → List ℕ → Option (Kind × List ℕ)
opens s k cs = option_map (λ rest. (k, rest)) (after (start_delimiter s k) cs)

-- the second of two, if there is something
abbrev pub second_if : Option (List ℕ) → Kind × List ℕ → Kind × List ℕ → Option (Kind × List ℕ)
second_if None x y = Some x
second_if (Some more) x y = Some y

-- The longer of two start delimiters at the same place; it begins with the other one.
abbrev pub longer : Syntax → Option (Kind × List ℕ) → Option (Kind × List ℕ) → Option (Kind × List ℕ)
longer s None y = y
longer s (Some x) None = Some x
longer s (Some x) (Some y) = second_if (after (start_delimiter s x.0) (start_delimiter s y.0)) x y

-- the start delimiter at the start of the bytes
abbrev pub opening : Syntax → List ℕ → Option (Kind × List ℕ)
opening s cs = longer s (longer s (opens s kind.Block cs) (opens s kind.Variable cs)) (opens s kind.Comment cs)

-- whether the bytes begin with a start delimiter
abbrev pub begins : Syntax → List ℕ → Bool
begins s cs = starts_with nat_eq cs s.block_start || starts_with nat_eq cs s.variable_start || starts_with nat_eq cs s.comment_start

abbrev pub BeginsAt : Syntax → List ℕ → ℕ → Type 0
BeginsAt s cs k = begins s (drop k cs) ≡ true

-- the side of a tag with the mark at the start, and the rest after the mark
abbrev pub side_at : Kind × List ℕ → Side × List ℕ
side_at x = (record { kind = x.0; whitespace = (whitespace_at x.1).0 }, (whitespace_at x.1).1)

-- the start of a tag, and the rest after it
abbrev pub tag_start : Syntax → List ℕ → Option (Side × List ℕ)
tag_start s cs = option_map side_at (opening s cs)
