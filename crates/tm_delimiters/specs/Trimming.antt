-- How the tags next to a raw text trim it.
use Rattle.std.specs.Prelude.{ℕ, List, [], ◌∷◌, Bool, true, false, not, Option, Some, None, is_some, if◌then◌else◌, ◌==◌, ◌||◌, ◌&&◌}
use Rattle.std.specs.Option.{option_or, unwrap_or}
use Rattle.std.specs.Str.{trim_start, trim_end}
use Rattle.tm_delimiters.specs.declared.syntax.Kind.{Kind}
use Rattle.tm_delimiters.specs.declared.syntax.Kind.TheVariants as kind
use Rattle.tm_delimiters.specs.declared.whitespace.Whitespace.{Whitespace}
use Rattle.tm_delimiters.specs.declared.whitespace.Whitespace.TheVariants as whitespace
use Rattle.tm_delimiters.specs.declared.trimming.Side.{Side}
use Rattle.tm_delimiters.specs.Front.{after}
use Rattle.tm_delimiters.specs.Syntax.{Syntax}

-- whether the flags apply to tags of this kind
abbrev pub is_block : Kind → Bool
is_block kind.Block = true
is_block kind.Variable = false
is_block kind.Comment = true

-- without one newline, `\n` or `\r\n`, at the start
abbrev pub past_newline : List ℕ → List ℕ
past_newline cs = unwrap_or (option_or (after (10 ∷ []) cs) (after (13 ∷ 10 ∷ []) cs)) cs

-- a space or a tab
abbrev pub is_space : ℕ → Bool
is_space c = (c == 32) || (c == 9)

-- whether all bytes are spaces and tabs
abbrev pub is_indent : List ℕ → Bool
is_indent [] = true
is_indent (c ∷ cs) = is_space c && is_indent cs

-- Without the spaces and tabs at the end, if they are the whole last line. `starts_line` says
-- whether the bytes start a line.
abbrev pub without_indent : Bool → List ℕ → List ℕ
without_indent starts_line [] = []
without_indent starts_line (c ∷ cs) = if starts_line && is_indent (c ∷ cs) then [] else c ∷ without_indent (c == 10) cs

-- the text, trimmed by the tag before it
abbrev pub left_after : Syntax → Kind → Whitespace → List ℕ → List ℕ
left_after s k whitespace.Remove text = trim_start text
left_after s k whitespace.Preserve text = text
left_after s k whitespace.Default text = if s.trim_blocks && is_block k then past_newline text else text

-- the text, trimmed by the tag after it
abbrev pub left_before : Syntax → Bool → Kind → Whitespace → List ℕ → List ℕ
left_before s starts_line k whitespace.Remove text = trim_end text
left_before s starts_line k whitespace.Preserve text = text
left_before s starts_line k whitespace.Default text =
    if s.lstrip_blocks && is_block k then without_indent starts_line text else text

abbrev pub by_before : Syntax → Option Side → List ℕ → List ℕ
by_before s None text = text
by_before s (Some side) text = left_after s side.kind side.whitespace text

abbrev pub by_after : Syntax → Bool → Option Side → List ℕ → List ℕ
by_after s starts_line None text = text
by_after s starts_line (Some side) text = left_before s starts_line side.kind side.whitespace text

-- A raw text, trimmed by the tags next to it. There is no tag before it at the start of the source,
-- and none after it at the end.
abbrev pub trimmed : Syntax → Option Side → Option Side → List ℕ → List ℕ
trimmed s before after text = by_before s before (by_after s (not (is_some before)) after text)
