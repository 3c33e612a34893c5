-- Names and reserved words.
use Rattle.std.specs.Prelude.{ℕ, List, [], ◌∷◌, Bool, true, not, nat_eq, codes, Option, Some, None, option_map, if◌then◌else◌, ◌==◌, ◌||◌}
use Rattle.std.specs.Prelude.{encode_utf8_all}
use Rattle.std.specs.Cmp.Lexicographic.{pointwise}
use Rattle.std.specs.Str.{chars}
use Rattle.unicode_ident.specs.Ident.{is_xid_start, is_xid_continue}
use Rattle.tm_syntax.specs.declared.token.Sign.{Sign}
use Rattle.tm_syntax.specs.declared.token.Sign.TheVariants as sign
use Rattle.tm_syntax.specs.declared.token.Tag.{Tag}
use Rattle.tm_syntax.specs.declared.token.Tag.TheVariants as tag
use Rattle.tm_delimiters.specs.Front.{until}

-- whether a name may begin with the character
abbrev pub starts_name : ℕ → Bool
starts_name c = (c == 95) || is_xid_start c

-- whether a name can't continue with these characters
abbrev pub leaves_name : List ℕ → Bool
leaves_name [] = true
leaves_name (c ∷ cs) = not (is_xid_continue c)

-- the longest name at the start of the characters, reserved or not, and the rest after it
abbrev pub name_in : List ℕ → Option (List ℕ × List ℕ)
name_in [] = None
name_in (c ∷ cs) = if starts_name c then Some (c ∷ (until leaves_name cs).0, (until leaves_name cs).1) else None

-- the same for bytes
abbrev pub name_at : List ℕ → Option (List ℕ × List ℕ)
name_at bs = option_map (λ x. (encode_utf8_all x.0, encode_utf8_all x.1)) (name_in (chars bs))

-- the entry of a word
abbrev pub look_up : {A : Type 0} → List (List ℕ × A) → List ℕ → Option A
look_up [] cs = None
look_up (x ∷ xs) cs = if pointwise nat_eq x.0 cs then Some x.1 else look_up xs cs

abbrev pub reserved_words : List (List ℕ × Sign)
reserved_words =
    (codes "and", sign.And) ∷ (codes "or", sign.Or) ∷ (codes "not", sign.Not)
    ∷ (codes "if", sign.If) ∷ (codes "else", sign.Else) ∷ (codes "in", sign.In) ∷ (codes "is", sign.Is)
    ∷ (codes "true", sign.True) ∷ (codes "false", sign.False) ∷ (codes "none", sign.None)
    ∷ (codes "True", sign.True) ∷ (codes "False", sign.False) ∷ (codes "None", sign.None) ∷ []

abbrev pub reserved : List ℕ → Option Sign
reserved name = look_up reserved_words name

-- the words of tags: those that begin a statement, and those that continue or end one
abbrev pub tag_words : List (List ℕ × Tag)
tag_words =
    (codes "if", tag.If) ∷ (codes "for", tag.For) ∷ (codes "break", tag.Break) ∷ (codes "continue", tag.Continue)
    ∷ (codes "block", tag.Block) ∷ (codes "extends", tag.Extends) ∷ (codes "set", tag.Set) ∷ (codes "with", tag.With) ∷ (codes "do", tag.Do)
    ∷ (codes "filter", tag.Filter) ∷ (codes "autoescape", tag.Autoescape) ∷ (codes "macro", tag.Macro) ∷ (codes "call", tag.Call)
    ∷ (codes "include", tag.Include) ∷ (codes "import", tag.Import) ∷ (codes "from", tag.From) ∷ (codes "elif", tag.Elif)
    ∷ (codes "else", tag.Else) ∷ (codes "endif", tag.Endif) ∷ (codes "endfor", tag.Endfor) ∷ (codes "endblock", tag.Endblock)
    ∷ (codes "endset", tag.Endset) ∷ (codes "endwith", tag.Endwith) ∷ (codes "endfilter", tag.Endfilter)
    ∷ (codes "endautoescape", tag.Endautoescape) ∷ (codes "endmacro", tag.Endmacro) ∷ (codes "endcall", tag.Endcall) ∷ []

abbrev pub tag_of : List ℕ → Option Tag
tag_of name = look_up tag_words name
