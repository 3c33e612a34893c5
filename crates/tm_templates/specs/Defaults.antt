-- How template names choose escapes.
use Rattle.std.specs.Prelude.{ℕ, List, [], ◌∷◌, Bool, true, false, ◌||◌, if◌then◌else◌, Option, None, Some, is_some, option_map, reverse}
use Rattle.std.specs.Prelude.{codes}
use Rattle.std.specs.Option.{option_or}
use Rattle.tm_values.specs.declared.escape.AutoEscape.{AutoEscape}
use Rattle.tm_values.specs.declared.escape.AutoEscape.TheVariants as escapes
use Rattle.tm_delimiters.specs.Front.{after}
use Rattle.tm_meaning.specs.World.{or_is}
use Rattle.tm_templates.specs.declared.defaults.EscapeSetting.{EscapeSetting}
use Rattle.tm_templates.specs.declared.defaults.EscapeSetting.TheVariants as setting

-- the text before a word if the text ends with it
abbrev pub before : List ℕ → List ℕ → Option (List ℕ)
before word text = option_map reverse (after (reverse word) (reverse text))

-- a name without one ending that only marks a template
abbrev pub stem_of : List ℕ → List ℕ
stem_of name = or_is (option_or (before (codes ".j2") name) (option_or (before (codes ".jinja2") name) (before (codes ".jinja") name))) name

abbrev pub is_nothing : List ℕ → Bool
is_nothing [] = true
is_nothing (c ∷ cs) = false

-- the text before a word is empty or ends with a dot
abbrev pub is_up_to_dot : Option (List ℕ) → Bool
is_up_to_dot None = false
is_up_to_dot (Some front) = is_nothing front || is_some (before (codes ".") front)

-- whether a word without a dot is what follows the last dot, or the whole text if it has no dot
abbrev pub has_ending : List ℕ → List ℕ → Bool
has_ending stem word = is_up_to_dot (before word stem)

abbrev pub is_markup : List ℕ → Bool
is_markup stem = has_ending stem (codes "html") || has_ending stem (codes "htm") || has_ending stem (codes "xml")

abbrev pub is_data : List ℕ → Bool
is_data stem =
    has_ending stem (codes "json") || has_ending stem (codes "json5") || has_ending stem (codes "js") || has_ending stem (codes "yaml")
    || has_ending stem (codes "yml")

abbrev pub escape_by_name : List ℕ → AutoEscape
escape_by_name name = if is_markup (stem_of name) then escapes.Html else if is_data (stem_of name) then escapes.Json else escapes.None

-- the escape of the template of this name
abbrev pub escape_of : {R : Type 0} → (R → List ℕ → AutoEscape) → EscapeSetting R → List ℕ → AutoEscape
escape_of rules setting.ByName name = escape_by_name name
escape_of rules setting.Never name = escapes.None
escape_of rules (setting.Own rule) name = rules rule name
