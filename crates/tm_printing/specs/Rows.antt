-- Worked values that no template can create, and their output.
use Rattle.std.specs.Prelude.{◌≡◌, ℕ, false, List, [], None, Ok, codes}
use Rattle.tm_values.specs.Answer.{Answer, refused}
use Rattle.tm_values.specs.Records.{no_records}
use Rattle.tm_values.specs.Val.{Val, macro}
use Rattle.tm_values.specs.declared.error.ErrorKind.{ErrorKind}
use Rattle.tm_values.specs.declared.error.ErrorKind.TheVariants.{BadSerialization, InvalidOperation}
use Rattle.tm_values.specs.declared.escape.AutoEscape.{AutoEscape}
use Rattle.tm_values.specs.declared.escape.AutoEscape.TheVariants as escape
use Rattle.tm_definitions.specs.Emitted.{emission_verdict, emitted_text, map_ok, text_answer}

-- the macro m
abbrev pub macro_m : Val
macro_m = macro (record {
  state = 0;
  stream = 0;
  entry = 0;
  closure = None;
  name = codes "m";
  arguments = [];
  caller = false;
})

-- the text emitted under an escape, or the error
abbrev pub emitted : AutoEscape → Val → Answer (List ℕ)
emitted e v = map_ok (λ _. emitted_text e no_records v) (emission_verdict e no_records v)

-- as plain text, as HTML and as JSON
abbrev pub WrittenAs : Val → Answer (List ℕ) → Answer (List ℕ) → Answer (List ℕ) → Type 0
WrittenAs v plain html json = (text_answer no_records v ≡ plain)
    × (emitted escape.Html v ≡ html) × (emitted escape.Json v ≡ json)

abbrev pub Thrice : Val → List ℕ → List ℕ → List ℕ → Type 0
Thrice v plain html json = WrittenAs v (Ok plain) (Ok html) (Ok json)

-- as plain text and as HTML, and BadSerialization as JSON
abbrev pub NotInJson : Val → List ℕ → List ℕ → Type 0
NotInJson v plain html = WrittenAs v (Ok plain) (Ok html) (refused BadSerialization)

-- InvalidOperation, and another error as JSON
abbrev pub Nowhere : Val → ErrorKind → Type 0
Nowhere v kind = WrittenAs v (refused InvalidOperation) (refused InvalidOperation) (refused kind)
