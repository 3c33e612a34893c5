-- Definitions for the results of calls.
use Rattle.std.specs.Prelude.{◌≡◌, List, ◌∷◌, Bool, true, false}
use Rattle.tm_values.specs.declared.error.ErrorKind.{ErrorKind}
use Rattle.tm_values.specs.declared.error.ErrorKind.TheVariants.{InvalidOperation}
use Rattle.tm_meaning.specs.Memory.{is_want_of_memory}
use Rattle.tm_meaning.specs.declared.reply.Call.{Call}
use Rattle.tm_meaning.specs.declared.reply.Call.TheVariants as calls
use Rattle.tm_meaning.specs.declared.run_text.RunText.{RunText}
use Rattle.tm_meaning.specs.declared.run_text.RunText.TheVariants as texts

-- The error is InvalidOperation with this cause, unless it is OutOfMemory.
abbrev pub IsBecause : List ErrorKind → List ErrorKind → Type 0
IsBecause cause chain = is_want_of_memory chain ≡ false → chain ≡ InvalidOperation ∷ cause

-- how the text of a run becomes a value: for a test and otherwise
abbrev pub text_for : Bool → RunText
text_for false = texts.Plain
text_for true = texts.Truth

-- whether a further call calls a macro
abbrev pub is_macro : Call → Bool
is_macro (calls.Macro x args) = true
is_macro _ = false
