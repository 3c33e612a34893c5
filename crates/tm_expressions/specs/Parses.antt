-- The result of a parser's method, compared with what a rule reads.
use Rattle.std.specs.Prelude.{◌≡◌, List, Option, Some, None, Result, Ok, Err, Bool, true, false}
use Rattle.tm_values.specs.declared.error.ErrorKind.{ErrorKind}
use Rattle.tm_values.specs.Answer.{Refused}
use Rattle.tm_grammar.specs.Meanings.{Read, got}

-- The value and the rest are what was read; if nothing was read, the result is the refusal.
abbrev pub Parses : {T A : Type 0} → Result A (List ErrorKind) → List T → Read T A → Type 0
Parses (Ok x) left read = read ≡ got x left
Parses (Err chain) left read = Refused chain (read ≡ None)

-- What came next was taken; or it wasn't there.
abbrev pub TakesFirst : {T A : Type 0} → Option A → List T → List T → Read T A → Type 0
TakesFirst None before after seen = (seen ≡ None) × (after ≡ before)
TakesFirst (Some x) before after seen = seen ≡ got x after

abbrev pub TakesSign : {T : Type 0} → Bool → List T → List T → Read T (Unit {0}) → Type 0
TakesSign false before after seen = (seen ≡ None) × (after ≡ before)
TakesSign true before after seen = seen ≡ got tt after

-- The same for a method that changes its argument.
abbrev pub Adds : {T A : Type 0} → Result (Unit {0}) (List ErrorKind) → A → List T → Read T A → Type 0
Adds (Ok x) given left read = read ≡ got given left
Adds (Err chain) given left read = Refused chain (read ≡ None)

-- The result, and what is still to be parsed after it, are what was read; if nothing was read, the
-- result is the refusal.
abbrev pub Leads : {T A B : Type 0} → Result A (List ErrorKind) → List T → (A → List T → Read T B) → Read T B → Type 0
Leads (Ok x) rest left read = left x rest ≡ read
Leads (Err chain) rest left read = Refused chain (read ≡ None)
