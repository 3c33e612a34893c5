-- The messages on standard error, and the exit status.
use Rattle.std.specs.Prelude.{◌≡◌, ℕ, ◌<◌, ◌-◌, ◌^◌, List, [], ◌∷◌, ◌++◌, codes, Option, Result, MatchResult}
use Rattle.std.specs.Io.KnownBytes.{Appends}
use Rattle.tm_values.specs.Name.{kind_name}
use Rattle.tm_values.specs.declared.error.ErrorKind.{ErrorKind}
use Rattle.tm_values.specs.declared.error.ErrorKind.TheVariants as kind
use Rattle.tm_output.specs.Counts.{Tally, saturating_increment, AppendsBeginning}
use Rattle.mj_words.specs.CommandLine.{Text}
use Rattle.mj_words.specs.declared.arguments.Refusal.{Refusal}
use Rattle.mj_words.specs.declared.arguments.Refusal.TheVariants.{Usage, OutOfMemory}

-- a word and a kind, as a line
abbrev pub line : Text → ErrorKind → Text
line word kind = word ++ (kind_name kind ++ 10 ∷ [])

abbrev pub causes : List ErrorKind → Text
causes [] = []
causes (kind ∷ kinds) = line (codes "cause: ") kind ++ causes kinds

-- an error of this kind with these causes, one per line
abbrev pub message : ErrorKind → List ErrorKind → Text
message kind kinds = line (codes "error: ") kind ++ causes kinds

-- the usage line
abbrev pub usage : Text
usage = codes "usage: mj [-D name=text].. [--json FILE] [--fuel N] [--limit N] FILE..\n"

abbrev pub refusal_message : Refusal → Text
refusal_message Usage = usage
refusal_message OutOfMemory = message kind.OutOfMemory []

-- the exit status if nothing can be run
abbrev pub refusal_status : Refusal → ℕ
refusal_status Usage = 2
refusal_status OutOfMemory = 1

-- The writer got the text; or it failed, and got a beginning of the text.
abbrev pub IsWritten : {W E : Type 0} → (W → Option Text) → Result (Unit {0}) E → Tally W → Tally W → Text → Type 0
IsWritten contents result old new text =
    MatchResult result
    (λ _. Appends (contents old.writer) (contents new.writer) text × (new.failures ≡ old.failures))
    (λ _. AppendsBeginning (contents old.writer) (contents new.writer) text × (new.failures ≡ saturating_increment old.failures))

-- The writer got a beginning of the text, and all of it if its count of failures didn't rise. A
-- count at the largest value says nothing.
abbrev pub IsTold : {W : Type 0} → (W → Option Text) → Tally W → Tally W → Text → Type 0
IsTold contents old new text =
    AppendsBeginning (contents old.writer) (contents new.writer) text
    × (old.failures < 2 ^ 64 - 1 → new.failures ≡ old.failures → Appends (contents old.writer) (contents new.writer) text)
