-- What becomes of a target that is given a text.
use Rattle.std.specs.Prelude.{◌≡◌, ℕ, List, [], ◌++◌, take, Result, MatchResult}
use Rattle.std.specs.Io.KnownBytes.{Appends}
use Rattle.tm_output.specs.Counts.{AppendsBeginning, NoFailure, OneFailure, Told}

-- a target took the whole text if the result is Ok, and a beginning of it if it failed
abbrev pub Takes :
    {T U E : Type 0} → (T → List ℕ → T → Type 0) → (T → List ℕ → T → Type 0)
    → Result U E → T → List ℕ → T → Type 0
Takes took stopped r old text new =
    MatchResult r (λ _. took old text new) (λ _. stopped old text new)

-- the laws of every target: the empty text changes nothing, writing two texts writes the
-- concatenated text, and a beginning of a text is also one of a longer text
pub record Laws {T : Type 0} (took stopped : T → List ℕ → T → Type 0) : Type 0 where
  pub nothing : (a : T) → took a [] a
  pub then_took : (a b c : T) (s t : List ℕ) → took a s b → took b t c → took a (s ++ t) c
  pub then_stopped : (a b c : T) (s t : List ℕ) → took a s b → stopped b t c → stopped a (s ++ t) c
  pub longer : (a b : T) (s t : List ℕ) → stopped a s b → stopped a (s ++ t) b

-- the text is appended to the bytes of a string
abbrev pub Grows : List ℕ → List ℕ → List ℕ → Type 0
Grows old text new = new ≡ old ++ text

-- a beginning of the text is appended to the bytes of a string
abbrev pub GrowsInPart : List ℕ → List ℕ → List ℕ → Type 0
GrowsInPart old text new = (n : ℕ) × (new ≡ old ++ take n text)

-- the same for a string before and after, by its bytes
abbrev pub StringGrows : {S : Type 0} → (S → List ℕ) → S → List ℕ → S → Type 0
StringGrows bytes old text new = Grows (bytes old) text (bytes new)

abbrev pub StringGrowsInPart : {S : Type 0} → (S → List ℕ) → S → List ℕ → S → Type 0
StringGrowsInPart bytes old text new = GrowsInPart (bytes old) text (bytes new)

-- a writer was given the text, and no call failed
abbrev pub IsToldWhole : Told → List ℕ → Told → Type 0
IsToldWhole old text new = Appends old.bytes new.bytes text × NoFailure old new

-- a writer was given a beginning of the text, and a call failed
abbrev pub IsToldInPart : Told → List ℕ → Told → Type 0
IsToldInPart old text new =
    AppendsBeginning old.bytes new.bytes text × OneFailure old new

-- the same of a writer, before and after, seen by what it was told
abbrev pub WriterTakes : {S : Type 0} → (S → Told) → S → List ℕ → S → Type 0
WriterTakes told old text new = IsToldWhole (told old) text (told new)

abbrev pub WriterTakesInPart : {S : Type 0} → (S → Told) → S → List ℕ → S → Type 0
WriterTakesInPart told old text new = IsToldInPart (told old) text (told new)
