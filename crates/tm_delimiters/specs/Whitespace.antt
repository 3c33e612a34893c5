-- The marks `-` and `+` next to delimiters.
use Rattle.std.specs.Prelude.{ℕ, List, [], ◌∷◌, Bool, nat_eq, Option, is_some, option_map, codes, if◌then◌else◌, ◌==◌}
use Rattle.std.specs.Option.{option_or}
use Rattle.std.specs.List.{ends_with}
use Rattle.tm_delimiters.specs.declared.whitespace.Whitespace.{Whitespace}
use Rattle.tm_delimiters.specs.declared.whitespace.Whitespace.TheVariants as whitespace
use Rattle.tm_delimiters.specs.Front.{after, first_of, is_blank, until}

-- the mark at the start, and the rest after it
abbrev pub whitespace_at : List ℕ → Whitespace × List ℕ
whitespace_at [] = (whitespace.Default, [])
whitespace_at (c ∷ cs) =
    if c == 45 then (whitespace.Remove, cs) else (if c == 43 then (whitespace.Preserve, cs) else (whitespace.Default, c ∷ cs))

abbrev pub ended_by : Whitespace → List ℕ → List ℕ → Option (Whitespace × List ℕ)
ended_by w word cs = option_map (λ rest. (w, rest)) (after word cs)

-- the end delimiter at the start, with an optional mark before it, and the rest after it
abbrev pub ending : List ℕ → List ℕ → Option (Whitespace × List ℕ)
ending end cs =
    option_or (ended_by whitespace.Default end cs)
    (option_or (ended_by whitespace.Remove (45 ∷ end) cs) (ended_by whitespace.Preserve (43 ∷ end) cs))

abbrev pub ends_here : List ℕ → List ℕ → Bool
ends_here end cs = is_some (ending end cs)

-- the bytes before the first end delimiter, with an optional mark before that, and the rest from
-- there on
abbrev pub to_end : List ℕ → List ℕ → List ℕ × List ℕ
to_end end cs = until (ends_here end) cs

-- the rest after the blanks before an end delimiter
abbrev pub past_blanks_to : List ℕ → List ℕ → List ℕ
past_blanks_to end [] = []
past_blanks_to end (c ∷ cs) =
    if is_blank c then (if ends_here end (c ∷ cs) then c ∷ cs else past_blanks_to end cs) else c ∷ cs

-- the mark at the end of the bytes
abbrev pub last_whitespace : List ℕ → Whitespace
last_whitespace cs =
    if ends_with nat_eq cs (codes "-") then whitespace.Remove
    else (if ends_with nat_eq cs (codes "+") then whitespace.Preserve else whitespace.Default)

-- A comment ends at its first end delimiter: the mark before that, and the rest after it.
abbrev pub comment_end : List ℕ → List ℕ → Option (Whitespace × List ℕ)
comment_end end cs = option_map (λ x. (last_whitespace x.0, x.1)) (first_of (after end) cs)
