-- Looking at the start of bytes.
use Rattle.std.specs.Prelude.{ℕ, List, [], ◌∷◌, Bool, true, nat_eq, nat_lt, ◌==◌, ◌||◌, Option, Some, None, option_map, if◌then◌else◌}
use Rattle.std.specs.Option.{option_or}

infixl 10 ◌>>=◌
abbrev pub ◌>>=◌ : {A B : Type 0} → Option A → (A → Option B) → Option B
None >>= f = None
(Some x) >>= f = f x

-- the rest after a word, if the bytes begin with it
abbrev pub after : List ℕ → List ℕ → Option (List ℕ)
after [] cs = Some cs
after (w ∷ ws) [] = None
after (w ∷ ws) (c ∷ cs) = if nat_eq w c then after ws cs else None

-- the bytes before the first place where something is found, and what is found there
abbrev pub first_of : {A : Type 0} → (List ℕ → Option A) → List ℕ → Option (List ℕ × A)
first_of find [] = option_map (λ x. ([], x)) (find [])
first_of find (c ∷ cs) =
    option_or (option_map (λ x. ([], x)) (find (c ∷ cs))) (option_map (λ r. (c ∷ r.0, r.1)) (first_of find cs))

-- the bytes before the first place where p holds, and the rest from there on
abbrev pub until : (List ℕ → Bool) → List ℕ → List ℕ × List ℕ
until p [] = ([], [])
until p (c ∷ cs) = if p (c ∷ cs) then ([], c ∷ cs) else (c ∷ (until p cs).0, (until p cs).1)

-- whether the first byte passes a test, or there is none
abbrev pub first_is : (ℕ → Bool) → List ℕ → Bool
first_is test [] = true
first_is test (c ∷ cs) = test c

-- the first byte, if it is ASCII
abbrev pub ascii : List ℕ → Option (ℕ × List ℕ)
ascii [] = None
ascii (c ∷ cs) = if nat_lt c 128 then Some (c, cs) else None

-- A blank is a space, a tab, a newline, a carriage return or a form feed.
abbrev pub is_blank : ℕ → Bool
is_blank c = (c == 32) || (c == 9) || (c == 10) || (c == 13) || (c == 12)

abbrev pub past_blanks : List ℕ → List ℕ
past_blanks [] = []
past_blanks (c ∷ cs) = if is_blank c then past_blanks cs else c ∷ cs
