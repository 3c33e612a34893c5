-- The results of functions, as bytes.
use Rattle.std.specs.Prelude.{◌≡◌, ◌≢◌, ◌⊎◌, ℕ, List, [], ◌∷◌, ◌++◌, ◌<◌, length, Option, Some, None, IfSome, encode_utf8}
use Rattle.std.specs.Borrow.{Bor}
use Rattle.std.specs.Str.{chars}
use Rattle.tm_delimiters.specs.Whitespace.{to_end}

-- a character and the rest after it; or the text is empty
abbrev pub IsFirst : Option (ℕ × Bor (List ℕ)) → List ℕ → Type 0
IsFirst None text = text ≡ []
IsFirst (Some x) text = (chars text ≡ x.0 ∷ chars x.1.now) × (text ≡ encode_utf8 x.0 ++ x.1.now)

abbrev pub place_of : Option (Bor (List ℕ)) → Option (List ℕ)
place_of None = None
place_of (Some x) = Some x.now

abbrev pub cut_of : Option (Bor (List ℕ) × Bor (List ℕ)) → Option (List ℕ × List ℕ)
cut_of None = None
cut_of (Some x) = Some (x.0.now, x.1.now)

abbrev pub step_of : {A : Type 0} → Option (A × Bor (List ℕ)) → Option (A × List ℕ)
step_of None = None
step_of (Some x) = Some (x.0, x.1.now)

-- The rest is shorter than the bytes.
abbrev pub Shortens : {A : Type 0} → Option (A × Bor (List ℕ)) → List ℕ → Type 0
Shortens r cs = IfSome r (λ x. length x.1.now < length cs)

-- three parts, the first and the last of which are texts
abbrev pub parts_of : {A : Type 0} → Option (Bor (List ℕ) × A × Bor (List ℕ)) → Option (List ℕ × (A × List ℕ))
parts_of None = None
parts_of (Some x) = Some (x.0.now, (x.1, x.2.now))

-- The bytes end with this rest.
abbrev pub IsRest : List ℕ → List ℕ → Type 0
IsRest rest cs = (gone : List ℕ) × (cs ≡ gone ++ rest)

-- The bytes are the front and then this mark.
abbrev pub EndsIn : ℕ → List ℕ → List ℕ → Type 0
EndsIn mark cs front = cs ≡ front ++ mark ∷ []

-- The front is the bytes without the mark `-` or `+` at their end, or all of the bytes if there is
-- no mark.
abbrev pub IsBeforeMark : List ℕ → List ℕ → Type 0
IsBeforeMark cs front =
    EndsIn 45 cs front
    ⊎ (EndsIn 43 cs front
    ⊎ ((cs ≡ front) × ((f : List ℕ) → cs ≢ f ++ 45 ∷ []) × ((f : List ℕ) → cs ≢ f ++ 43 ∷ [])))

-- The rest from the first end delimiter on, unless the bytes begin after that.
abbrev pub IsKnown : List ℕ → List ℕ → List ℕ → Type 0
IsKnown end cs known = (length cs < length known) ⊎ (known ≡ (to_end end cs).1)
