-- Bytes that are spelled as themselves, and those that HTML spells another way.
use Rattle.std.specs.Prelude.{◌≡◌, ◌≤◌, ◌<◌, ◌==◌, ◌||◌, ℕ, Bool, List, [], ◌∷◌, slice_index}

-- the bytes from i up to j are spelled as themselves
abbrev pub PlainBetween : (ℕ → List ℕ) → List ℕ → ℕ → ℕ → Type 0
PlainBetween spelled bs i j =
    (k : ℕ) → i ≤ k → k < j → spelled (slice_index bs k) ≡ slice_index bs k ∷ []

-- whether HTML spells the byte another way
abbrev pub is_special : ℕ → Bool
is_special b = b == 60 || b == 62 || b == 38 || b == 34 || b == 39 || b == 47
