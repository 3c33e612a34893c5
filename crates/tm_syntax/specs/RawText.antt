-- Raw texts as ranges of a source.
use Rattle.std.specs.Prelude.{ℕ, List, ◌≡◌, ◌≤◌, ◌<◌, slice_range}
use Rattle.std.specs.Str.{IsCharBoundary}

-- the range can be cut out of the source: both ends are character boundaries
abbrev pub IsRange : List ℕ → ℕ → ℕ → Type 0
IsRange source start end =
    (start ≤ end) × (0 < start → IsCharBoundary source start) × IsCharBoundary source end

-- a range that contains this text
abbrev pub IsSlice : List ℕ → ℕ → ℕ → List ℕ → Type 0
IsSlice source start end text =
    IsRange source start end × (slice_range source start end ≡ text)
