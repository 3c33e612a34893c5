-- Texts by their characters.
use Rattle.std.specs.Prelude.{◌≡◌, ◌<◌, ◌||◌, ℕ, ℤ, Option, Bool, nat_lt, List, length, map, slice_index}
use Rattle.std.specs.Char.{encode_utf8}
use Rattle.std.specs.Str.{chars, encode_utf8_all}
use Rattle.tm_primitives.specs.Places.{places_of}

-- the byte begins a character: it is ASCII, or the first of several
abbrev pub starts_character : ℕ → Bool
starts_character b = nat_lt b 128 || nat_lt 191 b

-- the bytes are those of the text's character at the place
abbrev pub IsCharacterAt : ℕ → List ℕ → List ℕ → Type 0
IsCharacterAt place text bytes =
    (place < length (chars text)) × (bytes ≡ encode_utf8 (slice_index (chars text) place))

-- the bytes of those of the characters that stand at these places
abbrev pub picked : List ℕ → List ℕ → List ℕ
picked cs places = encode_utf8_all (map (slice_index cs) places)

-- the bytes of those of the characters that a slice takes
abbrev pub sliced : List ℕ → Option ℤ → Option ℤ → ℤ → List ℕ
sliced cs start stop step = picked cs (places_of (length cs) start stop step)
