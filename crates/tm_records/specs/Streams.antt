-- Definitions for streams that declared macros.
use Rattle.std.specs.Prelude.{◌≡◌, List, [], ◌∷◌, false}
use Rattle.tm_meaning.specs.World.{is_there}
use Rattle.tm_meaning.specs.declared.stream.StreamId.{StreamId}

-- no stream is there twice
abbrev pub AreDistinct : List StreamId → Type 0
AreDistinct [] = Unit {0}
AreDistinct (s ∷ ss) = (is_there s ss ≡ false) × AreDistinct ss
