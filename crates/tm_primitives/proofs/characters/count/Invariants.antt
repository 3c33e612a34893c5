use Rattle.std.proofs.Common.{◌≡◌, take}
use Rattle.std.specs.List.{count_by}
use Rattle.tm_primitives.specs.Characters.{starts_character}
use Rattle.tm_primitives.proofs.characters.count.Given as goal

abbrev pub invariant-loop-byte : goal.invariant-loop-byte
invariant-loop-byte l = l.count ≡ count_by starts_character (take l.byte-index l.text)
