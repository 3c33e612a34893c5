use Rattle.std.proofs.Common.{◌≡◌, ◌<◌, ◌++◌, length}
use Rattle.std.specs.List.{All}
use Rattle.std.specs.String.{string_bytes}
use Rattle.tm_primitives.specs.Characters.{picked}
use Rattle.tm_primitives.proofs.characters.pick_bytes.Given as goal

-- what is written, and then what is still to be picked, is the whole
abbrev pub invariant-loop-place : goal.invariant-loop-place
invariant-loop-place l = record {
  inside : All (λ p. p < length l.text) l.places;
  whole : string_bytes l.out ++ picked l.text l.places ≡ picked l.text l.fn.places;
}

abbrev pub decreases-loop-place : goal.decreases-loop-place
decreases-loop-place l = length l.places
