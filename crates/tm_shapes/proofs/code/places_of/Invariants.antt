use Rattle.std.proofs.Common.{◌≡◌, ◌++◌, drop}
use Rattle.tm_syntax.specs.Loops.{loop_places}
use Rattle.tm_shapes.proofs.code.places_of.Given as goal

abbrev pub invariant-loop-place : goal.invariant-loop-place
invariant-loop-place l = l.places.items ++ loop_places l.place (drop l.place l.instructions) ≡ loop_places 0 l.instructions
