use Rattle.std.proofs.Common.{◌≡◌, ◌++◌, ◌∷◌, None, drop}
use Rattle.tm_shapes.proofs.Searching.{nones}
use Rattle.tm_shapes.proofs.search.no_shapes.Given as goal

abbrev pub invariant-loop-instruction : goal.invariant-loop-instruction
invariant-loop-instruction l = l.shapes.items ++ nones (drop l._instruction-index l.code) ≡ None ∷ nones l.code
