use Rattle.std.proofs.Common.{◌≡◌, ◌++◌}
use Rattle.tm_shapes.proofs.code.entries_of.Given as goal

abbrev pub invariant-loop-place : goal.invariant-loop-place
invariant-loop-place l = l.found.items ++ l.place-iterator ≡ l.initial.place-iterator
