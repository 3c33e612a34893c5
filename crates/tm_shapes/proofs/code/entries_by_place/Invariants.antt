use Rattle.std.proofs.Common.{◌≡◌, drop}
use Rattle.tm_syntax.specs.Entries.{entries, entries_from}
use Rattle.tm_shapes.proofs.code.entries_by_place.Given as goal

abbrev pub invariant-loop-instruction : goal.invariant-loop-instruction
invariant-loop-instruction l =
    entries_from l.found.entries l.before (drop l.instruction-index l.instructions) ≡ entries l.instructions
