use Rattle.std.proofs.Common.{◌≡◌, ◌++◌, drop}
use Rattle.tm_shapes.specs.Accepts.{all_seeds, entry_seeds_from}
use Rattle.tm_shapes.specs.Searched.{seeds_of}
use Rattle.tm_shapes.proofs.verifier.all_seeds.Given as goal

-- Those of what was read, and those of what is left.
abbrev pub invariant-loop-instruction : goal.invariant-loop-instruction
invariant-loop-instruction l =
    seeds_of l.seeds.items ++ entry_seeds_from l.before (drop l.instruction-index l.code) ≡ all_seeds l.code
