use Rattle.std.proofs.Common.{◌≡◌, drop}
use Rattle.tm_shapes.specs.Accepts.{has_zero}
use Rattle.tm_shapes.proofs.verifier.has_zero.Given as goal

abbrev pub invariant-loop-instruction : goal.invariant-loop-instruction
invariant-loop-instruction l = has_zero (drop l.instruction-index l.code) ≡ has_zero l.code
