use Rattle.std.proofs.Common.{◌≡◌, drop}
use Rattle.tm_generator.specs.Building.{settled}
use Rattle.tm_generator.proofs.builder.settle.Given as goal

abbrev pub invariant-loop-out : goal.invariant-loop-out
invariant-loop-out l = settled l.code (drop l.out-index l.outs) l.to ≡ settled l.fn.code l.outs l.to
