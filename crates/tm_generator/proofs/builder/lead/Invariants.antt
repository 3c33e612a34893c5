use Rattle.std.proofs.Common.{◌≡◌, drop}
use Rattle.tm_generator.specs.Building.{led}
use Rattle.tm_generator.proofs.builder.lead.Given as goal

abbrev pub invariant-loop-exit : goal.invariant-loop-exit
invariant-loop-exit l = led l.code (drop l.exit-index l.exits) l.again l.after ≡ led l.fn.code l.exits l.again l.after
