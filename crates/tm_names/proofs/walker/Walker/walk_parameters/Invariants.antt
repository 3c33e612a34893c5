use Rattle.std.proofs.Common.{◌≡◌, drop}
use Rattle.tm_syntax.specs.Names.{walk_parameters}
use Rattle.tm_names.proofs.walker.Walker.walk_parameters.Given as goal

abbrev pub invariant-loop-parameter : goal.invariant-loop-parameter
invariant-loop-parameter l =
    walk_parameters l.nested (drop l.parameter-index l.parameters) l.self ≡ walk_parameters l.nested l.parameters l.fn.self
