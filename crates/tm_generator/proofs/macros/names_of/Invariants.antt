use Rattle.std.proofs.Common.{◌≡◌, ◌++◌, drop, false, map as each}
use Rattle.tm_values.specs.Val.{text}
use Rattle.tm_syntax.specs.Names.{parameter_names}
use Rattle.tm_generator.proofs.macros.names_of.Given as goal

abbrev pub invariant-loop-parameter : goal.invariant-loop-parameter
invariant-loop-parameter l =
    l.names.items ++ each (λ x. text x false) (parameter_names (drop l.parameter-index l.parameters))
    ≡ each (λ x. text x false) (parameter_names l.parameters)
