use Rattle.std.proofs.Common.{◌≡◌, drop}
use Rattle.tm_syntax.specs.Names.{is_among, parameter_names}
use Rattle.tm_names.proofs.macros.has_parameter.Given as goal

abbrev pub invariant-loop-parameter : goal.invariant-loop-parameter
invariant-loop-parameter l =
    is_among l.name (parameter_names (drop l.parameter-index l.parameters)) ≡ is_among l.name (parameter_names l.parameters)
