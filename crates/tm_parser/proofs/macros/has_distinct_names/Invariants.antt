use Rattle.std.proofs.Common.{◌≡◌, ◌++◌, drop}
use Rattle.tm_syntax.specs.Names.{parameter_names}
use Rattle.tm_parser.specs.Distinct.{texts}
use Rattle.tm_parser.proofs.macros.has_distinct_names.Given as goal

abbrev pub invariant-loop-parameter : goal.invariant-loop-parameter
invariant-loop-parameter l = texts l.names.items ++ parameter_names (drop l.parameter-index l.parameters) ≡ parameter_names l.parameters
