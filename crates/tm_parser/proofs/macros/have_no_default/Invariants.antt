use Rattle.std.proofs.Common.{◌≡◌, drop}
use Rattle.tm_parser.specs.Statements.{have_no_default}
use Rattle.tm_parser.proofs.macros.have_no_default.Given as goal

abbrev pub invariant-loop-parameter : goal.invariant-loop-parameter
invariant-loop-parameter l = have_no_default (drop l.parameter-index l.parameters) ≡ have_no_default l.parameters
