use Rattle.std.proofs.Common.{arith}
use Rattle.tm_parser.proofs.Calls.{calls_of_loop}
use Rattle.tm_parser.proofs.emissions.is_call_of_loop.Goals as goal

pub returns-then-not-is_empty : goal.returns-then-not-is_empty
returns-then-not-is_empty c = grind (arith, calls_of_loop)

pub returns-else-not-is_empty : goal.returns-else-not-is_empty
returns-else-not-is_empty c = grind (arith, calls_of_loop)
