use Rattle.std.proofs.Common.{rules}
use Rattle.tm_runs.proofs.operands.counted_whole.Goals as goal

pub returns-in_default-clause-none : goal.returns-in_default-clause-none
returns-in_default-clause-none c = search rules fits 100
