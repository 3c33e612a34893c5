use Rattle.std.proofs.Common.{rules}
use Rattle.tm_definitions.proofs.ByOrder.{met-by_order}
use Rattle.tm_operations.proofs.comparisons.compare.Goals as goal

pub returns-in_err-check_defined : goal.returns-in_err-check_defined
returns-in_err-check_defined c = search rules fits 100

pub returns-in_err-check_defined-2 : goal.returns-in_err-check_defined-2
returns-in_err-check_defined-2 c = search rules

pub returns : goal.returns
returns c = rw (met-by_order c.args.comparison c.args.left.now c.args.right.now) (search rules)
