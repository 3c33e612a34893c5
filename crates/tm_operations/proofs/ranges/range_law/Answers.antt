use Rattle.tm_operations.proofs.Counted.{stepped, before, whole}
use Rattle.tm_operations.proofs.ranges.range_law.Goals as goal

pub returns : goal.returns
returns c = record { stepped = stepped; before = before; whole = whole }
