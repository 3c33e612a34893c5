use Rattle.std.proofs.Common.{rules}
use Rattle.tm_values.specs.Agreement.{values_agree}
use Rattle.tm_values.proofs.order.ValuePartialEq.eq.Goals as goal

pub returns : goal.returns
returns c = rw (values_agree c.args.self.now c.args.other.now) (search rules)
