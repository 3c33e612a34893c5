use Rattle.std.proofs.Common.{rules}
use Rattle.tm_values.specs.Agreement.{items_agree}
use Rattle.tm_values.specs.Val.{vals_of}
use Rattle.tm_values.proofs.order.same_items.Goals as goal

pub returns : goal.returns
returns c = rw (items_agree (vals_of c.args.left.now) (vals_of c.args.right.now)) (search rules)
