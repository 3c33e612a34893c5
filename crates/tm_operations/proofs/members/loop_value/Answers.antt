use Rattle.std.proofs.lemmas.Grind.{common_steps}
use Rattle.std.proofs.Common.{rules, arith}
use Rattle.tm_operations.proofs.members.loop_value.Goals as goal

pub returns-in-PrevItem : goal.returns-in-PrevItem
returns-in-PrevItem g c = search rules fits 100

pub returns-in-NextItem : goal.returns-in-NextItem
returns-in-NextItem g c = search rules fits 100

pub returns : goal.returns
returns g c = grind (arith, common_steps)
