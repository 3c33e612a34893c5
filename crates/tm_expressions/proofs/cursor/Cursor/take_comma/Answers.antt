use Rattle.std.proofs.Common.{arith}
use Rattle.std.proofs.lemmas.Grind.{common_steps}
use Rattle.tm_expressions.proofs.cursor.Cursor.take_comma.Goals as goal

pub returns-then-take : goal.returns-then-take
returns-then-take c = grind (arith, common_steps)

pub returns-else-take : goal.returns-else-take
returns-else-take c = grind (arith, common_steps)
