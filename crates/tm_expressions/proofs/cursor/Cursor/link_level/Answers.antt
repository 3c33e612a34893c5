use Rattle.std.proofs.Common.{arith}
use Rattle.std.proofs.lemmas.Grind.{common_steps}
use Rattle.tm_expressions.proofs.cursor.Cursor.link_level.Goals as goal

pub returns-then-level-end : goal.returns-then-level-end
returns-then-level-end c = grind (arith, common_steps)

pub returns-else-from-level : goal.returns-else-from-level
returns-else-from-level c = grind (arith, common_steps)

pub returns-in_err-level-in-Sign-2 : goal.returns-in_err-level-in-Sign-2
returns-in_err-level-in-Sign-2 c = grind (arith, common_steps)
