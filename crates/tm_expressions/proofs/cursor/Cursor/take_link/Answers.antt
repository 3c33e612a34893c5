use Rattle.std.proofs.Common.{arith}
use Rattle.std.proofs.lemmas.Grind.{common_steps}
use Rattle.tm_expressions.proofs.cursor.Cursor.take_link.Goals as goal

pub returns-in-Some : goal.returns-in-Some
returns-in-Some c = grind (arith, common_steps)

pub returns-in_default-found : goal.returns-in_default-found
returns-in_default-found c = grind (arith, common_steps)
