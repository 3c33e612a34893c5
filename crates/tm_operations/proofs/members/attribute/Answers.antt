use Rattle.std.proofs.lemmas.Grind.{common_steps}
use Rattle.std.proofs.Common.{rules, arith}
use Rattle.tm_operations.proofs.members.attribute.Goals as goal

pub returns-in-Undefined : goal.returns-in-Undefined
returns-in-Undefined g c = search rules fits 100

pub returns-in-Macro : goal.returns-in-Macro
returns-in-Macro g c = search rules fits 100

pub returns-in-Loop : goal.returns-in-Loop
returns-in-Loop g c = search rules fits 100

pub returns-in-Some : goal.returns-in-Some
returns-in-Some g c = search rules fits 100

pub returns-in-None : goal.returns-in-None
returns-in-None g c = search rules fits 100

pub returns-in_default : goal.returns-in_default
returns-in_default g c = grind (arith, common_steps)

pub returns-in-Map : goal.returns-in-Map
returns-in-Map g c = grind (arith, common_steps)
