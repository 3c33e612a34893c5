use Rattle.std.proofs.lemmas.Grind.{common_steps}
use Rattle.std.proofs.Common.{rules, arith}
use Rattle.tm_operations.proofs.iteration.items_or.Goals as goal

pub returns-in_err-clone-in-List : goal.returns-in_err-clone-in-List
returns-in_err-clone-in-List g c = search rules fits 100

pub returns-in-Macro : goal.returns-in-Macro
returns-in-Macro g c = search rules fits 100

pub returns-in-Loop : goal.returns-in-Loop
returns-in-Loop g c = search rules fits 100

pub returns-in-Some : goal.returns-in-Some
returns-in-Some g c = search rules fits 100

pub returns-in-None : goal.returns-in-None
returns-in-None g c = search rules fits 100

pub returns-in_default : goal.returns-in_default
returns-in_default g c = grind (arith, common_steps)
