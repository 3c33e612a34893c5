use Rattle.std.proofs.lemmas.Grind.{common_steps}
use Rattle.std.proofs.Common.{rules, arith}
use Rattle.tm_operations.proofs.members.item.Goals as goal

pub returns-in-Undefined : goal.returns-in-Undefined
returns-in-Undefined g c = search rules fits 100

pub returns-in-Text : goal.returns-in-Text
returns-in-Text g c = search rules fits 100

pub returns-in-Some : goal.returns-in-Some
returns-in-Some g c = search rules fits 100

pub returns-in-None : goal.returns-in-None
returns-in-None g c = search rules fits 100

pub returns-in-Loop : goal.returns-in-Loop
returns-in-Loop g c = search rules fits 100

pub returns-in-Some-find_namespace : goal.returns-in-Some-find_namespace
returns-in-Some-find_namespace g c = search rules fits 100

pub returns-in-None-find_namespace : goal.returns-in-None-find_namespace
returns-in-None-find_namespace g c = search rules fits 100

pub returns-in_default : goal.returns-in_default
returns-in_default g c = grind (arith, common_steps)
