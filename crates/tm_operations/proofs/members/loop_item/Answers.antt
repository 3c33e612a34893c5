use Rattle.std.proofs.lemmas.Grind.{common_steps}
use Rattle.std.proofs.Common.{rules, arith}
use Rattle.tm_operations.proofs.members.loop_item.Goals as goal

pub returns-in-Some : goal.returns-in-Some
returns-in-Some g c = grind (arith, common_steps)

pub returns-in-Some-find_loop : goal.returns-in-Some-find_loop
returns-in-Some-find_loop g c = search rules fits 100

pub returns-in-None-find_loop : goal.returns-in-None-find_loop
returns-in-None-find_loop g c = search rules fits 100
