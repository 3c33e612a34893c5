use Rattle.std.proofs.lemmas.Grind.{common_steps}
use Rattle.std.proofs.Common.{rules, arith}
use Rattle.tm_operations.proofs.members.loop_attribute.Goals as goal

pub returns-then-eq : goal.returns-then-eq
returns-then-eq c = search rules fits 100

pub returns-then-eq-2 : goal.returns-then-eq-2
returns-then-eq-2 c = search rules fits 100

pub returns-then-eq-3 : goal.returns-then-eq-3
returns-then-eq-3 c = search rules fits 100

pub returns-then-eq-4 : goal.returns-then-eq-4
returns-then-eq-4 c = search rules fits 100

pub returns-then-eq-5 : goal.returns-then-eq-5
returns-then-eq-5 c = search rules fits 100

pub returns-then-eq-6 : goal.returns-then-eq-6
returns-then-eq-6 c = search rules fits 100

pub returns-then-eq-7 : goal.returns-then-eq-7
returns-then-eq-7 c = search rules fits 100

pub returns-then-eq-8 : goal.returns-then-eq-8
returns-then-eq-8 c = search rules fits 100

pub returns-then-eq-9 : goal.returns-then-eq-9
returns-then-eq-9 c = search rules fits 100

pub returns-then-eq-10 : goal.returns-then-eq-10
returns-then-eq-10 c = search rules fits 100

pub returns-then-eq-11 : goal.returns-then-eq-11
returns-then-eq-11 c = search rules fits 100

pub returns-else-eq-11 : goal.returns-else-eq-11
returns-else-eq-11 c = grind (arith, common_steps)
