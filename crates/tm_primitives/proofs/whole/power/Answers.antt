use Rattle.std.proofs.lemmas.Grind.{common_steps}
use Rattle.std.proofs.Common.{rules, arith}
use Rattle.tm_primitives.proofs.whole.power.Goals as goal

pub returns-then-exponent-lt0 : goal.returns-then-exponent-lt0
returns-then-exponent-lt0 c = search rules fits 100

pub returns-in-Ok : goal.returns-in-Ok
returns-in-Ok c = grind (arith, common_steps)

pub returns-in-Err : goal.returns-in-Err
returns-in-Err c = search rules fits 100
