use Rattle.std.proofs.lemmas.Grind.{common_steps}
use Rattle.std.proofs.Common.{rules, arith}
use Rattle.tm_operations.proofs.iteration.keys.Goals as goal

pub returns-in_err-keys : goal.returns-in_err-keys
returns-in_err-keys c = search rules fits 100

pub returns-in_err-share : goal.returns-in_err-share
returns-in_err-share c = search rules fits 100

pub returns-in_err-push : goal.returns-in_err-push
returns-in_err-push c = search rules fits 100

pub returns-in_err-new : goal.returns-in_err-new
returns-in_err-new c = search rules fits 100

pub returns : goal.returns
returns c = grind (arith, common_steps)

pub loop-pair-preserved : goal.loop-pair-preserved
loop-pair-preserved c = grind (arith, common_steps)
