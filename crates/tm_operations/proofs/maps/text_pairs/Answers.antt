use Rattle.std.proofs.lemmas.Grind.{common_steps}
use Rattle.std.proofs.Common.{rules, arith}
use Rattle.tm_operations.proofs.maps.text_pairs.Goals as goal

pub returns-in_err-share : goal.returns-in_err-share
returns-in_err-share c = search rules fits 100

pub returns-in_err-share-2 : goal.returns-in_err-share-2
returns-in_err-share-2 c = search rules fits 100

pub returns-in_err-push : goal.returns-in_err-push
returns-in_err-push c = search rules fits 100

pub returns : goal.returns
returns c = grind (arith, common_steps)

pub loop-pair-preserved : goal.loop-pair-preserved
loop-pair-preserved c = grind (arith, common_steps)
