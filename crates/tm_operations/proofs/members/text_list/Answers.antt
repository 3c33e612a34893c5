use Rattle.std.proofs.lemmas.Grind.{common_steps}
use Rattle.std.proofs.Common.{rules, arith}
use Rattle.tm_operations.proofs.members.text_list.Goals as goal

pub returns-in_err-values : goal.returns-in_err-values
returns-in_err-values c = search rules fits 100

pub returns-in_err-text : goal.returns-in_err-text
returns-in_err-text c = search rules fits 100

pub returns-in_err-push : goal.returns-in_err-push
returns-in_err-push c = search rules fits 100

pub returns : goal.returns
returns c = grind (arith, common_steps)
