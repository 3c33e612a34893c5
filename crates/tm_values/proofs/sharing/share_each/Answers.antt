use Rattle.std.proofs.lemmas.Grind.{common_steps}
use Rattle.std.proofs.Common.{rules, arith}
use Rattle.tm_values.proofs.sharing.share_each.Goals as goal

pub returns-in_err-reserve-clause-items : goal.returns-in_err-reserve-clause-items
returns-in_err-reserve-clause-items c = search rules fits 100

pub returns-in_err-reserve-clause-memory : goal.returns-in_err-reserve-clause-memory
returns-in_err-reserve-clause-memory c = search rules fits 100

pub returns-in_err-share-clause-items : goal.returns-in_err-share-clause-items
returns-in_err-share-clause-items c = search rules fits 100

pub returns-in_err-share-clause-memory : goal.returns-in_err-share-clause-memory
returns-in_err-share-clause-memory c = search rules fits 100

pub returns-in_err-push-clause-items : goal.returns-in_err-push-clause-items
returns-in_err-push-clause-items c = search rules fits 100

pub returns-in_err-push-clause-memory : goal.returns-in_err-push-clause-memory
returns-in_err-push-clause-memory c = search rules fits 100

pub returns-clause-items : goal.returns-clause-items
returns-clause-items c = grind (arith, common_steps)

pub returns-clause-memory : goal.returns-clause-memory
returns-clause-memory c = search rules fits 100
