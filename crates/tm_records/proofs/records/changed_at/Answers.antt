use Rattle.std.proofs.Common.{◌<◌, ap, ◌∙◌, arith, length, slice_set}
use Rattle.std.proofs.lemmas.Result.{on_ok_weaker}
use Rattle.tm_records.proofs.Turns.{keeping_there}
use Rattle.tm_records.proofs.records.changed_at.Goals as goal

pub returns-clause-now : goal.returns-clause-now
returns-clause-now c =
    let items = c.args.loops.now.items in
    let old = c.index_mut.result.now in
    let within : c.args.number < length items = omega (arith, c.if-number-len.false, c.len.ensures) in
    on_ok_weaker c.changed.result (λ now. ap (λ l. slice_set items c.args.number l) now
    ∙ keeping_there c.args.number c.args.args.now items old within c.index_mut.ensures.value) c.changed.ensures.now
