use Rattle.std.proofs.Common.{◌<◌, ap, ◌∙◌, arith, length, slice_set}
use Rattle.std.proofs.lemmas.Result.{on_ok_weaker}
use Rattle.tm_records.proofs.Turns.{leaving_past, leaving_there}
use Rattle.tm_records.proofs.records.leave_at.Goals as goal

pub returns-then-number-len-clause-ok : goal.returns-then-number-len-clause-ok
returns-then-number-len-clause-ok c = leaving_past c.args.number c.args.loops.now.items (omega (arith, c.if-number-len.true, c.len.ensures))

pub returns-clause-ok : goal.returns-clause-ok
returns-clause-ok c =
    let items = c.args.loops.now.items in
    let old = c.index_mut.result.now in
    let within : c.args.number < length items = omega (arith, c.if-number-len.false, c.len.ensures) in
    on_ok_weaker c.leave.result (λ now. ap (λ l. slice_set items c.args.number l) now
    ∙ leaving_there c.args.number items old within c.index_mut.ensures.value) c.leave.ensures.ok
