use Rattle.std.proofs.Common.{◌<◌, ap, ◌∙◌, arith, length, slice_set}
use Rattle.tm_records.proofs.Turns.{turned_past, turned_there}
use Rattle.tm_records.proofs.records.turn_at.Goals as goal

pub returns-then-number-len : goal.returns-then-number-len
returns-then-number-len c =
    let items = c.args.loops.now.items in
    let old = c.index_mut.result.now in
    let within : c.args.number < length items = omega (arith, c.if-number-len.true, c.len.ensures) in
    ap (λ l. slice_set items c.args.number l) c.turn.ensures ∙ turned_there c.args.number items old within c.index_mut.ensures.value

pub returns-else-number-len : goal.returns-else-number-len
returns-else-number-len c = turned_past c.args.number c.args.loops.now.items (omega (arith, c.if-number-len.false, c.len.ensures))
