use Rattle.std.proofs.Common.{sym, ◌∙◌, arith}
use Rattle.tm_values.proofs.Maps.{end-gap, less_by_index}
use Rattle.tm_values.proofs.map.is_above_all.Goals as goal

pub returns-in-Some : goal.returns-in-Some
returns-in-Some c = λ above.
    end-gap c.args.key.now c.args.pairs.now c.in-Some.last.now c.requires (c.in-Some.ensures.item.4 (omega arith))
    (sym c.compare.ensures ∙ less_by_index c.compare.result (sym c.eq.ensures ∙ above))
