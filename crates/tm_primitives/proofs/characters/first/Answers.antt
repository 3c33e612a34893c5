use Rattle.std.proofs.Common.{ℕ, ap, ◌∙◌, take, arith}
use Rattle.tm_primitives.proofs.Texts.{rest_short, cut_boundary, first_is}
use Rattle.tm_primitives.proofs.characters.first.Goals as goal

pub overflow_sub-text : goal.overflow_sub-text
overflow_sub-text c = rest_short c.args.text.now c.skip.result.now c.args.count c.utf8.text c.skip.utf8 c.skip.ensures

pub range-requires-clause-end_boundary : goal.range-requires-clause-end_boundary
range-requires-clause-end_boundary c = cut_boundary c.args.text.now c.skip.result.now c.args.count c.utf8.text c.skip.utf8 c.skip.ensures

pub returns : goal.returns
returns c =
    first_is c.args.text.now c.skip.result.now c.range.result.now c.args.count c.utf8.text c.skip.utf8 c.range.utf8 c.skip.ensures
    (c.range.ensures.value ∙ ap (λ (k : ℕ). take k c.args.text.now) (omega arith))
