use Rattle.std.proofs.Common.{arith, ap, ◌∙◌, slice_get}
use Rattle.tm_meaning.proofs.Left.{spread-before, spread-from, spread-past}
use Rattle.tm_scopes.proofs.loops.LoopItems.get.Goals as goal
use Rattle.tm_scopes.specs.LoopItems.{items_of}

pub returns-then-index-count : goal.returns-then-index-count
returns-then-index-count c =
    ap (λ l. slice_get (items_of c.args.count l) c.args.index) c.in-Left.is
    ∙ spread-past c.args.count c.in-Left.turns c.args.index c.in-Left.before c.in-Left.after (omega (arith, c.if-index-count.true))

pub returns-then-index-turns : goal.returns-then-index-turns
returns-then-index-turns c =
    ap (λ l. slice_get (items_of c.args.count l) c.args.index) c.in-Left.is
    ∙ spread-before c.args.count c.in-Left.turns c.args.index c.in-Left.before c.in-Left.after
    (omega (arith, c.if-index-count.false)) (omega (arith, c.if-index-turns.true))

pub returns-else-index-turns : goal.returns-else-index-turns
returns-else-index-turns c =
    ap (λ l. slice_get (items_of c.args.count l) c.args.index) c.in-Left.is
    ∙ spread-from c.args.count c.in-Left.turns c.args.index c.in-Left.before c.in-Left.after
    (omega (arith, c.if-index-count.false)) (omega (arith, c.if-index-turns.false))
