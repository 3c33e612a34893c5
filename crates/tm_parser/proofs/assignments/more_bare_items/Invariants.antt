use Rattle.std.proofs.Common.{◌≡◌, length}
use Rattle.tm_syntax.specs.declared.token.Sign.TheVariants as sign
use Rattle.tm_expressions.specs.Grammar.{inside, expr, more_items}
use Rattle.tm_parser.proofs.assignments.more_bare_items.Given as goal

abbrev pub invariant-loop-alloc : goal.invariant-loop-alloc
invariant-loop-alloc l = (more_items sign.BlockEnd (expr (inside l.depth)) l.items).reads l.cursor ≡
    (more_items sign.BlockEnd (expr (inside l.depth)) l.fn.first).reads l.fn.cursor

abbrev pub decreases-loop-alloc : goal.decreases-loop-alloc
decreases-loop-alloc l = length l.cursor
