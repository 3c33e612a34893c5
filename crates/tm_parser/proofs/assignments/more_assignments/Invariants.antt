use Rattle.std.proofs.Common.{◌≡◌, length}
use Rattle.tm_syntax.specs.declared.token.Sign.TheVariants as sign
use Rattle.tm_expressions.specs.Grammar.{inside, more_items}
use Rattle.tm_parser.specs.Statements.{assignment}
use Rattle.tm_parser.proofs.assignments.more_assignments.Given as goal

abbrev pub invariant-loop-alloc : goal.invariant-loop-alloc
invariant-loop-alloc l = (more_items sign.BlockEnd (assignment (inside l.depth)) l.assignments).reads l.cursor ≡
    (more_items sign.BlockEnd (assignment (inside l.depth)) l.fn.first).reads l.fn.cursor

abbrev pub decreases-loop-alloc : goal.decreases-loop-alloc
decreases-loop-alloc l = length l.cursor
