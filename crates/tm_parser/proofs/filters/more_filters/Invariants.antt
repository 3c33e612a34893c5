use Rattle.std.proofs.Common.{◌≡◌, length}
use Rattle.tm_expressions.specs.Grammar.{inside}
use Rattle.tm_parser.specs.Statements.{more_filters}
use Rattle.tm_parser.proofs.filters.more_filters.Given as goal

abbrev pub invariant-loop-alloc : goal.invariant-loop-alloc
invariant-loop-alloc l = (more_filters (inside l.depth) l.filters).reads l.cursor ≡ (more_filters (inside l.depth) l.fn.first).reads l.fn.cursor

abbrev pub decreases-loop-alloc : goal.decreases-loop-alloc
decreases-loop-alloc l = length l.cursor
