use Rattle.std.proofs.Common.{◌≡◌, length}
use Rattle.tm_syntax.specs.declared.token.Sign.TheVariants as sign
use Rattle.tm_expressions.specs.Grammar.{more_items}
use Rattle.tm_parser.specs.Statements.{imported}
use Rattle.tm_parser.proofs.imports.more_imports.Given as goal

abbrev pub invariant-loop-cursor : goal.invariant-loop-cursor
invariant-loop-cursor l =
    (more_items sign.BlockEnd imported l.imports).reads l.cursor ≡ (more_items sign.BlockEnd imported l.fn.first).reads l.fn.cursor

abbrev pub decreases-loop-cursor : goal.decreases-loop-cursor
decreases-loop-cursor l = length l.cursor
