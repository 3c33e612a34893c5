use Rattle.std.proofs.Common.{length}
use denote.Text.{Utf8}
use denote.Shadow.{shadow}
use Rattle.tm_delimiters.specs.Front.{past_blanks}
use Rattle.tm_scanner.specs.Spells.{Reads}
use Rattle.tm_scanner.specs.Steps.{Steps}
use Rattle.tm_scanner.proofs.expression.scan_expr.Given as goal

abbrev pub invariant-loop-rest : goal.invariant-loop-rest
invariant-loop-rest l = shadow (Utf8 l.rest) × Steps Reads (past_blanks l.source) l.tokens.items l.rest

abbrev pub decreases-loop-rest : goal.decreases-loop-rest
decreases-loop-rest l = length l.rest
