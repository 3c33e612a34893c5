use Rattle.std.proofs.Common.{◌≡◌, ◌≤◌, length}
use denote.Text.{Utf8}
use denote.Shadow.{shadow}
use Rattle.tm_delimiters.specs.Whitespace.{past_blanks_to}
use Rattle.tm_delimiters.proofs.whitespace.past_blanks_to.Given as goal

abbrev pub invariant-loop-byte : goal.invariant-loop-byte
invariant-loop-byte l = shadow (Utf8 l.rest) × (past_blanks_to l.end l.rest ≡ past_blanks_to l.end l.text) × (length l.rest ≤ length l.text)

abbrev pub decreases-loop-byte : goal.decreases-loop-byte
decreases-loop-byte l = length l.rest
