use Rattle.std.proofs.Common.{◌≤◌, length, string_bytes}
use denote.Text.{Utf8}
use denote.Shadow.{shadow}
use Rattle.tm_scanner.proofs.Literals.{LiteralSoFar}
use Rattle.tm_scanner.proofs.texts.literal.Given as goal

abbrev pub invariant-loop-character : goal.invariant-loop-character
invariant-loop-character l = shadow (Utf8 l.rest) × LiteralSoFar l.quote l.text (string_bytes l.content) l.rest
    × (length l.rest ≤ length l.text)

abbrev pub decreases-loop-character : goal.decreases-loop-character
decreases-loop-character l = length l.rest
