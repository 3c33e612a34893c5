use Rattle.std.proofs.Common.{◌≤◌, length}
use denote.Text.{Utf8}
use denote.Shadow.{shadow}
use Rattle.tm_delimiters.specs.Views.{IsKnown}
use Rattle.tm_scanner.proofs.Contents.{ContentSoFar}
use Rattle.tm_scanner.proofs.tokens.content.Given as goal

abbrev pub invariant-next : goal.invariant-next
invariant-next l = shadow (Utf8 l.rest) × shadow (Utf8 l.known)
    × ContentSoFar l.by l.text l.fn.tokens.items l.tokens.items l.rest l.depth
    × (length l.rest ≤ length l.text) × IsKnown l.by l.rest l.known

abbrev pub decreases-next : goal.decreases-next
decreases-next l = length l.rest
