use Rattle.std.proofs.Common.{◌≡◌, ◌≤◌, length, drop}
use denote.Text.{Utf8}
use denote.Shadow.{shadow}
use Rattle.tm_scanner.specs.Pieces.{past_letters}
use Rattle.tm_scanner.proofs.raw.past_letters.Given as goal

abbrev pub invariant-loop-letter : goal.invariant-loop-letter
invariant-loop-letter l = shadow (Utf8 l.rest)
    × (past_letters l.by (drop l.letter-index l.letters) l.rest ≡ past_letters l.by l.letters l.text) × (length l.rest ≤ length l.text)
