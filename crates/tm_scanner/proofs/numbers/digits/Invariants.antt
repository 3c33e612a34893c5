use Rattle.std.proofs.Common.{◌≡◌, ◌<◌, ◌≤◌, ◌^◌, length}
use denote.Text.{Utf8}
use denote.Shadow.{shadow}
use Rattle.tm_scanner.specs.Numbers.{digits}
use Rattle.tm_scanner.proofs.numbers.digits.Given as goal

abbrev pub invariant-loop-digit : goal.invariant-loop-digit
invariant-loop-digit l = shadow (Utf8 l.rest) × (digits l.base l.number l.rest ≡ digits l.base l.first l.text)
    × (length l.rest ≤ length l.text) × (l.number < 2 ^ 127)

abbrev pub decreases-loop-digit : goal.decreases-loop-digit
decreases-loop-digit l = length l.rest
