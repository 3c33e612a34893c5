use Rattle.std.proofs.Common.{length, ◌-◌, ◌≤◌}
use Rattle.tm_scanner.proofs.Raws.{NotYet}
use Rattle.tm_scanner.proofs.raw.to_endraw.Given as goal

abbrev pub invariant-loop-at : goal.invariant-loop-at
invariant-loop-at l = (l.from ≤ length l.bytes) × NotYet l.syntax l.bytes l.from

abbrev pub decreases-loop-at : goal.decreases-loop-at
decreases-loop-at l = length l.bytes - l.from
