use Rattle.std.proofs.Common.{length, ◌-◌, ◌≤◌}
use Rattle.memchr.specs.Find.{Nowhere}
use Rattle.tm_delimiters.specs.Starts.{BeginsAt}
use Rattle.tm_delimiters.proofs.starts.next_tag.Given as goal

abbrev pub invariant-loop-at : goal.invariant-loop-at
invariant-loop-at l = (l.from ≤ length l.text) × Nowhere (BeginsAt l.syntax l.text) 0 l.from

abbrev pub decreases-loop-at : goal.decreases-loop-at
decreases-loop-at l = length l.text - l.from
