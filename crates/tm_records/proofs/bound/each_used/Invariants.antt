use Rattle.std.proofs.Common.{◌≡◌, ◌-◌, ◌≤◌, length, drop}
use Rattle.tm_meaning.specs.Calls.{all_used}
use Rattle.tm_records.proofs.bound.each_used.Given as goal

abbrev pub invariant-loop-place : goal.invariant-loop-place
invariant-loop-place l = (l.place ≤ length l.pairs) × (all_used l.declared l.pairs ≡ all_used l.declared (drop l.place l.pairs))

abbrev pub decreases-loop-place : goal.decreases-loop-place
decreases-loop-place l = length l.pairs - l.place
