use Rattle.std.proofs.Common.{◌≡◌, ◌≤◌, ◌-◌, length, take, None}
use Rattle.tm_syntax.specs.Named.{find}
use Rattle.tm_scopes.proofs.pairs.place_of.Given as goal

abbrev pub invariant-loop-place : goal.invariant-loop-place
invariant-loop-place l = (l.place ≤ length l.pairs) × (find l.name (take l.place l.pairs) ≡ None)

abbrev pub decreases-loop-place : goal.decreases-loop-place
decreases-loop-place l = length l.pairs - l.place
