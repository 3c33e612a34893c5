use Rattle.std.proofs.Common.{◌≡◌, ◌-◌, ◌≤◌, length, drop, map as each}
use Rattle.std.specs.Rc.{rc_str_bytes}
use Rattle.tm_meaning.specs.Calls.{is_argument}
use Rattle.tm_records.proofs.bound.is_argument.Given as goal

abbrev pub invariant-loop-place : goal.invariant-loop-place
invariant-loop-place l =
    (l.place ≤ length l.names)
    × (is_argument l.name (each rc_str_bytes l.names) ≡ is_argument l.name (each rc_str_bytes (drop l.place l.names)))

abbrev pub decreases-loop-place : goal.decreases-loop-place
decreases-loop-place l = length l.names - l.place
