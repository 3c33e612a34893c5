use Rattle.std.proofs.Common.{◌≡◌, ◌-◌, ◌≤◌, ◌++◌, drop, length}
use Rattle.tm_records.proofs.Binding.{undefineds}
use Rattle.tm_records.proofs.bound.bind_plain.Given as goal

abbrev pub invariant-loop-place : goal.invariant-loop-place
invariant-loop-place l =
    (l.place ≤ length l.plain) × (length l.plain ≤ length l.names) × (l.given.items ++ drop l.place l.plain ≡ l.plain)

abbrev pub decreases-loop-place : goal.decreases-loop-place
decreases-loop-place l = length l.plain - l.place

abbrev pub invariant-loop-place-2 : goal.invariant-loop-place-2
invariant-loop-place-2 l =
    (l.place ≤ length l.names) × (length l.plain ≤ length l.names)
    × (l.given.items ++ undefineds (length l.names - l.place) ≡ l.plain ++ undefineds (length l.names - length l.plain))

abbrev pub decreases-loop-place-2 : goal.decreases-loop-place-2
decreases-loop-place-2 l = length l.names - l.place
