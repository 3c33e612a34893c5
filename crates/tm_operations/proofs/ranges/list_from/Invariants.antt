use Rattle.std.proofs.Common.{◌≡◌, ◌≤◌, map as each}
use Rattle.tm_definitions.specs.Ranges.{numbers_from}
use Rattle.tm_values.specs.Val.{number}
use Rattle.tm_operations.proofs.ranges.list_from.Given as goal

-- the numbers before the place are there, and there is room for all
abbrev pub invariant-loop-place : goal.invariant-loop-place
invariant-loop-place l = (l.items.items ≡ each number (numbers_from l.start l.step l.place)) × (l.count ≤ l.items.cap)
