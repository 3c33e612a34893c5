use Rattle.std.proofs.Common.{◌≡◌}
use Rattle.tm_definitions.specs.Mapped.{with_maps}
use Rattle.tm_operations.specs.Begun.{AllAscend, comes_to, left_to_make}
use Rattle.tm_operations.proofs.mapped.replaced.Given as goal

abbrev pub invariant-loop-next : goal.invariant-loop-next
invariant-loop-next g l =
    let r = g.R.Records.records l.records in (comes_to r l.begun.items l.next ≡ with_maps r l.value) × AllAscend l.begun.items

abbrev pub decreases-loop-next : goal.decreases-loop-next
decreases-loop-next g l = left_to_make (g.R.Records.records l.records) l.begun.items l.next
