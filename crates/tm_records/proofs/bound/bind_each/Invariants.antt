use Rattle.std.proofs.Common.{◌≡◌, ◌-◌, ◌≤◌, length, map as each}
use Rattle.std.specs.Rc.{rc_str_bytes}
use Rattle.tm_meaning.specs.Calls.{bound}
use Rattle.tm_records.specs.Macros.{after_all, given_in}
use Rattle.tm_records.proofs.Binding.{bound_from}
use Rattle.tm_records.proofs.bound.bind_each.Given as goal

abbrev pub invariant-loop-place : goal.invariant-loop-place
invariant-loop-place l =
    (l.place ≤ length l.names) × (length l.plain ≤ length l.names)
    × (bound (each rc_str_bytes l.names) l.plain (given_in l.keywords)
    ≡ after_all l.given.items (bound_from l.names l.plain (given_in l.keywords) l.place))

abbrev pub decreases-loop-place : goal.decreases-loop-place
decreases-loop-place l = length l.names - l.place
