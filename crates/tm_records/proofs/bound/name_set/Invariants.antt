use Rattle.std.proofs.Common.{◌≡◌, ◌-◌, ◌≤◌, ◌||◌, length, drop, map as each, List, Bor, ℕ}
use Rattle.std.specs.BTreeSet.{contains}
use Rattle.std.specs.Rc.{rc_str_bytes}
use Rattle.tm_meaning.specs.Calls.{is_argument}
use Rattle.tm_records.specs.Macros.{order}
use Rattle.tm_records.proofs.bound.name_set.Given as goal

abbrev pub invariant-loop-place : goal.invariant-loop-place
invariant-loop-place l =
    (l.place ≤ length l.names)
    × ((x : Bor (List ℕ)) → (contains order l.set x || is_argument x.now (each rc_str_bytes (drop l.place l.names)))
    ≡ is_argument x.now (each rc_str_bytes l.names))

abbrev pub decreases-loop-place : goal.decreases-loop-place
decreases-loop-place l = length l.names - l.place
