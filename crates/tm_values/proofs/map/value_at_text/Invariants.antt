use Rattle.std.proofs.Common.{◌≡◌, ◌≤◌, ◌<◌, ◌-◌, ℕ, false, length, get_or}
use Rattle.std.specs.Ordering.{is_eq}
use Rattle.tm_values.specs.Order.{val_cmp}
use Rattle.tm_values.specs.Val.{Val, text}
use Rattle.tm_values.proofs.map.value_at_text.Given as goal

abbrev pub invariant-loop-at : goal.invariant-loop-at
invariant-loop-at l =
    (l.at ≤ length l.pairs)
    × ((j : ℕ) (d : Val × Val) → j < l.at → is_eq (val_cmp (get_or l.pairs j d).0 (text l.name false)) ≡ false)

abbrev pub decreases-loop-at : goal.decreases-loop-at
decreases-loop-at l = length l.pairs - l.at
