use Rattle.std.proofs.Common.{◌≡◌, ◌≤◌, length, reverse, take}
use Rattle.tm_syntax.specs.Code.{close_all as close_each}
use Rattle.tm_generator.specs.Building.{with_all}
use Rattle.tm_generator.proofs.enclosing.push_closed.Given as goal

abbrev pub invariant-loop-left : goal.invariant-loop-left
invariant-loop-left l =
    (l.left ≤ length l.opened) × (with_all (close_each (reverse (take l.left l.opened))) l.code
    ≡ with_all (close_each (reverse l.opened)) l.fn.code)

abbrev pub decreases-loop-left : goal.decreases-loop-left
decreases-loop-left l = l.left
