use Rattle.std.proofs.Common.{◌≡◌, ◌≤◌, length, reverse, take}
use Rattle.tm_syntax.specs.Names.{is_assigned}
use Rattle.tm_names.proofs.walker.is_assigned_in.Given as goal

abbrev pub invariant-loop-left : goal.invariant-loop-left
invariant-loop-left l =
    (l.left ≤ length l.scopes) × (is_assigned l.name (reverse (take l.left l.scopes)) ≡ is_assigned l.name (reverse l.scopes))

abbrev pub decreases-loop-left : goal.decreases-loop-left
decreases-loop-left l = l.left
