use Rattle.std.proofs.Common.{◌≡◌, ◌≤◌, [], length, take, reverse}
use Rattle.tm_meaning.specs.World.{innermost}
use Rattle.tm_scopes.specs.Marks.{framed}
use Rattle.tm_scopes.proofs.context.Context.innermost_loop.Given as goal

abbrev pub invariant-loop-i : goal.invariant-loop-i
invariant-loop-i l =
    (l.i ≤ length l.self-inside.marks.items)
    × (innermost (framed (reverse l.self-inside.marks.items) l.self-inside.pairs.items)
    ≡ innermost (framed (reverse (take l.i l.self-inside.marks.items)) []))

abbrev pub decreases-loop-i : goal.decreases-loop-i
decreases-loop-i l = l.i
