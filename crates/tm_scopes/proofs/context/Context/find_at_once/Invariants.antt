use Rattle.std.proofs.Common.{◌≡◌, ◌≤◌, length, take, reverse}
use Rattle.tm_meaning.specs.World.{View, in_frames}
use Rattle.tm_scopes.specs.Marks.{AreMarked, framed}
use Rattle.tm_scopes.proofs.context.Context.find_at_once.Given as goal

abbrev pub invariant-loop-i : goal.invariant-loop-i
invariant-loop-i l =
    (l.i ≤ length l.self-inside.marks.items) × (l.end ≤ length l.self-inside.pairs.items)
    × AreMarked (reverse (take l.i l.self-inside.marks.items)) (take l.end l.self-inside.pairs.items)
    × ((view : View) →
    in_frames view l.name (framed (reverse l.self-inside.marks.items) l.self-inside.pairs.items)
    ≡ in_frames view l.name (framed (reverse (take l.i l.self-inside.marks.items)) (take l.end l.self-inside.pairs.items)))

abbrev pub decreases-loop-i : goal.decreases-loop-i
decreases-loop-i l = l.i
