use Rattle.std.proofs.Common.{◌≡◌, ◌≤◌, ℕ, List, length, take, reverse}
use Rattle.tm_syntax.specs.Named.{texts_of}
use Rattle.tm_meaning.specs.World.{View, in_frames}
use Rattle.tm_scopes.specs.Known.{is_among, is_found}
use Rattle.tm_scopes.specs.Marks.{AreMarked, framed}
use Rattle.tm_scopes.proofs.Framed.{found_then}
use Rattle.tm_scopes.proofs.context.Context.names.Given as goal

abbrev pub invariant-loop-i : goal.invariant-loop-i
invariant-loop-i g l =
    (l.i ≤ length l.self-inside.marks.items) × (l.end ≤ length l.self-inside.pairs.items)
    × AreMarked (reverse (take l.i l.self-inside.marks.items)) (take l.end l.self-inside.pairs.items)
    × ((view : View) → view.records ≡ g.R.Records.records l.records → view.closures ≡ l.closures → (x : List ℕ) →
    is_found (in_frames view x (framed (reverse l.self-inside.marks.items) l.self-inside.pairs.items))
    ≡ found_then (is_among x (texts_of l.names.items))
    (is_found (in_frames view x (framed (reverse (take l.i l.self-inside.marks.items)) (take l.end l.self-inside.pairs.items)))))

abbrev pub decreases-loop-i : goal.decreases-loop-i
decreases-loop-i g l = l.i
