use Rattle.std.proofs.Common.{◌≡◌, ◌-◌, ◌≤◌, length, drop}
use Rattle.tm_meaning.specs.World.{stream_from}
use Rattle.tm_records.proofs.streams.Streams.place_of.Given as goal

abbrev pub invariant-loop-place : goal.invariant-loop-place
invariant-loop-place l =
    (l.place ≤ length l.self-inside.all.items)
    × (stream_from 0 l.stream l.self-inside.all.items ≡ stream_from l.place l.stream (drop l.place l.self-inside.all.items))

abbrev pub decreases-loop-place : goal.decreases-loop-place
decreases-loop-place l = length l.self-inside.all.items - l.place
