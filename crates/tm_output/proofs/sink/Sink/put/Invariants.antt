use Rattle.std.proofs.Common.{◌≡◌, ◌≤◌, ◌-◌, length, take}
use Rattle.std.specs.Io.KnownBytes.{Appends}
use Rattle.tm_output.proofs.sink.Sink.put.Given as goal

abbrev pub invariant-loop-done : goal.invariant-loop-done
invariant-loop-done g l =
    (l.done ≤ length l.bytes)
    × Appends (g.Self.Sink.told l.initial.self).bytes (g.Self.Sink.told l.self).bytes (take l.done l.bytes)
    × ((g.Self.Sink.told l.self).failures ≡ (g.Self.Sink.told l.initial.self).failures)

abbrev pub decreases-loop-done : goal.decreases-loop-done
decreases-loop-done g l = length l.bytes - l.done
