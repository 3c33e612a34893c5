use Rattle.std.proofs.Common.{◌≡◌, ◌≤◌, ◌-◌, length, take}
use Rattle.std.specs.Io.KnownBytes.{Appends}
use Rattle.tm_output.proofs.sink.Counted.put_rest.Given as goal

abbrev pub invariant-loop-done : goal.invariant-loop-done
invariant-loop-done g l =
    (l.done ≤ length l.bytes)
    × Appends (g.W.Write.contents l.initial.self-inside.inner) (g.W.Write.contents l.self-inside.inner) (take l.done l.bytes)
    × (l.self-inside.failures ≡ l.initial.self-inside.failures)

abbrev pub decreases-loop-done : goal.decreases-loop-done
decreases-loop-done g l = length l.bytes - l.done
