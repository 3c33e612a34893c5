use Rattle.std.proofs.Common.{◌≡◌, ◌+◌, ◌-◌, length}
use Rattle.tm_meaning.specs.Instructions.{holding}
use Rattle.tm_runs.proofs.caches.Caches.hold.Given as goal

abbrev pub invariant-loop-self : goal.invariant-loop-self
invariant-loop-self l = holding l.cache l.name l.self-inside.names.items ≡ holding l.fn.cache l.fn.name l.fn.self

abbrev pub decreases-loop-self : goal.decreases-loop-self
decreases-loop-self l = l.cache + 1 - length l.self-inside.names.items
