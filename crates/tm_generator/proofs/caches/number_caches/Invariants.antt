use Rattle.std.proofs.Common.{◌≡◌, ◌≤◌, ◌-◌, length}
use Rattle.tm_syntax.specs.CacheNumbers.{numbered}
use Rattle.tm_generator.specs.Caches.{HasRoom}
use Rattle.tm_generator.proofs.NumberedAfter.{numbered_after}
use Rattle.tm_generator.proofs.caches.number_caches.Given as goal

abbrev pub invariant-loop-place : goal.invariant-loop-place
invariant-loop-place l =
    (l.place ≤ length l.code) × HasRoom l.names
    × (numbered_after l.place l.names.filters l.names.tests l.code ≡ numbered l.fn.code)

abbrev pub decreases-loop-place : goal.decreases-loop-place
decreases-loop-place l = length l.code - l.place
