use Rattle.std.proofs.Common.{◌≡◌, drop}
use Rattle.tm_syntax.specs.CacheNumbers.{place_from}
use Rattle.tm_generator.proofs.caches.place_of.Given as goal

abbrev pub invariant-loop-place : goal.invariant-loop-place
invariant-loop-place l = place_from l.place l.name (drop l.place l.names) ≡ place_from 0 l.name l.names
