use Rattle.std.proofs.Common.{◌≡◌, drop}
use Rattle.tm_shapes.specs.CacheNames.{all_taken, names_of, no_names}
use Rattle.tm_shapes.specs.Placed.{filters_in, tests_in}
use Rattle.tm_shapes.proofs.placed.caches_fit.Given as goal

-- What is left is taken after what was read as all is from no names.
abbrev pub invariant-loop-instruction : goal.invariant-loop-instruction
invariant-loop-instruction l =
    let left = drop l.instruction-index l.code in
    record {
      filters : all_taken (filters_in left) (names_of l.caches.filters.names.items) ≡ all_taken (filters_in l.code) no_names;
      tests : all_taken (tests_in left) (names_of l.caches.tests.names.items) ≡ all_taken (tests_in l.code) no_names;
    }
