use Rattle.std.proofs.Common.{drop}
use Rattle.tm_shapes.specs.Accepts.{Asked as Question}
use Rattle.tm_shapes.specs.Searched.{IsAsked, seeds_of}
use Rattle.tm_shapes.proofs.Searching.{Begins, Goes, left_in}
use Rattle.tm_shapes.proofs.search.search.Given as goal

abbrev pub invariant-loop-seed : goal.invariant-loop-seed
invariant-loop-seed l = (q : Question) → IsAsked l.asked q →
    Begins q l.stream.code.now (seeds_of l.seeds) (seeds_of (drop l.seed-index l.seeds)) l.found

abbrev pub invariant-loop-place : goal.invariant-loop-place
invariant-loop-place l = (q : Question) → IsAsked l.asked q → Goes q l.stream.code.now (seeds_of l.seeds) l.found

abbrev pub decreases-loop-place : goal.decreases-loop-place
decreases-loop-place l = left_in l.found
