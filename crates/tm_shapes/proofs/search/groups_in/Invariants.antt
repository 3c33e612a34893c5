use Rattle.std.proofs.Common.{drop}
use Rattle.tm_shapes.specs.Searched.{seeds_of}
use Rattle.tm_shapes.proofs.Seeing.{Begins, Goes, left_in}
use Rattle.tm_shapes.proofs.search.groups_in.Given as goal

abbrev pub invariant-loop-seed : goal.invariant-loop-seed
invariant-loop-seed l = Begins l.stream.code.now (seeds_of l.seeds) (seeds_of (drop l.seed-index l.seeds)) l.seen

abbrev pub invariant-loop-place : goal.invariant-loop-place
invariant-loop-place l = Goes l.stream.code.now (seeds_of l.seeds) l.seen

abbrev pub decreases-loop-place : goal.decreases-loop-place
decreases-loop-place l = left_in l.seen
