use Rattle.std.proofs.Common.{arith}
use Rattle.tm_scopes.proofs.Ordered.{is_place, no_place}
use Rattle.tm_scopes.proofs.pairs.place_of.Goals as goal

pub returns-then-eq : goal.returns-then-eq
returns-then-eq c = (
  c.loop-place.invariant.1,
  is_place c.args.name.now c.args.pairs.now c.loop-place.place c.index-pairs-place.result c.loop-place-test.true c.if-eq.ensures,
)

pub loop-place-preserved : goal.loop-place-preserved
loop-place-preserved c = (
  omega (arith, c.loop-place-test.true),
  no_place c.args.name.now c.args.pairs.now c.loop-place.place c.index-pairs-place.result c.loop-place-test.true c.if-eq.ensures
      c.loop-place.invariant.1,
)
