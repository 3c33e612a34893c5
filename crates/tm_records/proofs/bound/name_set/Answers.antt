use Rattle.std.proofs.Common.{◌∙◌, arith}
use Rattle.tm_records.proofs.NameSets.{turn}
use Rattle.tm_records.proofs.bound.name_set.Goals as goal

pub loop-place-preserved : goal.loop-place-preserved
loop-place-preserved c = (
  omega (arith, c.loop-place-test.true),
  λ x. turn c.loop-place.set c.insert.new.self c.args.names.now c.loop-place.place c.index-names-place.result c.as_str.result
      c.loop-place-test.true c.index-names-place.is c.as_str.ensures.value c.in_ok-insert.ensures.updates x ∙ c.loop-place.invariant.1 x,
)
