use Rattle.std.proofs.Common.{arith, ◌∙◌, Some, ap, true, false}
use Rattle.std.proofs.lemmas.Int.{ints, to_z-of_z}
use Rattle.std.proofs.lemmas.Bool.Decides.{nat_tests}
use Rattle.std.specs.Int.{w128}
use Rattle.tm_primitives.proofs.Range.{power_of_zero, power_of_one, power_of_minus_one}
use Rattle.tm_primitives.proofs.whole.far_power.Goals.{then-a-eq0-via-then-a-eq0, then-a-eq0-via-else-a-eq0+then-a-eq1}
use Rattle.tm_primitives.proofs.whole.far_power.Goals as goal

pub returns-then-a-eq0 : goal.returns-then-a-eq0
returns-then-a-eq0 c =
    ap Some (to_z-of_z w128 c.args.a c.ranges.a) ∙ (elim c.then-a-eq0.branch [
      | then-a-eq0-via-then-a-eq0 w ↦ power_of_zero c.args.a c.args.exponent (omega (arith, ints, w.if-a-eq0.true)) c.requires
      | then-a-eq0-via-else-a-eq0+then-a-eq1 w ↦ power_of_one c.args.a c.args.exponent (omega (arith, ints, w.if-a-eq1.true))
    ])

pub returns-then-exponent-eq0 : goal.returns-then-exponent-eq0
returns-then-exponent-eq0 c = power_of_minus_one c.args.a c.args.exponent true (omega (arith, ints)) (grind (arith, nat_tests))

pub returns-else-exponent-eq0 : goal.returns-else-exponent-eq0
returns-else-exponent-eq0 c = power_of_minus_one c.args.a c.args.exponent false (omega (arith, ints)) (grind (arith, nat_tests))
