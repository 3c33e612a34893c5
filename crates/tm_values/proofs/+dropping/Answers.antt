use Rattle.std.proofs.Common.{arith}
use Rattle.tm_values.proofs.Sizes.{pairs_popped}
use Rattle.tm_values.proofs.+dropping.Goals as goal

pub dropping::drop_pairs-keep_larger-requires-in-Some : goal.dropping::drop_pairs-keep_larger-requires-in-Some
dropping::drop_pairs-keep_larger-requires-in-Some t c =
    let sizes = pairs_popped c.loop-key.pairs.items c.pop.new.self.items c.in-Some.key c.in-Some.value c.in-Some.ensures.items in
    (omega (arith, sizes, c.loop-key.invariant.fewer), tt)

pub dropping::drop_pairs-loop-key-smaller : goal.dropping::drop_pairs-loop-key-smaller
dropping::drop_pairs-loop-key-smaller t c =
    let sizes = pairs_popped c.loop-key.pairs.items c.pop.new.self.items c.in-Some.key c.in-Some.value c.in-Some.ensures.items in
    omega (arith, sizes)

pub dropping::drop_pairs-loop-key-preserved : goal.dropping::drop_pairs-loop-key-preserved
dropping::drop_pairs-loop-key-preserved t c =
    let sizes = pairs_popped c.loop-key.pairs.items c.pop.new.self.items c.in-Some.key c.in-Some.value c.in-Some.ensures.items in
    record {
      fewer = omega (arith, sizes, c.loop-key.invariant.fewer);
      kept = omega (arith, sizes, c.loop-key.invariant.fewer, c.loop-key.invariant.kept, c.keep_larger.ensures, c.keep_larger-in-Some.ensures);
    }
