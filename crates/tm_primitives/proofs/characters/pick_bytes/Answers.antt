use Rattle.std.proofs.Common.{length}
use Rattle.std.specs.String.{string_bytes}
use Rattle.tm_primitives.proofs.Picks.{inside_more, picked_more}
use Rattle.tm_primitives.proofs.characters.pick_bytes.Goals as goal

pub loop-place-preserved : goal.loop-place-preserved
loop-place-preserved c =
    let next = c.in-Some.ensures.some in
    let pushed = c.in_ok-push.ensures.bytes in
    record {
      inside = inside_more (length c.args.text.now) c.in-Some.place c.loop-place.places c.next.new.self next c.loop-place.invariant.inside;
      whole = picked_more c.args.text.now c.loop-place.places c.next.new.self (string_bytes c.loop-place.out)
          (string_bytes c.push.new.self) _ c.in-Some.place next pushed c.loop-place.invariant.whole;
    }
