use Rattle.std.proofs.Common.{◌<◌, ◌≤◌, ◌∙◌, sym, ap, arith, length}
use Rattle.tm_meaning.specs.World.{stream_from}
use Rattle.tm_records.proofs.Declared.{at_end, found_here, not_here}
use Rattle.tm_records.proofs.streams.Streams.place_of.Goals as goal

pub returns-then-is : goal.returns-then-is
returns-then-is c =
    let all = c.self.inside.all.items in
    let s = c.args.stream.now in
    let within : c.loop-place.place < length all = omega (arith, c.loop-place-test.true, c.len.ensures) in
    sym (found_here c.loop-place.place s c.index.result.now all within c.index.ensures (sym c.is.ensures ∙ c.if-is.true))
    ∙ sym c.loop-place.invariant.1 ∙ ap (stream_from 0 s) c.self.view_is

pub loop-place-preserved : goal.loop-place-preserved
loop-place-preserved c =
    let all = c.self.inside.all.items in
    let s = c.args.stream.now in
    let within : c.loop-place.place < length all = omega (arith, c.loop-place-test.true, c.len.ensures) in (
      omega (arith, within),
      c.loop-place.invariant.1
          ∙ not_here c.loop-place.place s c.index.result.now all within c.index.ensures (sym c.is.ensures ∙ c.if-is.false),
    )

pub returns : goal.returns
returns c =
    let all = c.self.inside.all.items in
    let s = c.args.stream.now in
    let after : length all ≤ c.loop-place.place = omega (arith, c.loop-place-test.false, c.len.ensures) in
    sym (at_end c.loop-place.place c.loop-place.place s all after) ∙ sym c.loop-place.invariant.1 ∙ ap (stream_from 0 s) c.self.view_is
