use Rattle.std.proofs.Common.{◌∙◌, ℕ, ◌<◌, ◌≤◌, false, sym, arith, length}
use Rattle.tm_values.proofs.Maps.{find-gap, find-none, find-read, find-there, scanned-on, scanned-there}
use Rattle.tm_values.specs.Val.{Val, text}
use Rattle.tm_values.proofs.map.value_at_text.Goals as goal

pub returns-in-Ok : goal.returns-in-Ok
returns-in-Ok c =
    find-there (text c.args.name.now false) c.args.pairs.now c.in-Ok.at c.index-pairs-at.result c.requires c.in-Ok.ensures

pub returns-in-Err : goal.returns-in-Err
returns-in-Err c = find-gap (text c.args.name.now false) c.args.pairs.now c.in-Err.field-0 c.in-Err.ensures

pub returns-then-is_text : goal.returns-then-is_text
returns-then-is_text c =
    let k = text c.args.name.now false in
    let x = c.index-pairs-at-in-loop-at.result in
    let is = c.index-pairs-at-in-loop-at.is in
    find-read k c.args.pairs.now c.loop-at.at x c.requires
    (scanned-there k c.args.pairs.now c.loop-at.at x c.loop-at-test.true is (sym c.is_text.ensures ∙ c.if-is_text.true)) is

pub returns : goal.returns
returns c =
    find-none (text c.args.name.now false) c.args.pairs.now
    (λ j d less. c.loop-at.invariant.1 j d (omega (arith, less, c.loop-at-test.false, c.loop-at.invariant.0)))

pub loop-at-preserved : goal.loop-at-preserved
loop-at-preserved c = (
  omega (arith, c.loop-at-test.true),
  scanned-on (text c.args.name.now false) c.args.pairs.now c.loop-at.at c.index-pairs-at-in-loop-at.result c.loop-at-test.true
      c.index-pairs-at-in-loop-at.is (sym c.is_text.ensures ∙ c.if-is_text.false) c.loop-at.invariant.1,
)
