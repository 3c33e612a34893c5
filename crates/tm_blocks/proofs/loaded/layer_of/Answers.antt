use Rattle.std.proofs.Common.{◌≡◌, ◌∙◌, ◌+◌, arith, length, sym, take, true, false}
use Rattle.tm_blocks.specs.Layers.{having}
use Rattle.tm_blocks.proofs.Chain.{layer_found, left_after, past}
use Rattle.tm_blocks.proofs.loaded.layer_of.Goals as goal
use Rattle.tm_blocks.proofs.loaded.layer_of.Goals.{then-has+else-left-eq0, else-has}

pub returns-then-left-eq0 : goal.returns-then-left-eq0
returns-then-left-eq0 c =
    layer_found c.args.name.now c.args.layers.now c.args.place c.loop-at.at c.loop-at.left c.index-layers-at.result c.loop-at-test.true
    c.index-layers-at.is (sym c.has.ensures ∙ c.if-has.true) c.if-left-eq0.true c.loop-at.invariant.1

pub returns : goal.returns
returns c =
    past c.args.name.now c.args.layers.now c.args.place c.loop-at.at c.loop-at.left c.loop-at-test.false c.loop-at.invariant.1

pub loop-at-preserved : goal.loop-at-preserved
loop-at-preserved c =
    let x = c.args.name.now in
    let layers = c.args.layers.now in
    let at = c.loop-at.at in
    let left : c.if-has.left + length (having x (take (at + 1) layers)) ≡ c.args.place = elim c.if-has.branch [
      | then-has+else-left-eq0 w ↦ omega (
        arith,
        left_after x layers at c.index-layers-at.result true c.loop-at-test.true c.index-layers-at.is
            (sym c.has.ensures ∙ w.if-has.true),
        w.left-is,
        w.if-left-eq0.false,
        c.loop-at.invariant.1,
      )
      | else-has w ↦ omega (
        arith,
        left_after x layers at c.index-layers-at.result false c.loop-at-test.true c.index-layers-at.is
            (sym c.has.ensures ∙ w.if-has.false),
        w.left-is,
        c.loop-at.invariant.1,
      )
    ] in (omega (arith, c.loop-at-test.true), left)
