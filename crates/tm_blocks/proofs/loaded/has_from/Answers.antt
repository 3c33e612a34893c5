use Rattle.std.proofs.Common.{◌≡◌, ◌∙◌, ◌-◌, ◌≤◌, ◌<◌, arith, drop, length, suc, sym, ap}
use Rattle.std.specs.List.{list_any}
use Rattle.tm_blocks.specs.Layers.{has_block}
use Rattle.tm_blocks.proofs.Chain.{any_from, none_less, none_more}
use Rattle.tm_blocks.proofs.loaded.has_from.Goals as goal

pub returns-then-has : goal.returns-then-has
returns-then-has c =
    let h = c.loop-end-test.true in
    let layers = c.args.layers.now in
    let lies : c.args.from ≤ c.loop-end.end - 1 = omega (arith, h) in
    let within : c.loop-end.end - 1 < length layers = omega (arith, h, c.loop-end.invariant.0) in
    sym (any_from c.args.name.now layers c.args.from (c.loop-end.end - 1) c.index-layers-end.result lies within c.index-layers-end.is
    (sym c.has.ensures ∙ c.if-has.true))

pub returns : goal.returns
returns c =
    sym (none_less c.args.name.now c.args.layers.now c.loop-end.end c.args.from c.loop-end-test.false c.loop-end.invariant.1)

pub loop-end-preserved : goal.loop-end-preserved
loop-end-preserved c =
    let h = c.loop-end-test.true in
    let layers = c.args.layers.now in
    let within : c.loop-end.end - 1 < length layers = omega (arith, h, c.loop-end.invariant.0) in
    let back : c.loop-end.end ≡ suc (c.loop-end.end - 1) = omega (arith, h) in (
      omega (arith, c.loop-end.invariant.0),
      none_more c.args.name.now layers (c.loop-end.end - 1) c.index-layers-end.result within c.index-layers-end.is
          (sym c.has.ensures ∙ c.if-has.false)
          (ap (λ k. list_any (has_block c.args.name.now) (drop k layers)) (sym back) ∙ c.loop-end.invariant.1),
    )
