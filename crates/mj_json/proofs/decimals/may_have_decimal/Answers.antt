use Rattle.std.proofs.Common.{◌+◌, ◌∙◌, arith, refl, sym}
use Rattle.mj_json.proofs.Pairs.{joined, none_in_block, none_left}
use Rattle.mj_json.proofs.decimals.may_have_decimal.Goals as goal

pub loop-at-preserved : goal.loop-at-preserved
loop-at-preserved c =
    let bytes = c.args.bytes.now in
    let at = c.loop-at.at in
    joined bytes 0 at at (at + 32) (omega arith) c.loop-at.invariant (none_in_block bytes at (omega arith) (sym c.decimal_lanes.ensures ∙ c.if-decimal_lanes-ne0.false))

pub returns : goal.returns
returns c = none_left c.args.bytes.now c.loop-at.at _ c.decimal_lanes-2.result c.if-bytes-lt33.false refl c.loop-at-test.false c.loop-at.invariant c.decimal_lanes-2.ensures
