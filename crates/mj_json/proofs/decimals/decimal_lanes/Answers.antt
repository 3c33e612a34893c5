use Rattle.mj_json.proofs.Pairs.{mask_is}
use Rattle.mj_json.proofs.decimals.decimal_lanes.Goals as goal

pub returns : goal.returns
returns c = mask_is c.args.bytes.now c.args.at c.requires c.type_inv.bytes
