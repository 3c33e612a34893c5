use Rattle.std.proofs.Common.{rules}
use Rattle.mj_json.proofs.Ascending.{put_all-map}
use Rattle.mj_json.proofs.values.map_of.Goals as goal

-- pairs whose keys ascend are the map as they stand
pub returns : goal.returns
returns c = rw (put_all-map c.args.pairs.items c.requires) (search rules fits 100)
