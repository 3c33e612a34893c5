use Rattle.tm_blocks.proofs.Hashes.{ascends}
use Rattle.tm_blocks.proofs.block_names.BlockNames.ascend.Goals as goal

pub returns : goal.returns
returns c = ascends c.self.inside.by_hash.items c.args.self.now c.self.view_is
