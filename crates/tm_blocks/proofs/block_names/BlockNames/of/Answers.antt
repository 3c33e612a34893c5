use Rattle.std.specs.Map.{keys_of}
use Rattle.tm_blocks.proofs.Hashes.{seen_as}
use Rattle.tm_blocks.proofs.block_names.BlockNames.of.Goals as goal

pub returns : goal.returns
returns c =
    seen_as (keys_of c.args.blocks.now) c.in_ok-by_hash.by_hash.items c.sort_unstable.new.self.items c.requires c.in_ok-by_hash.ensures
    c.sort_unstable.ensures.permutation
