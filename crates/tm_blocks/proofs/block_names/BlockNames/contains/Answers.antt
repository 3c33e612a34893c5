use Rattle.std.proofs.Common.{◌∙◌}
use Rattle.tm_blocks.proofs.Hashes.{found_in}
use Rattle.tm_blocks.proofs.block_names.BlockNames.contains.Goals as goal

pub returns : goal.returns
returns c =
    c.is_ok.ensures.value
    ∙ found_in c.args.name.now c.self.inside.by_hash.items c.deref.result.now c.args.self.now c.binary_search.result c.deref.ensures.value
    c.self.view_is c.self.invariant c.binary_search.ensures.bound c.binary_search.ensures.position
