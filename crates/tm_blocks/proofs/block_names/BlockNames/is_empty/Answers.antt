use Rattle.std.proofs.Common.{◌∙◌, ap, length, nat_eq}
use Rattle.tm_blocks.proofs.Hashes.{none_seen}
use Rattle.tm_blocks.proofs.block_names.BlockNames.is_empty.Goals as goal

pub returns : goal.returns
returns c =
    c.is_empty.ensures ∙ ap (λ l. nat_eq (length l) 0) c.as_slice.ensures.value
    ∙ none_seen c.self.inside.by_hash.items c.args.self.now c.self.view_is
