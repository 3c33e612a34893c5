use Rattle.std.proofs.Common.{◌∙◌}
use Rattle.tm_names.proofs.Among.{found-among}
use Rattle.tm_names.proofs.walker.Walker.reads.Goals as goal

pub returns : goal.returns
returns c = c.has_found.ensures ∙ found-among c.args.name.now c.args.self.now.found
