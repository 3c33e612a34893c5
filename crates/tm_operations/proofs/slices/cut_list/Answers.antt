use Rattle.std.proofs.Common.{rules}
use Rattle.tm_operations.proofs.slices.cut_list.Goals as goal

pub returns : goal.returns
returns c = search rules fits 100
