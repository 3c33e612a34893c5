use Rattle.std.proofs.Common.{subst}
use Rattle.tm_shapes.specs.Cells.{AllOnce}
use Rattle.tm_shapes.proofs.cells.Cells.is_same.Goals as goal

pub returns : goal.returns
returns c = λ s t h k. c.is_same.ensures c.args.self.now s t (subst AllOnce c.self.view_is c.self.invariant.once) h k
