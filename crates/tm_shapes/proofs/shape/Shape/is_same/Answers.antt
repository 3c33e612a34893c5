use Rattle.std.proofs.Common.{◌∙◌}
use Rattle.tm_shapes.proofs.Same.{made-same}
use Rattle.tm_shapes.proofs.shape.Shape.is_same.Goals as goal

pub returns : goal.returns
returns c = λ cells s t once h g. c.eq.ensures ∙ made-same cells once c.args.self.now c.args.other.now s t h g
