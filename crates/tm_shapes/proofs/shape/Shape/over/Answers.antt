use Rattle.tm_shapes.proofs.Showing.{shows-over}
use Rattle.tm_shapes.proofs.shape.Shape.over.Goals as goal

pub returns : goal.returns
returns c = λ cells. shows-over cells c.args.values c.no_level.result (c.no_level.ensures.none cells) c.no_level.ensures.floor
