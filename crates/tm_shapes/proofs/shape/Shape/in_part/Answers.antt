use Rattle.tm_shapes.proofs.Showing.{shows-part}
use Rattle.tm_shapes.proofs.shape.Shape.in_part.Goals as goal

pub returns-clause-shown : goal.returns-clause-shown
returns-clause-shown c = λ s shown.
    shows-part c.args.cells.now c.put.new.self c.in_ok-below.ensures.grown c.args.self s c.no_level.result c.in_ok-below.below
    (c.no_level.ensures.none c.put.new.self) c.no_level.ensures.floor c.in_ok-below.ensures.found shown
