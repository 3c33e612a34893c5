use Rattle.tm_accepted.proofs.Made.{tree_shapes}
use Rattle.tm_accepted.proofs.the_code_of_trees_has_shapes.Goals as goal

pub returns : goal.returns
returns c = tree_shapes
