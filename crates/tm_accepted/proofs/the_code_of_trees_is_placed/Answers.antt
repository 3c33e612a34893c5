use Rattle.tm_accepted.proofs.Placing.{tree_placed}
use Rattle.tm_accepted.proofs.the_code_of_trees_is_placed.Goals as goal

pub returns : goal.returns
returns c = tree_placed
