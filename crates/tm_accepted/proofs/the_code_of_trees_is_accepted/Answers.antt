use Rattle.tm_accepted.proofs.TreesAccepted.{tree_accepted}
use Rattle.tm_accepted.proofs.the_code_of_trees_is_accepted.Goals as goal

pub returns : goal.returns
returns c = tree_accepted
