use Rattle.tm_accepted.proofs.Discovers.{takes_found}
use Rattle.tm_accepted.proofs.what_takes_a_group_is_found.Goals as goal

pub returns : goal.returns
returns c = takes_found
