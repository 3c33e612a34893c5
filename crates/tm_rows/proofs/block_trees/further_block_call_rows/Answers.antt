use Rattle.std.proofs.Common.{refl}
use Rattle.tm_rows.proofs.block_trees.further_block_call_rows.Goals as goal

pub returns-clause-plain : goal.returns-clause-plain
returns-clause-plain c = (refl, refl)

pub returns-clause-escaped : goal.returns-clause-escaped
returns-clause-escaped c = (refl, refl)

pub returns-clause-missing : goal.returns-clause-missing
returns-clause-missing c = (refl, refl, refl, refl)
