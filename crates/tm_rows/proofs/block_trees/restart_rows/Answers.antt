use Rattle.std.proofs.Common.{refl}
use Rattle.tm_rows.proofs.block_trees.restart_rows.Goals as goal

pub returns-clause-writes : goal.returns-clause-writes
returns-clause-writes c = refl

pub returns-clause-no_name : goal.returns-clause-no_name
returns-clause-no_name c = refl

pub returns-clause-scope : goal.returns-clause-scope
returns-clause-scope c = refl

pub returns-clause-capture : goal.returns-clause-capture
returns-clause-capture c = refl

pub returns-clause-past : goal.returns-clause-past
returns-clause-past c = refl

pub returns-clause-operands : goal.returns-clause-operands
returns-clause-operands c = refl

pub returns-clause-caches : goal.returns-clause-caches
returns-clause-caches c = refl

pub returns-clause-over : goal.returns-clause-over
returns-clause-over c = refl
