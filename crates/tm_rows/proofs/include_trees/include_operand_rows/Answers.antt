use Rattle.std.proofs.Common.{refl}
use Rattle.tm_rows.proofs.include_trees.include_operand_rows.Goals as goal

pub returns-clause-name : goal.returns-clause-name
returns-clause-name c = refl

pub returns-clause-module : goal.returns-clause-module
returns-clause-module c = refl

pub returns-clause-nothing : goal.returns-clause-nothing
returns-clause-nothing c = refl

pub returns-clause-number : goal.returns-clause-number
returns-clause-number c = refl
