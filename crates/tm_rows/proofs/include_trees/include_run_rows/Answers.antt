use Rattle.std.proofs.Common.{refl}
use Rattle.tm_rows.proofs.include_trees.include_run_rows.Goals as goal

pub returns-clause-blocks_twice : goal.returns-clause-blocks_twice
returns-clause-blocks_twice c = (refl, refl)

pub returns-clause-blocks_apart : goal.returns-clause-blocks_apart
returns-clause-blocks_apart c = (refl, refl)

pub returns-clause-own_escape : goal.returns-clause-own_escape
returns-clause-own_escape c = (refl, refl)

pub returns-clause-escape_around : goal.returns-clause-escape_around
returns-clause-escape_around c = (refl, refl)

pub returns-clause-loaded : goal.returns-clause-loaded
returns-clause-loaded c = (refl, refl)

pub returns-clause-no_super : goal.returns-clause-no_super
returns-clause-no_super c = (refl, refl, refl, refl)

pub returns-clause-no_loop : goal.returns-clause-no_loop
returns-clause-no_loop c = (refl, refl)

pub returns-clause-shown : goal.returns-clause-shown
returns-clause-shown c = (refl, refl, refl, refl)

pub returns-clause-parent : goal.returns-clause-parent
returns-clause-parent c = ((refl, refl, refl, refl, refl, refl), (refl, refl, refl, refl, refl, refl))
