use Rattle.tm_simulation.proofs.Keeps.{import_leaves, import_names_leaves}
use Rattle.tm_simulation.proofs.an_import_leaves_the_scopes.Goals as goal

pub returns-clause-module : goal.returns-clause-module
returns-clause-module c = import_leaves

pub returns-clause-names : goal.returns-clause-names
returns-clause-names c = import_names_leaves
