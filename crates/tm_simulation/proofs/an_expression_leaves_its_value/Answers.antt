use Rattle.tm_simulation.proofs.Leaves.{nested_leaves, evaluated_is}
use Rattle.tm_simulation.proofs.an_expression_leaves_its_value.Goals as goal

pub returns-clause-run : goal.returns-clause-run
returns-clause-run c = nested_leaves

pub returns-clause-value : goal.returns-clause-value
returns-clause-value c = evaluated_is
