use Rattle.tm_simulation.proofs.Called.{block_arises, filter_arises, format_arises, named_arises, test_arises, value_arises}
use Rattle.tm_simulation.proofs.a_fault_of_a_call_arises.Goals as goal

pub returns-clause-block : goal.returns-clause-block
returns-clause-block c = block_arises

pub returns-clause-name : goal.returns-clause-name
returns-clause-name c = named_arises

pub returns-clause-filter : goal.returns-clause-filter
returns-clause-filter c = filter_arises

pub returns-clause-test : goal.returns-clause-test
returns-clause-test c = test_arises

pub returns-clause-formatted : goal.returns-clause-formatted
returns-clause-formatted c = format_arises

pub returns-clause-value : goal.returns-clause-value
returns-clause-value c = value_arises
