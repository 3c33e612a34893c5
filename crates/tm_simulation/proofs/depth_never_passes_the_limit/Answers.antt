use Rattle.tm_simulation.proofs.Depths.{block_within, filter_within, format_within, named_within, render_within, run_within, test_within}
use Rattle.tm_simulation.proofs.Depths.{value_within}
use Rattle.tm_simulation.proofs.depth_never_passes_the_limit.Goals as goal

pub returns-clause-render : goal.returns-clause-render
returns-clause-render c = render_within

pub returns-clause-run : goal.returns-clause-run
returns-clause-run c = run_within

pub returns-clause-block : goal.returns-clause-block
returns-clause-block c = block_within

pub returns-clause-name : goal.returns-clause-name
returns-clause-name c = named_within

pub returns-clause-filter : goal.returns-clause-filter
returns-clause-filter c = filter_within

pub returns-clause-test : goal.returns-clause-test
returns-clause-test c = test_within

pub returns-clause-formatted : goal.returns-clause-formatted
returns-clause-formatted c = format_within

pub returns-clause-value : goal.returns-clause-value
returns-clause-value c = value_within
