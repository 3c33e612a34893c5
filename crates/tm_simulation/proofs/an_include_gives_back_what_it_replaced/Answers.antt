use Rattle.tm_simulation.proofs.Keeps.{include_gives_back, include_keeps_scopes}
use Rattle.tm_simulation.proofs.an_include_gives_back_what_it_replaced.Goals as goal

pub returns-clause-back : goal.returns-clause-back
returns-clause-back c = include_gives_back

pub returns-clause-scopes : goal.returns-clause-scopes
returns-clause-scopes c = include_keeps_scopes
