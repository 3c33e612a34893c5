use Rattle.tm_meaning.specs.Machine.{Finished}
use Rattle.tm_meaning.specs.Steps.{final}
use Rattle.tm_safety.proofs.Ends.{run_ends_well}
use Rattle.tm_safety.proofs.a_run_closes_its_captures.Goals as goal

pub returns : goal.returns
returns c = λ p k heard ks new told got w left vs run. run_ends_well p k heard ks told w (final got (Finished vs new left)) run
