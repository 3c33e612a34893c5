use Rattle.tm_meaning.specs.Machine.{Failed}
use Rattle.tm_meaning.specs.Steps.{final}
use Rattle.tm_safety.proofs.Ends.{run_ends_well}
use Rattle.tm_safety.proofs.a_fault_of_streams_arises.Goals as goal

pub returns : goal.returns
returns c = λ p k heard ks told got w left chain run. run_ends_well p k heard ks told w (final got (Failed chain left)) run
