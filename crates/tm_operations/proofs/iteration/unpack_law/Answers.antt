use Rattle.tm_operations.proofs.Unpacking.{unpacks_as_iterated}
use Rattle.tm_operations.proofs.iteration.unpack_law.Goals as goal

pub returns : goal.returns
returns c = unpacks_as_iterated
