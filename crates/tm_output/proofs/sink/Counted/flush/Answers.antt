use Rattle.std.proofs.Common.{rules}
use Rattle.tm_output.proofs.sink.Counted.flush.Goals as goal

pub returns-clause-bytes : goal.returns-clause-bytes
returns-clause-bytes g c = search rules fits 100
