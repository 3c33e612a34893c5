use Rattle.std.proofs.Common.{rules}
use Rattle.tm_output.proofs.sink.CountedSink.write.Goals as goal

pub returns-in-Ok-clause-failures : goal.returns-in-Ok-clause-failures
returns-in-Ok-clause-failures g c = search rules fits 100
