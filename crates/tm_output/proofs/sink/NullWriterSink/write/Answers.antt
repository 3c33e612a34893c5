use Rattle.std.proofs.Common.{rules}
use Rattle.tm_output.proofs.sink.NullWriterSink.write.Goals as goal

pub returns-clause-all : goal.returns-clause-all
returns-clause-all c = search rules fits 100
