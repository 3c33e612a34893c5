use Rattle.std.proofs.Common.{rules}
use Rattle.tm_objects.proofs.plain.PlainCallable.call.Goals as goal

pub returns : goal.returns
returns g c = search rules fits 100
