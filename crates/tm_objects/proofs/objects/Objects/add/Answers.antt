use Rattle.std.proofs.Common.{rules}
use Rattle.tm_objects.proofs.objects.Objects.add.Goals as goal

pub returns-clause-ok : goal.returns-clause-ok
returns-clause-ok g c = search rules fits 100
