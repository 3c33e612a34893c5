use Rattle.std.proofs.Common.{rules}
use Rattle.tm_objects.proofs.objects.Objects.next_number.Goals as goal

pub returns-clause-some : goal.returns-clause-some
returns-clause-some g c = search rules fits 100
