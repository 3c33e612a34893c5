use Rattle.std.proofs.Common.{rules}
use Rattle.tm_objects.proofs.objects.Objects.of_language.Goals as goal

pub returns : goal.returns
returns g c = search rules fits 100
