use Rattle.std.proofs.Common.{rules}
use Rattle.tm_objects.proofs.view.View.name.Goals as goal

pub returns : goal.returns
returns c = search rules fits 100
