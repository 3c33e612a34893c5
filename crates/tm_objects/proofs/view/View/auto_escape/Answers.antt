use Rattle.std.proofs.Common.{rules}
use Rattle.tm_objects.proofs.view.View.auto_escape.Goals as goal

pub returns : goal.returns
returns c = search rules fits 100
