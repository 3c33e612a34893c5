use Rattle.std.proofs.Common.{rules}
use Rattle.tm_objects.proofs.view.View.lookup.Goals as goal

pub returns-in-Some : goal.returns-in-Some
returns-in-Some c = search rules fits 100
