use Rattle.tm_scopes.proofs.Ordered.{found_value}
use Rattle.tm_scopes.proofs.pairs.value_of.Goals as goal

pub returns-in-Some : goal.returns-in-Some
returns-in-Some c = found_value c.args.name.now c.args.pairs.now c.in-Some.place c.index-pairs-place.result c.in-Some.ensures
