use Rattle.tm_scopes.proofs.Ordered.{found_value}
use Rattle.tm_scopes.proofs.mark.ScopeMark.get.Goals as goal

pub returns-in-Some : goal.returns-in-Some
returns-in-Some c = found_value c.args.name.now c.args.own.now c.in-Some.place c.index-own-place.result c.in-Some.ensures
