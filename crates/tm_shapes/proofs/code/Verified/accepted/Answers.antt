use Rattle.std.proofs.Common.{subst}
use Rattle.tm_shapes.specs.Verified.{IsAccepted}
use Rattle.tm_shapes.proofs.code.Verified.accepted.Goals as goal

pub returns : goal.returns
returns c = subst IsAccepted c.self.view_is (c.self.inside.form, c.self.invariant.3)
