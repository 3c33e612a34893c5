use Rattle.std.proofs.Common.{◌≡◌, ◌∙◌, false, inr, subst, true}
use Rattle.tm_shapes.specs.Accepts.{accepts}
use Rattle.tm_shapes.proofs.verifier.verify.Goals as goal

pub returns-in-Ok-clause-accepted : goal.returns-in-Ok-clause-accepted
returns-in-Ok-clause-accepted c =
    let given = c.from_vec.ensures in
    (c.in-Ok.ensures.accepted.0 ∙ given, subst (λ code. accepts c.args.form code ≡ true) given c.in-Ok.ensures.accepted.1)

pub returns-in-Err-BadStream-clause-refused : goal.returns-in-Err-BadStream-clause-refused
returns-in-Err-BadStream-clause-refused c = inr (
  c.from.ensures,
  subst (λ code. accepts c.args.form code ≡ false) c.from_vec.ensures (c.in-Err-BadStream.ensures.refused c.in-Err-BadStream.field-0-is),
)
