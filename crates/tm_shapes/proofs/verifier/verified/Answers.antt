use Rattle.std.proofs.Common.{◌≡◌, false, subst, true}
use Rattle.tm_shapes.specs.Accepts.{accepts}
use Rattle.tm_shapes.proofs.Answering.{passed}
use Rattle.tm_shapes.proofs.verifier.verified.Goals as goal

pub returns-in_err-check-clause-refused : goal.returns-in_err-check-clause-refused
returns-in_err-check-clause-refused c =
    passed c.from_residual.result c.in_err-check.field-0.0 _ c.from_residual.ensures.1 (λ is.
    subst (λ code. accepts c.args.form code ≡ false) c.as_slice.ensures (c.in_err-check.ensures.refused is))

pub new-requires : goal.new-requires
new-requires c = subst (λ code. accepts c.args.form code ≡ true) c.as_slice.ensures c.in_ok-check.ensures.accepted

pub returns-clause-accepted : goal.returns-clause-accepted
returns-clause-accepted c =
    (c.in_ok-new.ensures, subst (λ code. accepts c.args.form code ≡ true) c.as_slice.ensures c.in_ok-check.ensures.accepted)
