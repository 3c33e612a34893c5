-- Why nothing was made.
use Rattle.std.proofs.Common.{◌≡◌, inl, inr, List, Result, Ok, Err, IfErr, IsErrAnd, sym, subst}
use Rattle.tm_values.specs.declared.error.ErrorKind.{ErrorKind}
use Rattle.tm_values.specs.Answer.{Refused}

-- What refuses one thing refuses what follows from it.
pub refused_by : {P Q : Type 0} (e : List ErrorKind) → (P → Q) → Refused e P → Refused e Q
refused_by e f (inl h) = inl h
refused_by e f (inr h) = inr (h.0, f h.1)

-- an error that is passed on
pub passed : {T E : Type 0} (r : Result T E) (Q : E → Type 0) (e : E) → IsErrAnd r (λ x. x ≡ e) → Q e → IfErr r Q
passed (Ok x) Q e p q = tt
passed (Err y) Q e p q = subst Q (sym p) q

pub refused_result : {T P Q : Type 0} (r : Result T (List ErrorKind)) → (P → Q) → IfErr r (λ e. Refused e P) → IfErr r (λ e. Refused e Q)
refused_result (Ok x) f h = h
refused_result (Err e) f h = refused_by e f h
