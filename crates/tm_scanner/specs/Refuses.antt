-- When a result is refused.
use Rattle.std.specs.Prelude.{List, Result, IfErr}
use Rattle.tm_values.specs.Answer.{Refused}
use Rattle.tm_values.specs.declared.error.ErrorKind.{ErrorKind}

-- No value and rest satisfy P, unless memory ran out.
abbrev pub Refuses : {T A B : Type 0} → Result T (List ErrorKind) → (A → B → Type 0) → Type 0
Refuses {A = A} {B = B} r P = IfErr r (λ e. Refused e ((x : A) (left : B) → P x left → ⊥))
