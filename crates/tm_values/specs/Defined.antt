-- Operations that refuse undefined values.
use Rattle.std.specs.Prelude.{Option, None, Some}
use Rattle.tm_values.specs.Answer.{Answer, refused}
use Rattle.tm_values.specs.Undefined.{undefined_refusal}
use Rattle.tm_values.specs.Val.{Val, undefined}
use Rattle.tm_values.specs.declared.error.ErrorKind.{ErrorKind}
use Rattle.tm_values.specs.declared.undefined.UndefinedBehavior.{UndefinedBehavior}
use Rattle.tm_values.specs.declared.undefined.UndefinedUse.{UndefinedUse}

-- the error of using an undefined value
abbrev pub refusal_of : UndefinedBehavior → UndefinedUse → Val → Option ErrorKind
refusal_of b purpose (undefined silent) = undefined_refusal b purpose silent
refusal_of b purpose _ = None

-- the refusal, if there is one; otherwise the answer
abbrev pub unless : {A : Type 0} → Option ErrorKind → Answer A → Answer A
unless None answer = answer
unless (Some kind) answer = refused kind
