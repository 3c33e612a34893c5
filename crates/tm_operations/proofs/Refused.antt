-- An error that a part answers is the answer of the whole.
use Rattle.std.proofs.Common.{◌≡◌, List, Ok, Err, ap, sym, ◌∙◌}
use Rattle.std.specs.Result.{IsErrAnd}
use Rattle.tm_definitions.specs.Iteration.{IsAnswerRead}
use Rattle.tm_values.specs.Answer.{Answer, IsAnswer}
use Rattle.tm_values.specs.declared.error.ErrorKind.{ErrorKind}

pub passed : {A : Type 0} (r : Answer A) (chain : List ErrorKind) (stated : Answer A) → IsErrAnd r (λ x. x ≡ chain) →
    stated ≡ Err chain → IsAnswer r stated
passed (Ok v) chain stated is h = absurd is
passed (Err x) chain stated is h = λ m. h ∙ ap Err (sym is)

pub passed_read : {A B : Type 0} (r : Answer A) (chain : List ErrorKind) (read : A → B) (stated : Answer B) →
    IsErrAnd r (λ x. x ≡ chain) → stated ≡ Err chain → IsAnswerRead r read stated
passed_read (Ok v) chain read stated is h = absurd is
passed_read (Err x) chain read stated is h = λ m. h ∙ ap Err (sym is)
