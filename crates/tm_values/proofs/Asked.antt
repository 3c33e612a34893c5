-- Answers after a test for being undefined.
use Rattle.std.proofs.Common.{◌≡◌, List, Option, None, Some, Ok, Err}
use Rattle.tm_values.specs.Defined.{unless}
use Rattle.tm_values.specs.Answer.{Answer, IsAnswer}
use Rattle.tm_values.specs.declared.error.ErrorKind.{ErrorKind}

-- the test let it pass
pub passes : {A : Type 0} (kind : Option ErrorKind) (stated : Answer A) (r : Answer A) (t : Answer (Unit {0})) (u : Unit {0}) →
    t ≡ unless kind (Ok tt) → t ≡ Ok u → IsAnswer r stated → IsAnswer r (unless kind stated)
passes None stated r t u e is h = h
passes (Some kind) stated r t u e is h = absurd (cc)

-- the test refused it
pub fails : {A : Type 0} (kind : Option ErrorKind) (stated : Answer A) (t : Answer (Unit {0})) (chain : List ErrorKind) →
    t ≡ unless kind (Ok tt) → t ≡ Err chain → unless kind stated ≡ Err chain
fails None stated t chain e is = absurd (cc)
fails (Some kind) stated t chain e is = cc

-- the first test let it pass, and then it was refused
pub passes_on : {A : Type 0} (kind : Option ErrorKind) (stated : Answer A) (t : Answer (Unit {0})) (u : Unit {0}) (chain : List ErrorKind) →
    t ≡ unless kind (Ok tt) → t ≡ Ok u → stated ≡ Err chain → unless kind stated ≡ Err chain
passes_on None stated t u chain e is h = h
passes_on (Some kind) stated t u chain e is h = absurd (cc)
