-- The results of operations: what their definition states, or OutOfMemory.
use Rattle.std.specs.Borrow.{Bor}
use Rattle.std.specs.Prelude.{◌≡◌, ◌⊎◌, List, [], ◌∷◌, Bool, true, false, Option, None, Some, MatchOption, Result, Ok, Err, MatchResult}
use Rattle.tm_values.specs.Chain.{is_memory}
use Rattle.tm_values.specs.declared.error.ErrorKind.{ErrorKind}
use Rattle.tm_values.specs.declared.error.ErrorKind.TheVariants.{InvalidOperation, OutOfMemory, SyntaxError}

-- a value, or the chain of an error
abbrev pub Answer : Type 0 → Type 0
Answer A = Result A (List ErrorKind)

-- an error of this kind without a cause
abbrev pub refused : {A : Type 0} → ErrorKind → Answer A
refused kind = Err (kind ∷ [])

abbrev pub invalid : {A : Type 0} → Answer A
invalid = refused InvalidOperation

-- the chain is OutOfMemory without a cause
abbrev pub is_memory_alone : List ErrorKind → Bool
is_memory_alone [] = false
is_memory_alone (kind ∷ []) = is_memory kind
is_memory_alone (kind ∷ cause ∷ causes) = false

-- The result is the stated one, unless it is OutOfMemory.
abbrev pub IsAnswer : {A : Type 0} → Answer A → Answer A → Type 0
IsAnswer (Ok v) stated = stated ≡ Ok v
IsAnswer (Err chain) stated = is_memory_alone chain ≡ false → stated ≡ Err chain

-- The result satisfies IsSo, or the error is OutOfMemory alone.
abbrev pub OkOrOutOfMemory : {A : Type 0} → Result A (List ErrorKind) → (A → Type 0) → Type 0
OkOrOutOfMemory result IsSo = MatchResult result IsSo (λ chain. chain ≡ OutOfMemory ∷ [])

-- Memory ran out, or it is a syntax error for this reason.
abbrev pub Refused : List ErrorKind → Type 0 → Type 0
Refused chain reason = (chain ≡ OutOfMemory ∷ []) ⊎ ((chain ≡ SyntaxError ∷ []) × reason)

-- Either it was done, or nothing changed.
abbrev pub OrStays : {A : Type 0} → Bool → A → A → Type 0 → Type 0
OrStays true old new Done = Done
OrStays false old new Done = new ≡ old

-- The borrow points to the stated value, or is None if none is stated.
abbrev pub IsLent : {A : Type 0} → Option (Bor A) → Option A → Type 0
IsLent lent stated = MatchOption lent (stated ≡ None) (λ x. stated ≡ Some x.now)
