-- Why runs stop before their end.
use Rattle.std.specs.Prelude.{◌≡◌, ◌≢◌, ℕ, List, [], ◌∷◌, Option, Result, Ok, Err}
use Rattle.tm_values.specs.declared.error.ErrorKind.{ErrorKind}
use Rattle.tm_values.specs.declared.error.ErrorKind.TheVariants.{WriteFailure, BadStream, OutOfMemory}
use Rattle.tm_output.specs.Counts.{saturating_increment}
use Rattle.tm_meaning.specs.Machine.{Capture}
use Rattle.tm_parts.specs.declared.halt.Halt.{Halt}
use Rattle.tm_parts.specs.declared.halt.Halt.TheVariants.{Writer, Stuck, Fault}

-- the chain of the error that the caller gets for a halt
abbrev pub error_of : Halt → List ErrorKind
error_of Writer = WriteFailure ∷ []
error_of Stuck = BadStream ∷ []
error_of (Fault chain) = chain

-- the writer's count of failures after a result: one more if the writer halted the run, and
-- unchanged otherwise
abbrev pub failures_after : {A : Type 0} → Result A Halt → ℕ → ℕ
failures_after (Ok _) failures = failures
failures_after (Err Writer) failures = saturating_increment failures
failures_after (Err Stuck) failures = failures
failures_after (Err (Fault chain)) failures = failures

-- Why a text wasn't appended: the writer failed, with no capture open; or memory ran out for a
-- capture, and the writer got nothing.
abbrev pub PutHalts : Halt → List Capture → Option (List ℕ) → Option (List ℕ) → Type 0
PutHalts Writer captures told now = captures ≡ []
PutHalts Stuck captures told now = ⊥
PutHalts (Fault chain) captures told now = (chain ≡ OutOfMemory ∷ []) × (captures ≢ []) × (now ≡ told)

-- Why a value wasn't emitted to its end: the writer failed, with no capture open; or memory ran
-- out.
abbrev pub EmitHalts : Halt → List Capture → Type 0
EmitHalts Writer captures = captures ≡ []
EmitHalts Stuck captures = ⊥
EmitHalts (Fault chain) captures = chain ≡ OutOfMemory ∷ []
