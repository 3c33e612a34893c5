-- What writers take and how often they fail.
use Rattle.std.specs.Prelude.{◌≡◌, ℕ, ◌+◌, ◌-◌, ◌^◌, min, List, take, Result, Ok, Err, Option, None, zero, suc}
use Rattle.std.specs.Io.KnownBytes.{Appends}

-- What a writer was given, if that is known, and how many of its calls failed or took nothing.
pub record Told : Type 0 where
  pub bytes : Option (List ℕ)
  pub failures : ℕ

-- what a writer is told that keeps nothing and never fails
abbrev pub untold : Told
untold = record { bytes = None; failures = 0 }

-- A writer, and how many of its calls failed or took nothing.
pub record Tally (W : Type 0) : Type 0 where
  pub writer : W
  pub failures : ℕ

-- what it was told, by what of its bytes is known
abbrev pub told_of : {W : Type 0} → (W → Option (List ℕ)) → Tally W → Told
told_of contents tally = record { bytes = contents tally.writer; failures = tally.failures }

-- a sink after a limit, how many bytes it may still take, and how many calls failed or took nothing
pub record Bounded (S : Type 0) : Type 0 where
  pub sink : S
  pub left : ℕ
  pub failures : ℕ

-- one more, but at most the largest u64
abbrev pub saturating_increment : ℕ → ℕ
saturating_increment n = min (n + 1) (2 ^ 64 - 1)

-- no call failed, or one did
abbrev pub NoFailure : Told → Told → Type 0
NoFailure told now = now.failures ≡ told.failures

abbrev pub OneFailure : Told → Told → Type 0
OneFailure told now = now.failures ≡ saturating_increment told.failures

-- the count after a write: one more where it failed or took nothing
abbrev pub failure_count : {E : Type 0} → Result ℕ E → ℕ → ℕ
failure_count (Ok zero) n = saturating_increment n
failure_count (Ok (suc taken)) n = n
failure_count (Err e) n = saturating_increment n

-- the limit after a write: less by what was accepted
abbrev pub left_after : {E : Type 0} → Result ℕ E → ℕ → ℕ
left_after (Ok taken) left = left - taken
left_after (Err e) left = left

-- a beginning of the text is appended to known bytes
abbrev pub AppendsBeginning : Option (List ℕ) → Option (List ℕ) → List ℕ → Type 0
AppendsBeginning old new text = (n : ℕ) × Appends old new (take n text)
