-- What comes of an instruction that is done at once where it can be.
use Rattle.std.specs.Prelude.{◌≡◌, ◌-◌, ℕ, [], ◌∷◌, Ok, Err, Bool, true, false}
use Rattle.tm_values.specs.declared.error.ErrorKind.TheVariants.{OutOfMemory}
use Rattle.tm_trees.specs.Instructions.{Instruction}
use Rattle.tm_meaning.specs.World.{CanPay}
use Rattle.tm_meaning.specs.Steps.{charge_of, step}
use Rattle.tm_meaning.specs.Machine.{Config, Next, Program}
use Rattle.tm_meaning.specs.declared.base.Base.{Base}
use Rattle.tm_parts.specs.declared.halt.Halt.{Halt}
use Rattle.tm_parts.specs.declared.halt.Halt.TheVariants as halt
use Rattle.tm_output.specs.Counts.{Told}
use Rattle.tm_vm.specs.Answers.{Paid, Performs, Silently, WritesNext}
use Rattle.tm_runs.specs.declared.attempt.Attempt.{Attempt}
use Rattle.tm_runs.specs.declared.attempt.Attempt.TheVariants.{Done, DoneFree, Left, WriterFailed, NoMemory}
use Rattle.tm_vm.specs.declared.flow.Flow.TheVariants as flow

-- a run that ends because memory ran out
abbrev pub no_memory : Halt
no_memory = halt.Fault (OutOfMemory ∷ [])

-- a charge of 1 is paid
abbrev pub paid : Config → Config
paid c = record c { world = record c.world { fuel = c.world.fuel - 1 } }

-- The instruction was charged and done, and the run continues; or nothing changed.
abbrev pub IsAtOnce : Bool → (Config → Next) → Config → Config → Type 0
IsAtOnce true n old new = Silently (n (paid old)) (paid old) new (Ok flow.GoOn)
IsAtOnce false n old new = new ≡ old

-- The instruction is free and was done, and the run continues; or nothing changed.
abbrev pub IsFree : Bool → (Config → Next) → Config → Config → Type 0
IsFree true n old new = Silently (n old) old new (Ok flow.GoOn)
IsFree false n old new = new ≡ old

-- The same of one that may write: by the writer, or when out of memory, it may have ended.
abbrev pub Attempted : Attempt → (Config → Next) → Config → Config → Told → Told → Type 0
Attempted Done n old new told now = WritesNext (n (paid old)) (paid old) new told now (Ok flow.GoOn)
Attempted WriterFailed n old new told now = WritesNext (n (paid old)) (paid old) new told now (Err halt.Writer)
Attempted DoneFree n old new told now = WritesNext (n old) old new told now (Ok flow.GoOn)
Attempted NoMemory n old new told now = WritesNext (n (paid old)) (paid old) new told now (Err no_memory)
Attempted Left n old new told now = (new ≡ old) × (now ≡ told)

-- The same for one that wrote nothing to the writer.
abbrev pub AttemptedUntold : Attempt → (Config → Next) → Config → Config → Type 0
AttemptedUntold attempt n old new = (told : Told) → Attempted attempt n old new told told

-- It wasn't done free of charge.
abbrev pub IsCharged : Attempt → Type 0
IsCharged DoneFree = ⊥
IsCharged _ = Unit {0}

-- What was done is free of charge, or its charge of 1 could be paid.
abbrev pub IsPaid : Attempt → Instruction → ℕ → Type 0
IsPaid Left x fuel = Unit {0}
IsPaid DoneFree x fuel = charge_of x ≡ 0
IsPaid Done x fuel = (charge_of x ≡ 1) × CanPay 1 fuel
IsPaid NoMemory x fuel = (charge_of x ≡ 1) × CanPay 1 fuel
IsPaid WriterFailed x fuel = (charge_of x ≡ 1) × CanPay 1 fuel

-- The step was done at once, or ended by the writer or when out of memory; or all stayed as it was.
abbrev pub StepAttempted : Attempt → Base → Program → ℕ → Config → Config → Told → Told → Type 0
StepAttempted Done f p size old new told now =
    Performs p f (step p f old) old new told now (Ok flow.GoOn) × Paid p size (Ok flow.GoOn) old new
StepAttempted DoneFree f p size old new told now =
    Performs p f (step p f old) old new told now (Ok flow.GoOn) × Paid p size (Ok flow.GoOn) old new
StepAttempted NoMemory f p size old new told now =
    Performs p f (step p f old) old new told now (Err no_memory)
StepAttempted WriterFailed f p size old new told now =
    Performs p f (step p f old) old new told now (Err halt.Writer)
StepAttempted Left f p size old new told now = (new ≡ old) × (now ≡ told)
