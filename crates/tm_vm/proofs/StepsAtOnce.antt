-- A step that is done at once.
use Rattle.std.proofs.Common.{◌≡◌, ◌<◌, ◌+◌, ◌-◌, ℕ, List, Option, Some, Ok, Err, refl, arith, slice_get}
use Rattle.tm_trees.specs.Instructions.{Instruction}
use Rattle.tm_meaning.specs.World.{CanPay}
use Rattle.tm_meaning.specs.Machine.{Config, Program}
use Rattle.tm_meaning.specs.Steps.{charge_of, effect}
use Rattle.tm_meaning.specs.declared.base.Base.{Base}
use Rattle.tm_parts.specs.declared.halt.Halt.TheVariants as halt
use Rattle.tm_output.specs.Counts.{Told}
use Rattle.tm_vm.specs.AtOnce.{Attempted, IsPaid, StepAttempted, no_memory, paid}
use Rattle.tm_runs.specs.declared.attempt.Attempt.{Attempt}
use Rattle.tm_runs.specs.declared.attempt.Attempt.TheVariants.{Done, DoneFree, Left, WriterFailed, NoMemory}
use Rattle.tm_vm.specs.declared.flow.Flow.TheVariants as flow
use Rattle.tm_vm.proofs.Performed.{done_at_once, done_free, wrote}
use Rattle.tm_vm.proofs.Weight.{paid_for}

left_of : (charge fuel : ℕ) → charge ≡ 1 → CanPay 1 fuel → fuel - 1 + charge ≡ fuel
left_of charge fuel one more = omega (arith, one, more)

free_of : (charge fuel : ℕ) → charge ≡ 0 → fuel + charge ≡ fuel
free_of charge fuel free = omega (arith, free)

pub step_attempted : (size : ℕ) (p : Program) (f : Base) (x : Instruction) (old new : Config) (told now : Told)
    (attempt : Attempt) → slice_get (p.code old.run.stream) old.run.place ≡ Some x → old.run.place < size →
    IsPaid attempt x old.world.fuel → Attempted attempt (effect p f x) old new told now →
    StepAttempted attempt f p size old new told now
step_attempted size p f x old new told now Done found within is_paid did = (
  done_at_once p f x old new (Ok flow.GoOn) found is_paid.0 is_paid.1 (wrote (Ok flow.GoOn) did),
  paid_for {f = f} {told = told} {now = now} size p x old (paid old) new
      (Ok flow.GoOn) (left_of (charge_of x) old.world.fuel is_paid.0 is_paid.1) refl refl within (wrote (Ok flow.GoOn) did),
)
step_attempted size p f x old new told now DoneFree found within is_paid did = (
  done_free p f x old new (Ok flow.GoOn) found is_paid (wrote (Ok flow.GoOn) did),
  paid_for {f = f} {told = told} {now = now} size p x old old new
      (Ok flow.GoOn) (free_of (charge_of x) old.world.fuel is_paid) refl refl within (wrote (Ok flow.GoOn) did),
)
step_attempted size p f x old new told now NoMemory found within is_paid did =
    done_at_once p f x old new (Err no_memory) found is_paid.0 is_paid.1 (wrote (Err no_memory) did)
step_attempted size p f x old new told now WriterFailed found within is_paid did =
    done_at_once p f x old new (Err halt.Writer) found is_paid.0 is_paid.1 (wrote (Err halt.Writer) did)
step_attempted size p f x old new told now Left found within is_paid did = did
