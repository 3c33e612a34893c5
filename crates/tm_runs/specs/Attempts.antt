-- The result of attempting an instruction, from the result of its function.
use Rattle.std.specs.Prelude.{Result, Ok, Err, Bool, true, false}
use Rattle.tm_output.specs.declared.target.TargetFailed.{TargetFailed}
use Rattle.tm_runs.specs.declared.attempt.Attempt.{Attempt}
use Rattle.tm_runs.specs.declared.attempt.Attempt.TheVariants.{Done, DoneFree, Left, WriterFailed, NoMemory}

abbrev pub attempt_of : Bool → Attempt
attempt_of true = Done
attempt_of false = Left

abbrev pub free_attempt_of : Bool → Attempt
free_attempt_of true = DoneFree
free_attempt_of false = Left

abbrev pub written_of : Result (Unit {0}) TargetFailed → Attempt
written_of (Ok _) = Done
written_of (Err _) = WriterFailed

abbrev pub captured_of : Result (Unit {0}) TargetFailed → Attempt
captured_of (Ok _) = Done
captured_of (Err _) = NoMemory
