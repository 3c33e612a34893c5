-- What a step did, if the value that it made is larger than the host allows: memory ran out after it.
use Rattle.std.proofs.Common.{◌≡◌, List, [], ◌∷◌, ◌++◌, Result, Ok, Err, append-nil, subst, sym, true≢false}
use Rattle.tm_meaning.specs.Machine.{Config, Next, Program}
use Rattle.tm_meaning.specs.declared.base.Base.{Base}
use Rattle.tm_output.specs.Counts.{AppendsBeginning, Told}
use Rattle.tm_output.specs.Pieces.{appends_beginning, beginning_nothing}
use Rattle.tm_values.specs.declared.error.ErrorKind.TheVariants.{OutOfMemory}
use Rattle.tm_vm.specs.Answers.{Performs, output}
use Rattle.tm_vm.specs.AtOnce.{no_memory}
use Rattle.tm_vm.specs.declared.flow.Flow.TheVariants as flow

-- after a step that was done, which has written all of its text
pub too_large :
    {p : Program} {f : Base} {n : Next} {old new : Config} {told now : Told} →
    Performs p f n old new told now (Ok flow.GoOn) → Performs p f n old new told now (Err no_memory)
too_large {n = n} {told = told} {now = now} done = record {
  did = (
    λ other. absurd (true≢false other),
    subst (AppendsBeginning told.bytes now.bytes) (append-nil (output n))
        (appends_beginning told.bytes now.bytes (output n) [] done.did.1),
  );
  counted = done.counted;
  kept = done.kept;
  names = done.names;
  depths = done.depths;
  same_stream = done.same_stream;
}

-- after a call that is finished, which wrote nothing
pub called_too_large :
    {p : Program} {f : Base} {n : Next} {old new : Config} {told now : Told} →
    Performs p f n old new told now (Ok flow.Called) → Performs p f n old new told now (Err no_memory)
called_too_large {n = n} {told = told} {now = now} done = record {
  did = (
    λ other. absurd (true≢false other),
    subst (λ bytes. AppendsBeginning told.bytes bytes (output n)) (sym done.did.1) (beginning_nothing told.bytes (output n)),
  );
  counted = done.counted;
  kept = done.kept;
  names = done.names;
  depths = done.depths;
  same_stream = done.same_stream;
}

pub ruleset no_memory_after = (too_large, called_too_large)
