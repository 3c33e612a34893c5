-- A run that an instruction needed, and the machine after it.
use Rattle.std.specs.Prelude.{◌≡◌, ◌⊎◌, ◌+◌, ◌-◌, ◌≤◌, ℕ, List, [], ◌∷◌, length, Option, Result, Ok, Err, true}
use Rattle.std.specs.Io.KnownBytes.{Appends}
use Rattle.tm_values.specs.Val.{Val}
use Rattle.tm_meaning.specs.World.{World, without_first}
use Rattle.tm_meaning.specs.Memory.{is_want_of_memory}
use Rattle.tm_values.specs.declared.error.ErrorKind.TheVariants.{OutOfMemory}
use Rattle.tm_meaning.specs.Calls.{outermost, wrapped}
use Rattle.tm_meaning.specs.declared.wrapping.Wrapping.{Wrapping}
use Rattle.tm_meaning.specs.Machine.{Activation, Capture, Config, End, Finished, Failed, Stuck, Next, More, Over, Program, back_with, stuck}
use Rattle.tm_meaning.specs.Machine.{base_of}
use Rattle.tm_meaning.specs.Steps.{Final, Leads, begins, final}
use Rattle.tm_meaning.specs.declared.base.Base.{Base}
use Rattle.tm_meaning.specs.declared.run_text.RunText.{RunText}
use Rattle.tm_output.specs.Counts.{AppendsBeginning}
use Rattle.tm_parts.specs.declared.halt.Halt.{Halt}
use Rattle.tm_parts.specs.declared.halt.Halt.TheVariants as halt
use Rattle.tm_vm.specs.Answers.{ComesTo, HaltsAs}
use Rattle.tm_state.specs.State.{callee_of, put_back}
use Rattle.tm_records.specs.declared.saved.Saved.{Saved}
use Rattle.tm_records.specs.declared.saved.Saved.TheVariants as saved
use Rattle.tm_records.specs.declared.nested.NestedRun.{NestedRun}

-- the base and the beginning of the run; c is the configuration
abbrev pub base_in : NestedRun → Config → Base
base_in e c = base_of e.heard c.captures c.world

abbrev pub begins_in : Program → NestedRun → Config → Next
begins_in p e c = begins p (base_in e c) (callee_of e.run) c.captures c.world

-- What the run's end means for the waiting run, after the state is restored: it continues, with the
-- captured text on top if that is a value; or it ends in the same way.
abbrev pub after : NestedRun → Activation → End → Next
after e r (Finished vs ks w) = back_with e.value e.text r ks (put_back e.saved w)
after e r (Failed chain w) = Over (Failed (wrapped e.wrap chain) (put_back e.saved w))
after e r (Stuck w) = stuck (put_back e.saved w)

-- The run finished, the writer received its text, and the waiting run continues.
pub record Went (p : Program) (e : NestedRun) (old new : Config) (told now : Option (List ℕ)) : Type 0 where
  pub text : List ℕ
  pub operands : List Val
  pub captures : List Capture
  pub world : World
  pub appended : Appends told now text
  pub leads : Leads p (base_in e old) [] (begins_in p e old) (final text (Finished operands captures world))
  pub goes : after e old.run (Finished operands captures world) ≡ More [] new

-- The scopes of a block's run are those from before and one of its own; a macro's run has the same
-- loaded names as before; and for an include's both hold, with a scope of its own or without.
abbrev pub StandsOn : Saved → World → Type 0
StandsOn (saved.Block s) w = length w.scopes.frames ≡ s.scopes + 1
StandsOn (saved.Super s) w = length w.scopes.frames ≡ s.replaced.scopes + 1
StandsOn (saved.Macro s) w = s.lists.loaded ≡ w.loaded
StandsOn (saved.Include s) w = (s.replaced.scopes ≤ length w.scopes.frames) × (s.lists.loaded ≡ w.loaded)

-- The scopes are those below the run's own, at the former depth, or the saved ones; after an
-- include they are as many, and the same below the innermost. The places in the lists of blocks are
-- the saved ones, or those from before a block's run.
abbrev pub IsBack : Saved → World → World → Type 0
IsBack (saved.Block s) begun w =
    (w.scopes.frames ≡ without_first begun.scopes.frames) × (w.scopes.outer ≡ s.outer) × (w.places ≡ begun.places)
IsBack (saved.Super s) begun w =
    (w.scopes.frames ≡ without_first begun.scopes.frames) × (w.scopes.outer ≡ s.replaced.outer) × (w.places ≡ s.places)
IsBack (saved.Macro s) begun w = (w.scopes ≡ s.context) × (w.places ≡ s.lists.places)
IsBack (saved.Include s) begun w =
    (length w.scopes.frames ≡ s.replaced.scopes)
    × (outermost (s.replaced.scopes - 1) w.scopes.frames ≡ outermost (s.replaced.scopes - 1) begun.scopes.frames)
    × (w.scopes.outer ≡ s.replaced.outer) × (w.places ≡ s.lists.places)

-- The run came to an end that means this end for the waiting run.
abbrev pub EndsNested : Program → NestedRun → Config → Option (List ℕ) → Option (List ℕ) → End → Type 0
EndsNested p e old told now x = (inner : End) × ComesTo p (base_in e old) (begins_in p e old) told now inner ×
    (after e old.run inner ≡ Over x)

-- The run finished, or the halt is the end that it means.
abbrev pub RanNested : Program → NestedRun → Config → Config → Option (List ℕ) → Option (List ℕ) → Result (Unit {0}) Halt → Type 0
RanNested p e old new told now (Ok _) = Went p e old new told now
RanNested p e old new told now (Err why) = HaltsAs why new.world (EndsNested p e old told now)

-- A kind wraps a fault, but neither the writer's failure nor a stuck run; memory may run out for
-- it.
abbrev pub IsWrapped : Option Wrapping → Halt → Halt → Type 0
IsWrapped wrap halt.Writer now = now ≡ halt.Writer
IsWrapped wrap halt.Stuck now = now ≡ halt.Stuck
IsWrapped wrap (halt.Fault chain) now = (now ≡ halt.Fault (wrapped wrap chain)) ⊎ (now ≡ halt.Fault (OutOfMemory ∷ []))

-- The innermost capture's text was pushed; or none was open; or memory ran out.
abbrev pub IsCaptured : RunText → Result (Unit {0}) Halt → Config → Config → Type 0
IsCaptured kind (Ok _) old new = back_with true kind old.run old.captures old.world ≡ More [] new
IsCaptured kind (Err halt.Writer) old new = ⊥
IsCaptured kind (Err halt.Stuck) old new = old.captures ≡ []
IsCaptured kind (Err (halt.Fault chain)) old new = is_want_of_memory chain ≡ true

-- What the writer has received is a prefix of all that is written from this step on.
abbrev pub WroteBeginning : Program → Base → Next → Option (List ℕ) → Option (List ℕ) → Type 0
WroteBeginning p f n told now = (o : Final) → Leads p f [] n o → AppendsBeginning told now o.text
