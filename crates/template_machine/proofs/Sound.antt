-- Streams that are accepted are never stuck from a world whose records are sound, and leave one.
use Rattle.std.proofs.Common.{◌≡◌, ◌∙◌, ℕ, List, [], Result, Ok, Err, OnOk, OnErr, Bool, true, false, refl, sym, ap, subst}
use Rattle.tm_values.specs.declared.error.ErrorKind.{ErrorKind}
use Rattle.tm_meaning.specs.Calls.{Asked, has, refused, recurs, runs, Callee}
use Rattle.tm_meaning.specs.Memory.{is_want_of_memory}
use Rattle.tm_meaning.specs.Machine.{Capture, End, Finished, Failed, Stuck, Program}
use Rattle.tm_meaning.specs.Steps.{final}
use Rattle.tm_meaning.specs.World.{World}
use Rattle.tm_meaning.specs.declared.stream.StreamId.{StreamId}
use Rattle.tm_shapes.specs.Shaped.{IsShaped}
use Rattle.tm_shapes.specs.Shapes.{Shapes}
use Rattle.tm_shapes.specs.Verified.{IsAccepted}
use Rattle.tm_accepted.proofs.Accepted.{shaped}
use Rattle.tm_safety.specs.Fits.{AllEnter, ids_of}
use Rattle.tm_safety.specs.Runs.{EndsIn, stream_of}
use Rattle.tm_safety.proofs.Comes.{Comes}
use Rattle.tm_safety.proofs.Never.{leaves_records, never_stuck}
use Rattle.tm_state.specs.Answers.{Becomes, call_of}
use Rattle.tm_state.specs.State.{put_back}
use Rattle.tm_records.specs.declared.results.CallResult.{CallResult}
use Rattle.tm_records.specs.declared.results.CallResult.TheVariants as outcome
use Rattle.tm_records.specs.declared.saved.Saved.{Saved}
use Rattle.tm_records.specs.declared.saved.Saved.TheVariants as saved
use Rattle.tm_objects.specs.Stated.{StatedObjects}
use Rattle.template_machine.specs.Environment.{TemplateValue, code}
use Rattle.template_machine.specs.Renders.{IsStarted, RunEnds, SoundRecords, forgetting, program_of}

-- ---------------------------------------------------------------- runs
module _ {O : Type 0} (stated : O → StatedObjects) (t : TemplateValue O) (k : Callee) (captures : List Capture) (w : World)
    (named : w.stream ≡ stream_of k) (sound : SoundRecords t w) where
  abbrev p : Program
  p = program_of stated t

  pub never : {A : Type 0} → ((s : StreamId) → IsAccepted (code t s)) → (text : List ℕ) (left : World) →
      RunEnds stated t k captures w text (Stuck left) → A
  never accepted text left leads =
      let found : (s : StreamId) → (shapes : Shapes) × IsShaped (code t s) shapes = λ s. shaped (accepted s).0 (code t s) (accepted s).1 in
      let shapes : StreamId → Shapes = λ s. (found s).0 in
      let fit : (s : StreamId) → IsShaped (code t s) (shapes s) = λ s. (found s).1 in
      absurd (never_stuck p shapes fit k true captures [] text w left named (sound shapes fit) leads)

  pub sound_end : (text : List ℕ) (e : End) → RunEnds stated t k captures w text e → EndsIn (SoundRecords t) e
  sound_end text (Finished vs new left) leads = λ shapes fit.
      leaves_records p shapes fit k true captures [] w (final text (Finished vs new left)) named (sound shapes fit) leads
  sound_end text (Failed chain left) leads = λ shapes fit.
      leaves_records p shapes fit k true captures [] w (final text (Failed chain left)) named (sound shapes fit) leads
  sound_end text (Stuck left) leads = λ shapes fit.
      leaves_records p shapes fit k true captures [] w (final text (Stuck left)) named (sound shapes fit) leads

-- ---------------------------------------------------------------- worlds
module _ {O : Type 0} (t : TemplateValue O) where
  pub sound_as : (w left : World) → ids_of left.loops ≡ ids_of w.loops → SoundRecords t w → SoundRecords t left
  sound_as w left same sound = λ shapes fit. subst (AllEnter (code t) shapes) (sym same) (sound shapes fit)

  pub sound_put : (s : Saved) (w : World) → SoundRecords t w → SoundRecords t (put_back s w)
  sound_put (saved.Block s) w sound = sound
  sound_put (saved.Super s) w sound = sound
  sound_put (saved.Macro s) w sound = sound
  sound_put (saved.Include s) w sound = sound

  -- what may be done, or not
  pub sound_either : {A E : Type 0} (r : Result A E) (w done left : World) → OnOk r (left ≡ done) → OnErr r (left ≡ w) →
      ids_of done.loops ≡ ids_of w.loops → SoundRecords t w → SoundRecords t left
  sound_either (Ok a) w done left is same ids sound = sound_as w left (ap (λ x. ids_of x.loops) is ∙ ids) sound
  sound_either (Err e) w done left is same ids sound = subst (SoundRecords t) (sym same) sound

  -- a world whose loops are forgotten is so, and else what it was
  pub sound_left : (cut : Bool) (w left : World) → left ≡ forgetting cut w → (cut ≡ false → SoundRecords t w) → SoundRecords t left
  sound_left true w left is sound = λ shapes fit. subst (λ x. AllEnter (code t) shapes (ids_of x.loops)) (sym is) tt
  sound_left false w left is sound = subst (SoundRecords t) (sym is) (sound refl)

pub left_as : (cut : Bool) (w left : World) → left ≡ forgetting cut w → cut ≡ false → w ≡ left
left_as true w left is own = absurd (cc own)
left_as false w left is own = sym is

-- ---------------------------------------------------------------- calls
module _ (w left : World) (asked : Asked) (comes : Comes w asked) where
  pub call_ids : (called : CallResult) → Becomes (Ok called) asked left → ids_of left.loops ≡ ids_of w.loops
  call_ids (outcome.Value v) becomes = let c : Comes w (has v left) = subst (Comes w) becomes comes in c.ids
  call_ids (outcome.Recursion r) becomes =
      let c : Comes w (recurs r.number r.items.value.items left) = subst (Comes w) becomes comes in c.0.ids
  call_ids (outcome.Run e) becomes =
      let c : Comes w (runs (call_of e.value becomes.3.0) left) = subst (Comes w) becomes.3.2 comes in c.ids

  pub call_started : (called : CallResult) → Becomes (Ok called) asked left → IsStarted called left
  call_started (outcome.Value v) becomes = tt
  call_started (outcome.Recursion r) becomes = tt
  call_started (outcome.Run e) becomes =
      let c : Comes w (runs (call_of e.value becomes.3.0) left) = subst (Comes w) becomes.3.2 comes in c.stream

  pub fault_ids : (chain : List ErrorKind) → Becomes (Err chain) asked left → is_want_of_memory chain ≡ false →
      ids_of left.loops ≡ ids_of w.loops
  fault_ids chain becomes own = let c : Comes w (refused chain left) = subst (Comes w) (becomes own) comes in c
