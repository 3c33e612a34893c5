-- What a run of streams answered.
use Rattle.std.proofs.Common.{◌≡◌, ℕ, List, [], ◌∷◌, Option, Some, None, Result, Ok, Err, Bool, true, false, String, string_bytes, length, refl, sym, ap, subst, ◌∙◌, inl, inr}
use Rattle.std.specs.declared.alloc.Global.{Global}
use Rattle.tm_values.specs.Val.{Val}
use Rattle.tm_values.specs.declared.error.ErrorKind.{ErrorKind}
use Rattle.tm_syntax.specs.Named.{find}
use Rattle.tm_meaning.specs.Calls.{whole}
use Rattle.tm_meaning.specs.Memory.{is_want_of_memory}
use Rattle.tm_meaning.specs.Machine.{Capture, Config, End, Finished, Failed, Stuck, Program, base_of, new_capture, run_from, running}
use Rattle.tm_meaning.specs.Steps.{step}
use Rattle.tm_meaning.specs.World.{World, or_is}
use Rattle.tm_meaning.specs.declared.stream.StreamId.{StreamId}
use Rattle.tm_meaning.specs.declared.stream.TemplateId.{TemplateId}
use Rattle.tm_meaning.specs.declared.stream.TemplateId.TheVariants.{Own, Entry}
use Rattle.tm_output.specs.Counts.{NoFailure, Told, untold}
use Rattle.tm_parts.specs.Halts.{error_of, failures_after}
use Rattle.tm_parts.specs.declared.halt.Halt.{Halt}
use Rattle.tm_parts.specs.declared.halt.Halt.TheVariants as halt
use Rattle.tm_shapes.specs.Verified.{IsAccepted}
use Rattle.tm_safety.specs.Runs.{EndsIn}
use Rattle.tm_objects.specs.Stated.{StatedObjects}
use Rattle.tm_templates.specs.Templates.{AreAccepted, Compiled, EachAccepted}
use Rattle.tm_templates.proofs.Accepted.{find_all}
use Rattle.tm_vm.specs.Answers.{HaltsAs, ReachesEnd}
use Rattle.tm_vm.specs.Nested.{WroteBeginning}
use Rattle.template_machine.specs.Environment.{TemplateValue, code, meant}
use Rattle.template_machine.specs.Renders.{CapturedValue, StateValue, IsStreamEnd, SoundRecords, StreamBegins}
use Rattle.template_machine.specs.Renders.{StreamCaptured, StreamEnds, forgetting, is_cut}
use Rattle.template_machine.specs.Renders.{StreamRan, stream_ran, stream_by_writer, stream_by_memory, StreamState, state_by_memory, state_streamed, Streamed, streamed}
use Rattle.template_machine.specs.Renders.{streamed_by_writer, streamed_by_memory, program_of}
use Rattle.template_machine.proofs.Sound.{never, sound_end, sound_left}

-- ---------------------------------------------------------------- what can be run
module _ {O : Type 0} (t : TemplateValue O) (each : EachAccepted t.environment.templates) (own : AreAccepted t.template) where
  or_own : (o : Option Compiled) → ((c : Compiled) → o ≡ Some c → AreAccepted c) → AreAccepted (or_is o t.template)
  or_own None all = own
  or_own (Some c) all = all c refl

  meant_accepted : (id : TemplateId) → AreAccepted (meant t id)
  meant_accepted Own = own
  meant_accepted (Entry x) =
      or_own (find x t.environment.templates) (λ c found. find_all AreAccepted x t.environment.templates c each found)

  pub all_accepted : (s : StreamId) → IsAccepted (code t s)
  all_accepted s = meant_accepted s.template s.block

-- ---------------------------------------------------------------- a run
module _ {O : Type 0} (stated : O → StatedObjects) (t : TemplateValue O) (accepted : (s : StreamId) → IsAccepted (code t s)) (captures : List Capture)
    (w left : World) (sound : SoundRecords t w) (told now : Told) (config : Config)
    (at : config ≡ running (run_from w.stream (length captures)) captures w) where
  abbrev p : Program
  p = program_of stated t

  abbrev From : Config → End → Type 0
  From c e = ReachesEnd p (base_of true c.captures c.world) c told.bytes now.bytes e

  from_start : (e : End) → From config e → From (running (run_from w.stream (length captures)) captures w) e
  from_start e comes = subst (λ c. From c e) at comes

  abbrev Came : Result (List Capture) Halt → Type 0
  Came result = StreamRan stated t w result left captures told now

  done_from : (us : List Val) (new : List Capture) → From (running (run_from w.stream (length captures)) captures w) (Finished us new left) →
      NoFailure told now → Came (Ok new)
  done_from us new (text, appended, leads) counted = stream_ran text (us, leads) appended counted

  run_done : (us : List Val) (new : List Capture) → From config (Finished us new left) → NoFailure told now → Came (Ok new)
  run_done us new comes counted = done_from us new (from_start (Finished us new left) comes) counted

  failed_from : (chain : List ErrorKind) → From (running (run_from w.stream (length captures)) captures w) (Failed chain left) →
      NoFailure told now → Came (Err (halt.Fault chain))
  failed_from chain (text, appended, leads) counted = stream_ran text leads appended counted

  stuck_from : {A : Type 0} → From (running (run_from w.stream (length captures)) captures w) (Stuck left) → A
  stuck_from (text, appended, leads) = never stated t (whole w.stream) captures w refl sound accepted text left leads

  pub streams_done : (us : List Val) (new kept : List Capture) (put : World) → new ≡ kept → left ≡ put → From config (Finished us new left) →
      NoFailure told now → StreamRan stated t w (Ok kept) put captures told now
  streams_done us new kept put is there comes counted =
      subst (λ ks. StreamRan stated t w (Ok ks) put captures told now) is
      (subst (λ x. StreamRan stated t w (Ok new) x captures told now) there (run_done us new comes counted))

  ended_from : (us : List Val) (new : List Capture) → From (running (run_from w.stream (length captures)) captures w) (Finished us new left) →
      (text : List ℕ) × StreamEnds stated t captures w text (Finished us new left)
  ended_from us new (text, appended, leads) = (text, leads)

  pub streams_end : (us : List Val) (new : List Capture) → From config (Finished us new left) →
      (text : List ℕ) × StreamEnds stated t captures w text (Finished us new left)
  streams_end us new comes = ended_from us new (from_start (Finished us new left) comes)

  begun_from : WroteBeginning p (base_of true config.captures config.world) (step p (base_of true config.captures config.world) config) told.bytes now.bytes →
      StreamBegins stated t captures w told.bytes now.bytes
  begun_from begun =
      subst (λ (c : Config). WroteBeginning p (base_of true c.captures c.world) (step p (base_of true c.captures c.world) c) told.bytes now.bytes) at begun

  -- a run that was cut short may leave any world
  module _ (put : World) where
    abbrev Put : Result (List Capture) Halt → Type 0
    Put result = StreamRan stated t w result put captures told now

    by_chain : (b : Bool) (chain : List ErrorKind) → is_want_of_memory chain ≡ b → (is_want_of_memory chain ≡ false → left ≡ put) →
        StreamBegins stated t captures w told.bytes now.bytes → (is_want_of_memory chain ≡ false → From config (Failed chain left)) → NoFailure told now →
        Put (Err (halt.Fault chain))
    by_chain true chain memory there part ends counted = stream_by_memory chain refl memory part counted
    by_chain false chain own there part ends counted =
        subst (λ x. StreamRan stated t w (Err (halt.Fault chain)) x captures told now) (there own)
        (failed_from chain (from_start (Failed chain left) (ends own)) counted)

    halted : (why : Halt) → (is_cut why ≡ false → left ≡ put) → HaltsAs why left (From config) → StreamBegins stated t captures w told.bytes now.bytes →
        now.failures ≡ failures_after {A = Unit {0}} (Err why) told.failures → Put (Err why)
    halted halt.Writer there ends part counted = stream_by_writer refl part counted
    halted halt.Stuck there ends part counted = stuck_from (from_start (Stuck left) ends)
    halted (halt.Fault chain) there ends part counted = by_chain (is_want_of_memory chain) chain refl there part ends counted

    pub streams_halted : (why : Halt) → (is_cut why ≡ false → left ≡ put) → HaltsAs why left (From config) →
        WroteBeginning p (base_of true config.captures config.world) (step p (base_of true config.captures config.world) config) told.bytes now.bytes →
        now.failures ≡ failures_after {A = Unit {0}} (Err why) told.failures → Put (Err why)
    streams_halted why there ends begun counted = halted why there ends (begun_from begun) counted

  -- ---------------------------------------------------------------- its records
  sound_from : (e : End) → From (running (run_from w.stream (length captures)) captures w) e → EndsIn (SoundRecords t) e
  sound_from e (text, appended, leads) = sound_end stated t (whole w.stream) captures w refl sound text e leads

  pub sound_done : (us : List Val) (new : List Capture) (put : World) → left ≡ put → From config (Finished us new left) → SoundRecords t put
  sound_done us new put there comes =
      subst (SoundRecords t) there (sound_from (Finished us new left) (from_start (Finished us new left) comes))

  sound_by : (why : Halt) → HaltsAs why left (From config) → is_cut why ≡ false → SoundRecords t left
  sound_by halt.Writer ends own = absurd (cc own)
  sound_by halt.Stuck ends own = stuck_from (from_start (Stuck left) ends)
  sound_by (halt.Fault chain) ends own = sound_from (Failed chain left) (from_start (Failed chain left) (ends own))

  pub sound_halted : (why : Halt) (put : World) → put ≡ forgetting (is_cut why) left → HaltsAs why left (From config) → SoundRecords t put
  sound_halted why put is ends = sound_left t (is_cut why) left put is (sound_by why ends)

-- ---------------------------------------------------------------- what it is to its caller
pub only : (new rest : List Capture) (k : Capture) → length new ≡ 1 → new ≡ k ∷ rest → new ≡ k ∷ []
only [] rest k one is = absurd (cc one)
only (j ∷ []) rest k one is = let same : j ≡ k = cc is in ap (λ x. x ∷ []) same
only (j ∷ i ∷ js) rest k one is = absurd (cc one)

module _ {O : Type 0} (stated : O → StatedObjects) (t : TemplateValue O) (w left : World) where
  abbrev In : Result (List Capture) Halt → List Capture → Type 0
  In result captures = StreamRan stated t w result left captures untold untold

  -- in a capture, with no writer that could fail
  pub captured_failed : (old : List Capture) → old ≡ new_capture true ∷ [] → (why : Halt) → In (Err why) old →
      StreamCaptured stated t w (Err (error_of why)) left
  captured_failed old is halt.Writer (stream_ran text ends appended counted) = absurd ends
  captured_failed old is halt.Writer (stream_by_writer e part counted) = absurd (cc counted)
  captured_failed old is halt.Writer (stream_by_memory chain e memory part counted) = absurd (cc e)
  captured_failed old is halt.Stuck (stream_ran text ends appended counted) = absurd ends
  captured_failed old is halt.Stuck (stream_by_writer e part counted) = absurd (cc e)
  captured_failed old is halt.Stuck (stream_by_memory chain e memory part counted) = absurd (cc e)
  captured_failed old is (halt.Fault kinds) (stream_ran text ends appended counted) =
      inr (text, subst (λ ks. StreamEnds stated t ks w text (Failed kinds left)) is ends)
  captured_failed old is (halt.Fault kinds) (stream_by_writer e part counted) = absurd (cc e)
  captured_failed old is (halt.Fault kinds) (stream_by_memory chain e memory part counted) =
      let kind : kinds ≡ chain = cc e in inl (ap is_want_of_memory kind ∙ memory)

  pub captured_done : (old : List Capture) → old ≡ new_capture true ∷ [] → (new rest : List Capture) (heard : Bool)
      (text : String Global) → length new ≡ 1 → new ≡ record { heard = heard; text = string_bytes text } ∷ rest → In (Ok new) old →
      StreamCaptured stated t w (Ok text) left
  captured_done old is new rest heard text one top (stream_ran out (us, ends) appended counted) =
      let k : Capture = record { heard = heard; text = string_bytes text } in
      let there = subst (λ ks. StreamEnds stated t (new_capture true ∷ []) w out (Finished us ks left)) (only new rest k one top)
      (subst (λ ks. StreamEnds stated t ks w out (Finished us new left)) is ends) in
      inr (out, (us, heard, there))
  captured_done old is new rest heard text one top (stream_by_writer e part counted) = absurd (cc e)
  captured_done old is new rest heard text one top (stream_by_memory chain e memory part counted) = absurd (cc e)

  -- and with its state
  pub state_done : (r : TemplateValue O) (text : String Global) (s : StateValue O) (c : CapturedValue (StateValue O)) → r ≡ t →
      s ≡ record { template = r; world = left } → c ≡ record { output = string_bytes text; state = s } →
      StreamCaptured stated t w (Ok text) left → StreamState stated t w (Ok c)
  state_done r text s c r_is s_is c_is (inl memory) = absurd memory
  state_done r text s c r_is s_is c_is (inr (out, (us, heard, ends))) =
      let output : string_bytes text ≡ c.output = sym (ap (λ (x : CapturedValue (StateValue O)). x.output) c_is) in
      let state : c.state ≡ s = ap (λ (x : CapturedValue (StateValue O)). x.state) c_is in
      let world : left ≡ c.state.world = sym (ap (λ (x : StateValue O). x.world) (state ∙ s_is)) in
      let template : c.state.template ≡ t = ap (λ (x : StateValue O). x.template) (state ∙ s_is) ∙ r_is in
      let there =
      subst (λ x. StreamEnds stated t (new_capture true ∷ []) w out (Finished us (record { heard = heard; text = c.output } ∷ []) x)) world
      (subst (λ o. StreamEnds stated t (new_capture true ∷ []) w out (Finished us (record { heard = heard; text = o } ∷ []) left)) output ends) in
      state_streamed out (us, heard, template, there)

  pub state_failed : (chain : List ErrorKind) → StreamCaptured stated t w (Err chain) left → StreamState stated t w (Err chain)
  state_failed chain (inl memory) = state_by_memory memory
  state_failed chain (inr (out, ends)) = state_streamed out (left, ends)

-- over no capture, into a writer
module _ {O A : Type 0} (stated : O → StatedObjects) (t : TemplateValue O) (w left : World) (old : List Capture) (none : old ≡ [])
    (told now : Told) (Says : Result A (List ErrorKind) → (End → Type 0) → Type 0) where
  abbrev Comes : Result (List Capture) Halt → Type 0
  Comes result = StreamRan stated t w result left old told now

  abbrev Answers : Result A (List ErrorKind) → Type 0
  Answers result = Streamed stated t w result (Says result) told now

  part_of : StreamBegins stated t old w told.bytes now.bytes → StreamBegins stated t [] w told.bytes now.bytes
  part_of part = subst (λ ks. StreamBegins stated t ks w told.bytes now.bytes) none part

  pub into_failed : ((chain : List ErrorKind) (Ends : End → Type 0) → Ends (Failed chain left) → Says (Err chain) Ends) → (why : Halt) →
      Comes (Err why) → Answers (Err (error_of why))
  into_failed says halt.Writer (stream_ran text ends appended counted) = absurd ends
  into_failed says halt.Writer (stream_by_writer e part counted) = streamed_by_writer refl (part_of part) counted
  into_failed says halt.Writer (stream_by_memory chain e memory part counted) = absurd (cc e)
  into_failed says halt.Stuck (stream_ran text ends appended counted) = absurd ends
  into_failed says halt.Stuck (stream_by_writer e part counted) = absurd (cc e)
  into_failed says halt.Stuck (stream_by_memory chain e memory part counted) = absurd (cc e)
  into_failed says (halt.Fault kinds) (stream_ran text ends appended counted) =
      streamed text (says kinds (StreamEnds stated t [] w text) (subst (λ ks. StreamEnds stated t ks w text (Failed kinds left)) none ends))
      appended counted
  into_failed says (halt.Fault kinds) (stream_by_writer e part counted) = absurd (cc e)
  into_failed says (halt.Fault kinds) (stream_by_memory chain e memory part counted) =
      let kind : kinds ≡ chain = cc e in streamed_by_memory (ap is_want_of_memory kind ∙ memory) (part_of part) counted

  pub into_done : (new : List Capture) (a : A) → ((us : List Val) (Ends : End → Type 0) → Ends (Finished us new left) → Says (Ok a) Ends) →
      Comes (Ok new) → Answers (Ok a)
  into_done new a says (stream_ran text (us, ends) appended counted) =
      streamed text (says us (StreamEnds stated t [] w text) (subst (λ ks. StreamEnds stated t ks w text (Finished us new left)) none ends))
      appended counted
  into_done new a says (stream_by_writer e part counted) = absurd (cc e)
  into_done new a says (stream_by_memory chain e memory part counted) = absurd (cc e)

-- the state with its world, and no text
pub state_ended : {O : Type 0} (t r : TemplateValue O) (left : World) (new : List Capture) (s : StateValue O) (c : CapturedValue (StateValue O)) →
    r ≡ t → s ≡ record { template = r; world = left } → c.output ≡ [] → c.state ≡ s → (us : List Val) (Ends : End → Type 0) →
    Ends (Finished us new left) → IsStreamEnd t (Ok c) Ends
state_ended t r left new s c r_is s_is output state us Ends ends =
    let world : left ≡ c.state.world = sym (ap (λ x. x.world) (state ∙ s_is)) in
    let template : c.state.template ≡ t = ap (λ x. x.template) (state ∙ s_is) ∙ r_is in
    (us, new, output, template, subst (λ x. Ends (Finished us new x)) world ends)
