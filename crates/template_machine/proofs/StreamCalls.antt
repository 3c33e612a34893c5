-- What calls of a state answer over streams, whoever made them.
use Rattle.std.proofs.Common.{◌≡◌, ◌∙◌, ℕ, List, [], ◌∷◌, Option, Some, None, Result, Ok, Err, String, string_bytes, Bool, true, false}
use Rattle.std.proofs.Common.{refl, sym, ap, subst, length, inl, inr, IfErr, IfOk}
use Rattle.std.specs.declared.alloc.Global.{Global}
use Rattle.tm_values.specs.Val.{Val, boolean, text as as_val}
use Rattle.tm_values.specs.Truth.{is_true}
use Rattle.tm_values.specs.declared.escape.AutoEscape.{AutoEscape}
use Rattle.tm_values.specs.declared.error.ErrorKind.{ErrorKind}
use Rattle.tm_values.specs.declared.error.ErrorKind.TheVariants.{InvalidOperation}
use Rattle.tm_meaning.specs.Calls.{Asked, has, refused, recurs, runs, Callee, NestedCall, as_truth, block_call, run_value, undone, wrapped}
use Rattle.tm_meaning.specs.Memory.{is_want_of_memory}
use Rattle.tm_meaning.specs.Machine.{Capture, Config, End, Finished, Failed, Stuck, Over, base_of, first_run, new_capture, running}
use Rattle.tm_meaning.specs.Steps.{begins, begun, over}
use Rattle.tm_meaning.specs.World.{World, Res, Good, Bad}
use Rattle.tm_meaning.specs.declared.stream.StreamId.{StreamId}
use Rattle.tm_output.specs.Pieces.{appends_nothing}
use Rattle.tm_output.specs.Counts.{Told, untold}
use Rattle.tm_parts.specs.Halts.{error_of, failures_after}
use Rattle.tm_parts.specs.declared.halt.Halt.{Halt}
use Rattle.tm_parts.specs.declared.halt.Halt.TheVariants as halt
use Rattle.tm_shapes.specs.Verified.{IsAccepted}
use Rattle.tm_safety.specs.Runs.{stream_of}
use Rattle.tm_state.specs.Answers.{Becomes, NeedsRun, call_of}
use Rattle.tm_state.specs.State.{after_block, callee_of, put_back}
use Rattle.tm_records.specs.declared.saved.Saved.TheVariants as saved
use Rattle.tm_records.specs.declared.saved.SavedBlock.{SavedBlock}
use Rattle.tm_records.specs.declared.nested.NestedRun.{NestedRun}
use Rattle.tm_objects.specs.Stated.{StatedObjects}
use Rattle.tm_vm.specs.Answers.{HaltsAs, ReachesEnd}
use Rattle.tm_vm.proofs.Loop.{undone_is}
use Rattle.template_machine.specs.Environment.{TemplateValue, code}
use Rattle.template_machine.specs.Renders.{BlockRan, BlockStreamed, BlockText, IsBlockDone, IsEntered, StateValue, StreamRan, block_asked, block_ran, block_refused}
use Rattle.template_machine.specs.Renders.{CallComes, CalleeRan, IsMacroCall, IsMemory, IsTested, RunCaptured, RunEnds, SoundRecords, StreamCalled, call_streamed, call_by_memory}
use Rattle.template_machine.specs.Renders.{forgetting, is_cut, program_of}
use Rattle.template_machine.proofs.Sound.{left_as, never, sound_end, sound_left}
use Rattle.template_machine.proofs.StateCalls.{of_first, of_template}
use Rattle.template_machine.proofs.StreamRuns.{captured_done, captured_failed, into_done, into_failed, only}

abbrev one : List Capture
one = new_capture true ∷ []

-- ---------------------------------------------------------------- a run over one capture
module _ {O : Type 0} (stated : O → StatedObjects) (t r : TemplateValue O) (same : r ≡ t) (k : Callee) (w left : World)
    (named : w.stream ≡ stream_of k) (sound : SoundRecords t w) (captures : List Capture) (fresh : captures ≡ one) (config : Config)
    (at : config ≡ running config.run captures w) (first : first_run (program_of stated r) k (length captures) ≡ Some config.run) where
  abbrev Reaches : End → Type 0
  Reaches e = ReachesEnd (program_of stated r) (base_of true config.captures config.world) config None None e

  abbrev Ends : End → Type 0
  Ends e = (text : List ℕ) × RunEnds stated t k one w text e

  ended : (e : End) → Reaches e → Ends e
  ended e reaches = let s = of_template stated t r same k w left captures fresh None None config at first e reaches in (s.0, s.2)

  pub callee_done : (us : List Val) (new kept : List Capture) (put : World) → new ≡ kept → left ≡ put → Reaches (Finished us new left) →
      CalleeRan stated t k w (Ok kept) put
  callee_done us new kept put is there reaches =
      let s = ended (Finished us new left) reaches in
      subst (λ ks. CalleeRan stated t k w (Ok ks) put) is (subst (λ x. CalleeRan stated t k w (Ok new) x) there (s.0, us, s.1))

  pub callee_halted : ((s : StreamId) → IsAccepted (code r s)) → (why : Halt) (put : World) → (is_cut why ≡ false → left ≡ put) →
      0 ≡ failures_after {A = Unit {0}} (Err why) 0 → HaltsAs why left Reaches → CalleeRan stated t k w (Err why) put
  callee_halted accepted halt.Writer put there counted ends = absurd (cc counted)
  callee_halted accepted halt.Stuck put there counted ends =
      let s = ended (Stuck left) ends in
      never stated t k one w named sound (subst (λ v. (s : StreamId) → IsAccepted (code v s)) same accepted) s.0 left s.1
  callee_halted accepted (halt.Fault chain) put there counted ends = λ own.
      let s = ended (Failed chain left) (ends own) in (s.0, subst (λ x. RunEnds stated t k one w s.0 (Failed chain x)) (there own) s.1)

  pub sound_done : (us : List Val) (new : List Capture) (put : World) → left ≡ put → Reaches (Finished us new left) → SoundRecords t put
  sound_done us new put there reaches =
      let s = ended (Finished us new left) reaches in
      subst (SoundRecords t) there (sound_end stated t k one w named sound s.0 (Finished us new left) s.1)

  sound_by : (why : Halt) → HaltsAs why left Reaches → is_cut why ≡ false → SoundRecords t left
  sound_by halt.Writer ends own = absurd (cc own)
  sound_by halt.Stuck ends own =
      let s = ended (Stuck left) ends in sound_end stated t k one w named sound s.0 (Stuck left) s.1
  sound_by (halt.Fault chain) ends own =
      let s = ended (Failed chain left) (ends own) in sound_end stated t k one w named sound s.0 (Failed chain left) s.1

  pub sound_halted : (why : Halt) (put : World) → put ≡ forgetting (is_cut why) left → HaltsAs why left Reaches → SoundRecords t put
  sound_halted why put is ends = sound_left t (is_cut why) left put is (sound_by why ends)

-- one that there isn't
pub callee_none : {O : Type 0} (stated : O → StatedObjects) (t r : TemplateValue O) (same : r ≡ t) (k : Callee) (w put : World)
    (captures : List Capture) → captures ≡ one → first_run (program_of stated r) k (length captures) ≡ None → w ≡ put →
    CalleeRan stated t k w (Err (halt.Fault (InvalidOperation ∷ []))) put
callee_none stated t r same k w put captures fresh none there =
    let p = program_of stated r in
    let base = base_of true captures w in
    let refused : begins p base k captures w ≡ Over (Failed (InvalidOperation ∷ []) w) = ap (λ x. begun p base x captures w) none in
    let s = of_first stated t r same k w w captures fresh None None (Failed (InvalidOperation ∷ []) w)
    ([], appends_nothing None, over refused refl) in
    subst (λ x. CalleeRan stated t k w (Err (halt.Fault (InvalidOperation ∷ []))) x) there (λ own. (s.0, s.2))

-- ---------------------------------------------------------------- its text
module _ {O : Type 0} (stated : O → StatedObjects) (t : TemplateValue O) (k : Callee) (w left : World) where
  pub text_done : (new rest : List Capture) (heard : Bool) (text : String Global) → length new ≡ 1 →
      new ≡ record { heard = heard; text = string_bytes text } ∷ rest → CalleeRan stated t k w (Ok new) left →
      RunCaptured stated t k w (Ok text) left
  text_done new rest heard text single top (out, us, ends) =
      let c : Capture = record { heard = heard; text = string_bytes text } in
      inr (out, (us, heard, subst (λ ks. RunEnds stated t k one w out (Finished us ks left)) (only new rest c single top) ends))

  by_chain : (b : Bool) (chain : List ErrorKind) → is_want_of_memory chain ≡ b → CalleeRan stated t k w (Err (halt.Fault chain)) left →
      RunCaptured stated t k w (Err chain) left
  by_chain true chain memory ran = inl memory
  by_chain false chain own ran = inr (ran own)

  pub text_failed : (why : Halt) → CalleeRan stated t k w (Err why) left → RunCaptured stated t k w (Err (error_of why)) left
  text_failed halt.Writer ran = absurd ran
  text_failed halt.Stuck ran = absurd ran
  text_failed (halt.Fault chain) ran = by_chain (is_want_of_memory chain) chain refl ran

-- ---------------------------------------------------------------- what a call comes to
module _ {O : Type 0} (stated : O → StatedObjects) (t : TemplateValue O) (e : NestedRun) (w left : World) (asked : Asked)
    (needs : NeedsRun e asked w) where
  abbrev c : NestedCall
  c = call_of e needs.3.0

  abbrev put : World
  put = put_back e.saved left

  back : undone c.undo left ≡ put
  back = undone_is e.saved needs.3.0 left needs.3.1

  by_run : (m : Res Val) → CallComes stated t (runs c w) m → CallComes stated t asked m
  by_run m comes = subst (λ q. CallComes stated t q m) (sym needs.3.2) comes

  pub value_streamed : (text : String Global) (v : Val) → RunCaptured stated t (callee_of e.run) w (Ok text) left →
      v ≡ run_value e.text (string_bytes text) put → StreamCalled stated t asked (Ok v) (λ m. IsMacroCall (Ok v) m put)
  value_streamed text v (inl memory) is = absurd memory
  value_streamed text v (inr (out, (us, heard, ends))) is =
      let m : Res Val = Good (run_value c.text (string_bytes text) (undone c.undo left)) (undone c.undo left) in
      let says : m ≡ Good v put =
      ap (λ x. Good (run_value e.text (string_bytes text) x) x) back ∙ ap (λ u. Good u put) (sym is) in
      call_streamed m (by_run m (out, Finished us (record { heard = heard; text = string_bytes text } ∷ []) left, ends, refl)) says

  -- or there is no memory for its value
  pub run_streamed : (text : String Global) (bytes : List ℕ) (escape : AutoEscape) (r : Result Val (List ErrorKind)) (x : World) → x ≡ put →
      bytes ≡ string_bytes text → escape ≡ x.escape → RunCaptured stated t (callee_of e.run) w (Ok text) left →
      IfOk r (λ v. (y : World) → y.escape ≡ escape → v ≡ run_value e.text bytes y) → IfErr r (λ chain. is_want_of_memory chain ≡ true) →
      StreamCalled stated t asked r (λ m. IsMacroCall r m x)
  run_streamed text bytes escape (Ok v) x same spelled escaped captured ok kind =
      let is : v ≡ run_value e.text (string_bytes text) put =
      ok put (sym (escaped ∙ ap (λ y. y.escape) same)) ∙ ap (λ b. run_value e.text b put) spelled in
      subst (λ y. StreamCalled stated t asked (Ok v) (λ m. IsMacroCall (Ok v) m y)) (sym same) (value_streamed text v captured is)
  run_streamed text bytes escape (Err chain) x same spelled escaped captured ok kind = call_by_memory kind

  pub fault_streamed : (chain : List ErrorKind) → RunCaptured stated t (callee_of e.run) w (Err chain) left →
      StreamCalled {A = Val} stated t asked (Err chain) (λ m. IsMacroCall (Err chain) m put)
  fault_streamed chain (inl memory) = call_by_memory memory
  fault_streamed chain (inr (out, ends)) =
      let m : Res Val = Bad (wrapped c.wrap chain) (undone c.undo left) in
      let says : m ≡ Bad chain put = ap (λ x. Bad (wrapped c.wrap chain) x) back ∙ ap (λ u. Bad (wrapped u chain) put) needs.2 in
      call_streamed m (by_run m (out, Failed chain left, ends, refl)) (λ own. says)

module _ {O A : Type 0} (stated : O → StatedObjects) (t : TemplateValue O) where
  -- what is refused stays what it is
  pub refused_streamed : (asked : Asked) (left put : World) (chain : List ErrorKind) (Says : Res Val → Type 0) → Becomes (Err chain) asked left →
      put ≡ forgetting (is_want_of_memory chain) left → Says (Bad chain put) → StreamCalled {A = A} stated t asked (Err chain) Says
  refused_streamed asked left put chain Says becomes is says = by_kind (is_want_of_memory chain) refl
    where
      by_kind : (b : Bool) → is_want_of_memory chain ≡ b → StreamCalled {A = A} stated t asked (Err chain) Says
      by_kind true memory = call_by_memory memory
      by_kind false own =
          let comes : CallComes stated t (refused chain left) (Bad chain put) =
          ap (λ x. Bad chain x) (sym (left_as (is_want_of_memory chain) left put is own)) in
          call_streamed (Bad chain put) (subst (λ q. CallComes stated t q (Bad chain put)) (sym (becomes own)) comes) says

  -- an answer that says more, of what is answered otherwise
  pub streamed_as : {B : Type 0} (asked : Asked) (result : Result A (List ErrorKind)) (other : Result B (List ErrorKind))
      (Says Other : Res Val → Type 0) → (IsMemory result → IsMemory other) →
      ((m : Res Val) → CallComes stated t asked m → Says m → Other m) → StreamCalled stated t asked result Says → StreamCalled stated t asked other Other
  streamed_as asked result other Says Other memory says (call_streamed m comes said) = call_streamed m comes (says m comes said)
  streamed_as asked result other Says Other memory says (call_by_memory none) = call_by_memory (memory none)

-- a test's value is a truth value
module _ {O : Type 0} (stated : O → StatedObjects) (t : TemplateValue O) where
  a_truth : (asked : Asked) (m : Res Val) (v : Val) (w : World) → CallComes stated t (as_truth asked) m → m ≡ Good v w → v ≡ boolean (is_true v)
  a_truth (has u x) m v w comes is =
      let same : boolean (is_true u) ≡ v = cc (sym comes ∙ is) in subst (λ x. x ≡ boolean (is_true x)) same refl
  a_truth (refused chain x) m v w comes is = absurd (cc (sym comes ∙ is))
  a_truth (recurs n items x) m v w comes is = absurd (cc (sym comes ∙ is))
  a_truth (runs call x) m v w (text, Finished us [] y, ends, none) is = absurd none
  a_truth (runs call x) m v w (text, Finished us (k ∷ []) y, ends, comes) is =
      let same : boolean (is_true (as_val k.text false)) ≡ v = cc (sym comes ∙ is) in subst (λ x. x ≡ boolean (is_true x)) same refl
  a_truth (runs call x) m v w (text, Finished us (k ∷ j ∷ ks) y, ends, none) is = absurd none
  a_truth (runs call x) m v w (text, Failed chain y, ends, comes) is = absurd (cc (sym comes ∙ is))
  a_truth (runs call x) m v w (text, Stuck y, ends, none) is = absurd none

  pub tested_streamed : (asked : Asked) (v : Val) (b : Bool) (w : World) → b ≡ is_true v →
      StreamCalled stated t (as_truth asked) (Ok v) (λ m. IsMacroCall (Ok v) m w) →
      StreamCalled stated t (as_truth asked) (Ok b) (λ m. IsTested (Ok b) m w)
  tested_streamed asked v b w is called =
      streamed_as stated t (as_truth asked) (Ok v) (Ok b) (λ m. IsMacroCall (Ok v) m w) (λ m. IsTested (Ok b) m w) (λ none. none)
      (λ m comes said. said ∙ ap (λ u. Good u w) (a_truth asked m v w comes said) ∙ ap (λ x. Good (boolean x) w) (sym is)) called

-- ---------------------------------------------------------------- blocks
module _ {O : Type 0} (stated : O → StatedObjects) (s : StateValue O) (b : List ℕ) (new : World) where
  pub block_streamed : (left : World) (old : List Capture) (told now : Told) (kept : SavedBlock) (mid : World)
      (result : Result (List Capture) Halt) → IsEntered (block_asked stated s b) kept s.world mid →
      StreamRan stated s.template mid result left old told now → new ≡ after_block kept left →
      BlockRan stated s b result new old told now
  block_streamed left old told now kept mid result (same, (stream, asked), more, places) ran is =
      block_ran (block_call stream s.world) mid left asked ran (is ∙ sym (undone_is (saved.Block kept) s.world left same))

  -- to a text
  pub block_text_done : (old : List Capture) → old ≡ one → (captures rest : List Capture) (heard : Bool)
      (text : String Global) → length captures ≡ 1 → captures ≡ record { heard = heard; text = string_bytes text } ∷ rest →
      BlockRan stated s b (Ok captures) new old untold untold → BlockText stated s b (Ok text) new
  block_text_done old is captures rest heard text single top (block_refused chain failed own same) = absurd (cc failed.0)
  block_text_done old is captures rest heard text single top (block_ran c w left asked ran undo) =
      block_ran c w left asked (captured_done stated s.template w left old is captures rest heard text single top ran) undo

  pub block_text_failed : (old : List Capture) → old ≡ one → (why : Halt) →
      BlockRan stated s b (Err why) new old untold untold → BlockText stated s b (Err (error_of why)) new
  block_text_failed old is why (block_refused chain failed own same) =
      let e : why ≡ halt.Fault chain = cc failed.0 in block_refused chain (ap (λ x. Err (error_of x)) e) own same
  block_text_failed old is why (block_ran c w left asked ran undo) =
      block_ran c w left asked (captured_failed stated s.template w left old is why ran) undo

  -- where there is no memory for its capture
  pub block_text_none : (chain : List ErrorKind) → is_want_of_memory chain ≡ true → new ≡ s.world → BlockText stated s b (Err chain) new
  block_text_none chain memory same = block_refused chain refl (λ own. absurd (cc (sym memory ∙ own))) same

  -- into a writer
  module _ (old : List Capture) (none : old ≡ []) (told now : Told) where
    pub block_done : (captures : List Capture) (x : Unit {0}) → BlockRan stated s b (Ok captures) new old told now →
        BlockStreamed stated s b (Ok x) new told now
    block_done captures x (block_refused chain failed own same) = absurd (cc failed.0)
    block_done captures x (block_ran c w left asked ran undo) =
        block_ran c w left asked
        (into_done stated s.template w left old none told now (λ r. IsBlockDone r left) captures x
        (λ us Ends ends. (us, captures, ends)) ran) undo

    pub block_failed : (why : Halt) → BlockRan stated s b (Err why) new old told now →
        BlockStreamed stated s b (Err (error_of why)) new told now
    block_failed why (block_refused chain failed own same) =
        let e : why ≡ halt.Fault chain = cc failed.0 in block_refused chain (ap (λ x. Err (error_of x)) e, failed.1) own same
    block_failed why (block_ran c w left asked ran undo) =
        block_ran c w left asked
        (into_failed stated s.template w left old none told now (λ r. IsBlockDone r left) (λ chain Ends ends. ends) why ran) undo
