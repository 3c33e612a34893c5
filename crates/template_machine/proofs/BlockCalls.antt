-- What the block means that a state is asked for, and what its run answers.
use Rattle.std.proofs.Common.{◌≡◌, ◌∙◌, ◌+◌, ℕ, List, [], ◌∷◌, Option, Result, Ok, Err, Bool, true, false}
use Rattle.std.proofs.Common.{refl, sym, ap, subst}
use Rattle.std.specs.Io.KnownBytes.{Appends}
use Rattle.tm_values.specs.declared.error.ErrorKind.{ErrorKind}
use Rattle.tm_output.specs.Counts.{AppendsBeginning, Told}
use Rattle.tm_output.specs.Pieces.{appends_nothing, beginning_nothing}
use Rattle.tm_meaning.specs.Memory.{is_want_of_memory}
use Rattle.tm_meaning.specs.World.{World, HostValue}
use Rattle.tm_meaning.specs.Tree.{Trees, statements, empty}
use Rattle.tm_meaning.specs.declared.stream.StreamId.{StreamId}
use Rattle.tm_meaning.specs.Calls.{NestedCall, block_call, enter_block, refused, undone, whole}
use Rattle.tm_meaning.specs.Machine.{Capture, new_capture, put_in, put_out}
use Rattle.tm_meaning.specs.Meaning.{Ending, done, leave, next, fault, Outcome, Run, Under, after, ended, in_place_of}
use Rattle.tm_meaning.specs.Runs.{nests_of, new_run, rendered}
use Rattle.tm_meaning.specs.Runs.{rendered_block, under}
use Rattle.tm_parts.specs.declared.halt.Halt.{Halt}
use Rattle.tm_parts.specs.declared.halt.Halt.TheVariants as halt
use Rattle.tm_simulation.proofs.Asks.{block_asks_by, in_block}
use Rattle.tm_state.specs.State.{after_block, runs_block}
use Rattle.tm_records.specs.declared.saved.Saved.TheVariants as saved
use Rattle.tm_records.specs.declared.saved.SavedBlock.{SavedBlock}
use Rattle.tm_objects.specs.Stated.{StatedObjects}
use Rattle.tm_vm.proofs.Loop.{undone_is}
use Rattle.template_machine.specs.Environment.{TemplateValue, host_of, trees}
use Rattle.template_machine.specs.Renders.{answer_by, answer_of, block_meaning, meaning_from, IsEntered, IsRun}
use Rattle.template_machine.specs.Renders.{Ran, run_as_meant, run_by_writer, run_by_memory}

-- ---------------------------------------------------------------- ends
-- the world of an end that is done
left_by : (e : Ending) (x left : World) → answer_by e x ≡ Ok left → x ≡ left
left_by (done vs) x left is = cc is
left_by leave x left is = cc is
left_by next x left is = cc is
left_by (fault chain) x left is = absurd (cc is)

-- ---------------------------------------------------------------- what a block means
module _ (host : HostValue) (trees : Trees) (b : List ℕ) (w : World) where
  abbrev u : Under
  u = under host (nests_of host trees (host.limit + 1)) (statements empty)

  abbrev run : Run
  run = new_run true w

  -- it runs in the stream that it names
  entered_stream : (s : StreamId) (mid : World) → enter_block host b w ≡ runs_block s w mid → mid.stream ≡ s
  entered_stream s mid =
      block_asks_by (λ q. q ≡ runs_block s w mid → mid.stream ≡ s) host b w (λ kind e same. absurd (cc same)) (λ stream room same.
      let call : block_call stream w ≡ block_call s w = cc same in
      let world : in_block stream b w ≡ mid = cc same in
      let callee : whole stream ≡ whole s = ap (λ (c : NestedCall). c.callee) call in
      let is : stream ≡ s = cc callee in
      sym (ap (λ (x : World). x.stream) world) ∙ is)

  -- its run is what its stream means
  block_is : (s : StreamId) (mid : World) → enter_block host b w ≡ runs_block s w mid →
      rendered_block host trees b w ≡ after (rendered host trees mid).ending (block_call s w) run (rendered host trees mid)
  block_is s mid is =
      ap (in_place_of u run []) is ∙ ap (λ x. let o = u.nests (whole x) true [] mid in after o.ending (block_call s w) run o)
      (sym (entered_stream s mid is))

  refused_is : (chain : List ErrorKind) → enter_block host b w ≡ refused chain w →
      rendered_block host trees b w ≡ ended (fault chain) run [] w
  refused_is chain is = ap (in_place_of u run []) is

-- ---------------------------------------------------------------- what its run answered
module _ (s : StreamId) (w : World) (run : Run) (o : Outcome) where
  abbrev c : NestedCall
  c = block_call s w

  done_after : (e : Ending) (left : World) → answer_by e o.world ≡ Ok left → answer_of (after e c run o) ≡ Ok (undone c.undo left)
  done_after (done vs) left is = ap (λ x. Ok (undone c.undo x)) (left_by (done vs) o.world left is)
  done_after leave left is = ap (λ x. Ok (undone c.undo x)) (left_by leave o.world left is)
  done_after next left is = ap (λ x. Ok (undone c.undo x)) (left_by next o.world left is)
  done_after (fault chain) left is = absurd (cc is)

  fault_after : (e : Ending) (chain : List ErrorKind) → answer_by e o.world ≡ Err chain → answer_of (after e c run o) ≡ Err chain
  fault_after (done vs) chain is = absurd (cc is)
  fault_after leave chain is = absurd (cc is)
  fault_after next chain is = absurd (cc is)
  fault_after (fault why) chain is = let same : why ≡ chain = cc is in ap (λ x. Err x) same

  text_after : (e : Ending) → (after e c run o).text ≡ o.text
  text_after (done vs) = refl
  text_after leave = refl
  text_after next = refl
  text_after (fault chain) = refl

  world_after : (e : Ending) → (after e c run o).world ≡ undone c.undo o.world
  world_after (done vs) = refl
  world_after leave = refl
  world_after next = refl
  world_after (fault chain) = refl

  abbrev q : Outcome
  q = after o.ending c run o

  is_after : (result : Result (List Capture) Halt) (left : World) (old : List Capture) → IsRun result left old o →
      IsRun result (undone c.undo left) old q
  is_after (Ok new) left old is = (done_after o.ending left is.0, is.1 ∙ ap (put_in old) (sym (text_after o.ending)))
  is_after (Err halt.Writer) left old is = is
  is_after (Err halt.Stuck) left old is = is
  is_after (Err (halt.Fault chain)) left old is =
      (fault_after o.ending chain is.0, world_after o.ending ∙ ap (undone c.undo) is.1)

  ran_after : (result : Result (List Capture) Halt) (left : World) (old : List Capture) (told now : Told) →
      Ran o result left old told now → Ran q result (undone c.undo left) old told now
  ran_after result left old told now (run_as_meant is appended counted) =
      run_as_meant (is_after result left old is)
      (subst (λ t. Appends told.bytes now.bytes (put_out old t)) (sym (text_after o.ending)) appended) counted
  ran_after result left old told now (run_by_writer is part counted) =
      run_by_writer is (subst (λ t. AppendsBeginning told.bytes now.bytes (put_out old t)) (sym (text_after o.ending)) part) counted
  ran_after result left old told now (run_by_memory chain is memory part counted) =
      run_by_memory chain is memory (subst (λ t. AppendsBeginning told.bytes now.bytes (put_out old t)) (sym (text_after o.ending)) part) counted

-- ---------------------------------------------------------------- of a state
module _ {O : Type 0} (stated : O → StatedObjects) (t : TemplateValue O) (b : List ℕ) (w left : World) (old : List Capture)
    (told now : Told) where
  abbrev m : Outcome
  m = block_meaning stated t b w

  abbrev Came : Result (List Capture) Halt → World → Type 0
  Came result x = Ran m result x old told now

  pub block_ran : (s : SavedBlock) (mid : World) (result : Result (List Capture) Halt) (put : World) →
      IsEntered (enter_block (host_of stated t) b w) s w mid → Ran (meaning_from stated t mid) result left old told now →
      put ≡ after_block s left → Came result put
  block_ran s mid result put (same, (stream, asked), more, places) ran is =
      let o = meaning_from stated t mid in
      subst (λ x. Came result x) (undone_is (saved.Block s) w left same ∙ sym is)
      (subst (λ x. Ran x result (undone (block_call stream w).undo left) old told now)
      (sym (block_is (host_of stated t) (trees t) b w stream mid asked))
      (ran_after stream w (new_run true w) o result left old told now ran))

-- a block that is refused
refused_ran : {O : Type 0} (stated : O → StatedObjects) (t : TemplateValue O) (b : List ℕ) (w : World) (old : List Capture)
    (told : Told) (chain : List ErrorKind) → enter_block (host_of stated t) b w ≡ refused chain w →
    Ran (block_meaning stated t b w) (Err (halt.Fault chain)) w old told told
refused_ran stated t b w old told chain is =
    subst (λ m. Ran m (Err (halt.Fault chain)) w old told told)
    (sym (refused_is (host_of stated t) (trees t) b w chain is))
    (run_as_meant (refl, refl) (nothing old) refl)
  where
    nothing : (ks : List Capture) → Appends told.bytes told.bytes (put_out ks [])
    nothing [] = appends_nothing told.bytes
    nothing (k ∷ ks) = appends_nothing told.bytes

pub block_refused : {O : Type 0} (stated : O → StatedObjects) (t : TemplateValue O) (b : List ℕ) (w left : World) (old : List Capture)
    (told : Told) (chain : List ErrorKind) → left ≡ w →
    (is_want_of_memory chain ≡ false → enter_block (host_of stated t) b w ≡ refused chain w) →
    Ran (block_meaning stated t b w) (Err (halt.Fault chain)) left old told told
block_refused stated t b w left old told chain same is =
    subst (λ x. Ran (block_meaning stated t b w) (Err (halt.Fault chain)) x old told told) (sym same)
    (by_kind (is_want_of_memory chain) refl)
  where
    by_kind : (memory : Bool) → is_want_of_memory chain ≡ memory →
        Ran (block_meaning stated t b w) (Err (halt.Fault chain)) w old told told
    by_kind true e = run_by_memory chain refl e (beginning_nothing _ _) refl
    by_kind false e = refused_ran stated t b w old told chain (is e)

-- ---------------------------------------------------------------- its text in a capture
abbrev text_of : List Capture → List ℕ
text_of [] = []
text_of (k ∷ ks) = k.text

module _ (m : Outcome) (left : World) (told now : Told) where
  pub text_done : (old new rest : List Capture) (heard : Bool) (text : List ℕ) → old ≡ new_capture true ∷ [] →
      Ran m (Ok new) left old told now →
      new ≡ record { heard = heard; text = text } ∷ rest → (text ≡ m.text) × (answer_of m ≡ Ok left)
  text_done old new rest heard text one (run_as_meant is appended counted) there =
      (ap text_of (sym there ∙ is.1 ∙ ap (λ ks. put_in ks m.text) one), is.0)
  text_done old new rest heard text one (run_by_writer is part counted) there = absurd (cc is)
  text_done old new rest heard text one (run_by_memory chain is memory part counted) there = absurd (cc is)
