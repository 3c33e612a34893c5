-- What a run of a template's code answered is what its trees mean.
use Rattle.std.proofs.Common.{◌≡◌, inl, inr, ℕ, List, [], ◌∷◌, Bool, true, false, Option, Result, Ok, Err, IsErrAnd, refl, sym, ap}
use Rattle.std.proofs.Common.{◌∙◌, length, subst, String, string_bytes}
use Rattle.std.specs.declared.alloc.Global.{Global}
use Rattle.std.specs.Io.KnownBytes.{Appends}
use Rattle.tm_meaning.specs.Memory.{is_want_of_memory}
use Rattle.tm_values.specs.declared.error.ErrorKind.{ErrorKind}
use Rattle.tm_meaning.specs.World.{World}
use Rattle.tm_meaning.specs.Tree.{Trees}
use Rattle.tm_values.specs.Val.{Val}
use Rattle.tm_meaning.specs.Meaning.{Ending, done, leave, next, fault, left_by, Outcome}
use Rattle.tm_meaning.specs.Runs.{left_of, rendered}
use Rattle.tm_meaning.specs.Machine.{Capture, End, Finished, Failed, Stuck, Program, base_of, new_capture, put_in, put_out, run_from, running}
use Rattle.tm_meaning.specs.Steps.{Final, final, step, Reaches}
use Rattle.tm_meaning.specs.Compiled.{IsCompiled}
use Rattle.tm_meaning.proofs.Ends.{one_end}
use Rattle.tm_output.specs.Counts.{AppendsBeginning, NoFailure, Told, untold}
use Rattle.tm_parts.specs.Halts.{error_of, failures_after}
use Rattle.tm_parts.specs.declared.halt.Halt.{Halt}
use Rattle.tm_parts.specs.declared.halt.Halt.TheVariants as halt
use Rattle.tm_simulation.proofs.Follow.{air, inside}
use Rattle.tm_simulation.proofs.Forms.{end_by}
use Rattle.tm_simulation.proofs.Renders.{render_runs}
use Rattle.tm_vm.specs.Answers.{HaltsAs, ReachesEnd}
use Rattle.tm_vm.specs.Nested.{WroteBeginning}
use Rattle.template_machine.specs.Environment.{TemplateValue}
use Rattle.template_machine.specs.Renders.{CapturedValue, StateValue, IsCapturedRun, RenderedCaptured, captured_as_meant, captured_by_memory}
use Rattle.template_machine.specs.Renders.{answer_by, answer_of, is_cut, IsFresh, Ran, run_as_meant, run_by_writer, run_by_memory}
use Rattle.template_machine.specs.Renders.{Rendered, as_meant, by_writer, by_memory, RenderedText, text_as_meant, text_by_memory}
use Rattle.template_machine.specs.Renders.{BlockWritten, block_as_meant, block_by_writer, block_by_memory}

-- ---------------------------------------------------------------- ends
-- the end that is meant, over captures
abbrev meant_end : Ending → List Capture → World → End
meant_end (fault chain) ks w = Failed chain w
meant_end e ks w = Finished (left_by e) ks w

abbrev final_by : Ending → List Capture → List ℕ → World → Final
final_by e captures out w = final (put_out captures out) (meant_end e (put_in captures out) w)

abbrev final_in : List Capture → Outcome → Final
final_in captures m = final_by m.ending captures m.text m.world

abbrev IsDone : Ending → List Capture → List Capture → List ℕ → List ℕ → World → World → Type 0
IsDone e captures new text out left w = (text ≡ put_out captures out) × ((answer_by e w ≡ Ok left) × (new ≡ put_in captures out))

ended_is : (e : Ending) (us vs : List Val) (captures new : List Capture) (text out : List ℕ) (left w : World) →
    final text (Finished us new left) ≡ final (put_out captures out) (Finished vs (put_in captures out) w) →
    answer_by e w ≡ Ok w → IsDone e captures new text out left w
ended_is e us vs captures new text out left w same answer =
    let ends : Finished us new left ≡ Finished vs (put_in captures out) w = ap (λ (o : Final). o.end) same in
    let world : w ≡ left = cc in
    (ap (λ (o : Final). o.text) same, (answer ∙ ap (λ x. Ok x) world, let a : new ≡ put_in captures out = cc in a))

finished_is : (e : Ending) (us : List Val) (captures new : List Capture) (text out : List ℕ) (left w : World) →
    final text (Finished us new left) ≡ final_by e captures out w → IsDone e captures new text out left w
finished_is (done vs) us captures new text out left w same = ended_is (done vs) us vs captures new text out left w same refl
finished_is leave us captures new text out left w same = ended_is leave us [] captures new text out left w same refl
finished_is next us captures new text out left w same = ended_is next us [] captures new text out left w same refl
finished_is (fault chain) us captures new text out left w same = let ends : Finished us new left
    ≡ Failed chain w = ap (λ (o : Final). o.end) same in absurd (cc)

-- the operands that are left are the values that are meant
operands_are : (e : Ending) (us : List Val) (captures new : List Capture) (text out : List ℕ) (left w : World) →
    final text (Finished us new left) ≡ final_by e captures out w → us ≡ left_by e
operands_are (done vs) us captures new text out left w same =
    let ends : Finished us new left ≡ Finished vs (put_in captures out) w = ap (λ (o : Final). o.end) same in cc
operands_are leave us captures new text out left w same =
    let ends : Finished us new left ≡ Finished [] (put_in captures out) w = ap (λ (o : Final). o.end) same in cc
operands_are next us captures new text out left w same =
    let ends : Finished us new left ≡ Finished [] (put_in captures out) w = ap (λ (o : Final). o.end) same in cc
operands_are (fault chain) us captures new text out left w same =
    let ends : Finished us new left ≡ Failed chain w = ap (λ (o : Final). o.end) same in absurd (cc)

not_failed : (vs : List Val) (captures : List Capture) (text out : List ℕ) (left w : World) (answer : List ErrorKind) (e : Ending) →
    final text (Failed answer left) ≡ final (put_out captures out) (Finished vs (put_in captures out) w) →
    (text ≡ put_out captures out) × ((answer_by e w ≡ Err answer) × (w ≡ left))
not_failed vs captures text out left w answer e same = let ends : Failed answer left
    ≡ Finished vs (put_in captures out) w = ap (λ (o : Final). o.end) same in absurd (cc)

failed_is : (e : Ending) (captures : List Capture) (text out : List ℕ) (left w : World) (answer : List ErrorKind) →
    final text (Failed answer left) ≡ final_by e captures out w →
    (text ≡ put_out captures out) × ((answer_by e w ≡ Err answer) × (w ≡ left))
failed_is (done vs) captures text out left w answer same = not_failed vs captures text out left w answer (done vs) same
failed_is leave captures text out left w answer same = not_failed [] captures text out left w answer leave same
failed_is next captures text out left w answer same = not_failed [] captures text out left w answer next same
failed_is (fault chain) captures text out left w answer same =
    let ends : Failed answer left ≡ Failed chain w = ap (λ (o : Final). o.end) same in
    let world : w ≡ left = cc in
    (ap (λ (o : Final). o.text) same, (let a : Err chain ≡ Err answer = cc in a, world))

not_stuck : (e : Ending) (captures : List Capture) (text out : List ℕ) (left w : World) →
    final text (Stuck left) ≡ final_by e captures out w → ⊥
not_stuck (done vs) captures text out left w same = let ends : Stuck left
    ≡ Finished vs (put_in captures out) w = ap (λ (o : Final). o.end) same in absurd (cc)
not_stuck leave captures text out left w same = let ends : Stuck left
    ≡ Finished [] (put_in captures out) w = ap (λ (o : Final). o.end) same in absurd (cc)
not_stuck next captures text out left w same = let ends : Stuck left
    ≡ Finished [] (put_in captures out) w = ap (λ (o : Final). o.end) same in absurd (cc)
not_stuck (fault chain) captures text out left w same = let ends : Stuck left
    ≡ Failed chain w = ap (λ (o : Final). o.end) same in absurd (cc)

-- ---------------------------------------------------------------- beds
heard_air : (e : Ending) (out : List ℕ) (w : World) → end_by e air out w ≡ final_by e [] out w
heard_air (done vs) out w = refl
heard_air leave out w = refl
heard_air next out w = refl
heard_air (fault chain) out w = refl

heard_inside : (e : Ending) (out : List ℕ) (w : World) → end_by e (inside true [] []) out w ≡ final_by e (new_capture true ∷ []) out w
heard_inside (done vs) out w = refl
heard_inside leave out w = refl
heard_inside next out w = refl
heard_inside (fault chain) out w = refl

-- ---------------------------------------------------------------- runs
-- A run of a template's code, over captures and a writer.
module _ (p : Program) (trees : Trees) (compiled : IsCompiled trees p) (captures new : List Capture) (w left : World)
    (told now : Told) where
  abbrev m : Outcome
  m = rendered p.host trees w

  abbrev Goes : List Capture → Final → Type 0
  Goes ks o = Reaches p (base_of true ks w) [] (running (run_from w.stream (length ks)) ks w) o

  -- the code comes to the end that the tree means
  reached : IsFresh captures → Goes captures (final_in captures m)
  reached (inl none) =
      subst (λ ks. Goes ks (final_in ks m)) (sym none)
      (subst (λ o. Goes [] o) (heard_air m.ending m.text m.world) (render_runs p trees compiled air w))
  reached (inr one) =
      subst (λ ks. Goes ks (final_in ks m)) (sym one)
      (subst (λ o. Goes (new_capture true ∷ []) o) (heard_inside m.ending m.text m.world)
      (render_runs p trees compiled (inside true [] []) w))

  abbrev ComesTo : End → Type 0
  ComesTo e = ReachesEnd p (base_of true captures w) (running (run_from w.stream (length captures)) captures w) told.bytes now.bytes e

  written : (text : List ℕ) → text ≡ put_out captures m.text → Appends told.bytes now.bytes text → Appends told.bytes now.bytes (put_out captures m.text)
  written text same appended = subst (λ t. Appends told.bytes now.bytes t) same appended

  pub run_done : (us : List Val) → IsFresh captures → ComesTo (Finished us new left) → NoFailure told now →
      Ran m (Ok new) left captures told now
  run_done us fresh (text, appended, reaches) counted =
      let same = finished_is m.ending us captures new text m.text left m.world (one_end reaches (reached fresh)) in
      run_as_meant same.1 (written text same.0 appended) counted

  -- the end that is meant leaves this world
  pub run_answers : (us : List Val) → IsFresh captures → ComesTo (Finished us new left) → answer_of m ≡ Ok left
  run_answers us fresh (text, appended, reaches) =
      (finished_is m.ending us captures new text m.text left m.world (one_end reaches (reached fresh))).1.0

  -- and the machine's operands are the values that are left
  pub run_leaves : (us : List Val) → IsFresh captures → ComesTo (Finished us new left) → us ≡ left_of m
  run_leaves us fresh (text, appended, reaches) =
      operands_are m.ending us captures new text m.text left m.world (one_end reaches (reached fresh))

  -- a run that was cut short may leave any world
  pub run_halted : (why : Halt) (put : World) → (is_cut why ≡ false → left ≡ put) → IsFresh captures → HaltsAs why left ComesTo →
      WroteBeginning p (base_of true captures w)
      (step p (base_of true captures w) (running (run_from w.stream (length captures)) captures w)) told.bytes now.bytes →
      now.failures ≡ failures_after {A = Unit {0}} (Err why) told.failures → Ran m (Err why) put captures told now
  run_halted why put there fresh ends begun counted = by_halt why there ends counted
    where
      part : AppendsBeginning told.bytes now.bytes (put_out captures m.text)
      part = begun _ (reached fresh)

      by_chain : (b : Bool) (chain : List ErrorKind) → is_want_of_memory chain ≡ b → (is_want_of_memory chain ≡ false → left ≡ put) →
          (is_want_of_memory chain ≡ false → ComesTo (Failed chain left)) → NoFailure told now →
          Ran m (Err (halt.Fault chain)) put captures told now
      by_chain true chain memory there ends counted = run_by_memory chain refl memory part counted
      by_chain false chain own there ends counted =
          let came = ends own in
          let same = failed_is m.ending captures came.0 m.text left m.world chain (one_end came.2 (reached fresh)) in
          subst (λ x. Ran m (Err (halt.Fault chain)) x captures told now) (there own)
          (run_as_meant same.1 (written came.0 same.0 came.1) counted)

      by_halt : (why : Halt) → (is_cut why ≡ false → left ≡ put) → HaltsAs why left ComesTo →
          now.failures ≡ failures_after {A = Unit {0}} (Err why) told.failures → Ran m (Err why) put captures told now
      by_halt halt.Writer there ends counted = run_by_writer refl part counted
      by_halt halt.Stuck there (text, appended, reaches) counted = absurd
          (not_stuck m.ending captures text m.text left m.world (one_end reaches (reached fresh)))
      by_halt (halt.Fault chain) there ends counted = by_chain (is_want_of_memory chain) chain refl there ends counted

-- ---------------------------------------------------------------- what a run that failed is to its caller
-- over no capture, into a writer
module _ (m : Outcome) (left : World) (old : List Capture) (none : old ≡ []) (told now : Told) where
  abbrev Came : Halt → Type 0
  Came why = Ran m (Err why) left old told now

  all_of_it : Appends told.bytes now.bytes (put_out old m.text) → Appends told.bytes now.bytes m.text
  all_of_it appended = subst (λ ks. Appends told.bytes now.bytes (put_out ks m.text)) none appended

  part_of_it : AppendsBeginning told.bytes now.bytes (put_out old m.text) → AppendsBeginning told.bytes now.bytes m.text
  part_of_it part = subst (λ ks. AppendsBeginning told.bytes now.bytes (put_out ks m.text)) none part

  pub rendered_failed : {O : Type 0} (t : TemplateValue O) (why : Halt) → Came why → Rendered t m (Err (error_of why)) told now
  rendered_failed t halt.Writer (run_as_meant is appended counted) = absurd is
  rendered_failed t halt.Writer (run_by_writer is part counted) = by_writer refl (part_of_it part) counted
  rendered_failed t halt.Writer (run_by_memory chain is memory part counted) = absurd (cc is)
  rendered_failed t halt.Stuck (run_as_meant is appended counted) = absurd is
  rendered_failed t halt.Stuck (run_by_writer is part counted) = absurd (cc is)
  rendered_failed t halt.Stuck (run_by_memory chain is memory part counted) = absurd (cc is)
  rendered_failed t (halt.Fault kinds) (run_as_meant is appended counted) = as_meant is.0 (all_of_it appended) counted
  rendered_failed t (halt.Fault kinds) (run_by_writer is part counted) = absurd (cc is)
  rendered_failed t (halt.Fault kinds) (run_by_memory chain is memory part counted) =
      let kind : kinds ≡ chain = cc is in by_memory (ap is_want_of_memory kind ∙ memory) (part_of_it part) counted

  pub written_failed : (why : Halt) → Came why → BlockWritten m (Err (error_of why)) left told now
  written_failed halt.Writer (run_as_meant is appended counted) = absurd is
  written_failed halt.Writer (run_by_writer is part counted) = block_by_writer refl (part_of_it part) counted
  written_failed halt.Writer (run_by_memory chain is memory part counted) = absurd (cc is)
  written_failed halt.Stuck (run_as_meant is appended counted) = absurd is
  written_failed halt.Stuck (run_by_writer is part counted) = absurd (cc is)
  written_failed halt.Stuck (run_by_memory chain is memory part counted) = absurd (cc is)
  written_failed (halt.Fault kinds) (run_as_meant is appended counted) = block_as_meant is (all_of_it appended) counted
  written_failed (halt.Fault kinds) (run_by_writer is part counted) = absurd (cc is)
  written_failed (halt.Fault kinds) (run_by_memory chain is memory part counted) =
      let kind : kinds ≡ chain = cc is in block_by_memory (ap is_want_of_memory kind ∙ memory) (part_of_it part) counted

  pub written_done : (new : List Capture) → Ran m (Ok new) left old told now →
      BlockWritten m (Ok tt) left told now
  written_done new (run_as_meant is appended counted) = block_as_meant is.0 (all_of_it appended) counted
  written_done new (run_by_writer is part counted) = absurd (cc is)
  written_done new (run_by_memory chain is memory part counted) = absurd (cc is)

-- over a capture, with no writer that could fail
pub text_failed : (m : Outcome) (left : World) (old : List Capture) (why : Halt) →
    Ran m (Err why) left old untold untold → RenderedText m (Err (error_of why))
text_failed m left old halt.Writer (run_as_meant is appended counted) = absurd is
text_failed m left old halt.Writer (run_by_writer is part counted) = absurd (cc counted)
text_failed m left old halt.Writer (run_by_memory chain is memory part counted) = absurd (cc is)
text_failed m left old halt.Stuck (run_as_meant is appended counted) = absurd is
text_failed m left old halt.Stuck (run_by_writer is part counted) = absurd (cc is)
text_failed m left old halt.Stuck (run_by_memory chain is memory part counted) = absurd (cc is)
text_failed m left old (halt.Fault kinds) (run_as_meant is appended counted) = text_as_meant is.0
text_failed m left old (halt.Fault kinds) (run_by_writer is part counted) = absurd (cc is)
text_failed m left old (halt.Fault kinds) (run_by_memory chain is memory part counted) =
    let kind : kinds ≡ chain = cc is in text_by_memory (ap is_want_of_memory kind ∙ memory)

-- an error that was passed on
pub passed : {T E : Type 0} (r : Result T E) (P : Result T E → Type 0) (e : E) → IsErrAnd r (λ x. x ≡ e) → P (Err e) → P r
passed (Ok x) P e is p = absurd is
passed (Err y) P e is p = subst (λ x. P (Err x)) (sym is) p

-- the text of a run in a capture of its own is a render's
pub text_of_captured : (m : Outcome) (w : World) (r : Result (String Global) (List ErrorKind)) → IsCapturedRun r m w → RenderedText m r
text_of_captured m w (Ok text) is = text_as_meant (is.0, w, is.1)
text_of_captured m w (Err chain) is = by_kind (is_want_of_memory chain) refl
  where
    by_kind : (b : Bool) → is_want_of_memory chain ≡ b → RenderedText m (Err chain)
    by_kind true e = text_by_memory e
    by_kind false e = text_as_meant (ap (λ (x : Ending). answer_by x m.world) (is e).0)

-- and so it is with its state
pub captured_done : {O : Type 0} (t r : TemplateValue O) (m : Outcome) (w : World) (text : String Global) (s : StateValue O)
    (c : CapturedValue (StateValue O)) → r ≡ t → s ≡ record { template = r; world = w } → c ≡ record { output = string_bytes text; state = s } →
    IsCapturedRun (Ok text) m w → RenderedCaptured t m (Ok c)
captured_done {O} t r m w text s c r_is s_is c_is is =
    captured_as_meant (
      ap (λ (x : CapturedValue (StateValue O)). x.output) c_is ∙ is.0,
      ap (λ (x : CapturedValue (StateValue O)). x.state.template) c_is ∙ ap (λ (x : StateValue O). x.template) s_is ∙ r_is,
      is.1 ∙ sym (ap (λ (x : CapturedValue (StateValue O)). Ok x.state.world) c_is ∙ ap (λ (x : StateValue O). Ok x.world) s_is),
    )

pub captured_failed : {O : Type 0} (t : TemplateValue O) (m : Outcome) (w : World) (chain : List ErrorKind) → IsCapturedRun (Err chain) m w →
    RenderedCaptured t m (Err chain)
captured_failed t m w chain is = of_text (text_of_captured m w (Err chain) is)
  where
    of_text : RenderedText m (Err chain) → RenderedCaptured t m (Err chain)
    of_text (text_as_meant e) = captured_as_meant e
    of_text (text_by_memory e) = captured_by_memory e
