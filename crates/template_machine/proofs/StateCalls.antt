-- What calls of a state answer is what is meant.
use Rattle.std.proofs.Common.{◌≡◌, ◌+◌, ℕ, suc, List, [], ◌∷◌, Option, Some, None, Ok, Err, String, string_bytes, Bool, true, false}
use Rattle.std.proofs.Common.{refl, sym, ap, ◌∙◌, subst, arith, length}
use Rattle.std.specs.declared.alloc.Global.{Global}
use Rattle.tm_values.specs.Val.{Val}
use Rattle.tm_values.specs.declared.error.ErrorKind.{ErrorKind}
use Rattle.tm_meaning.specs.World.{World, Good, Bad, without_first}
use Rattle.tm_meaning.specs.Calls.{Asked, Callee, NestedCall, outermost, run_value, undone, wrapped}
use Rattle.tm_meaning.specs.Meaning.{Ending, done, leave, next, fault, Outcome, value_after}
use Rattle.tm_meaning.specs.Runs.{nests_of}
use Rattle.tm_meaning.specs.Machine.{Capture, Config, End, Finished, Failed, Stuck, Over, Program, base_of, first_run, new_capture, running}
use Rattle.tm_meaning.specs.Steps.{Final, begins, begun, final, over, step}
use Rattle.tm_meaning.proofs.Ends.{one_end}
use Rattle.tm_simulation.specs.Reached.{RunsTo, captures_with, end_by, final_in}
use Rattle.tm_simulation.proofs.Renders.{nested_comes_to_meaning}
use Rattle.tm_output.specs.Pieces.{appends_nothing}
use Rattle.tm_values.specs.declared.error.ErrorKind.TheVariants.{InvalidOperation}
use Rattle.tm_parts.specs.Halts.{failures_after}
use Rattle.tm_parts.specs.declared.halt.Halt.{Halt}
use Rattle.tm_parts.specs.declared.halt.Halt.TheVariants as halt
use Rattle.tm_state.specs.Answers.{CallDeeper, HasOneMore, NeedsRun, StaysInPlace, call_of}
use Rattle.tm_state.specs.State.{after_block, callee_of, put_back, saved_of}
use Rattle.tm_records.specs.declared.saved.Saved.{Saved}
use Rattle.tm_records.specs.declared.saved.Saved.TheVariants as saved
use Rattle.tm_records.specs.declared.saved.SavedBlock.{SavedBlock}
use Rattle.tm_records.specs.declared.saved.SavedMacro.{SavedMacro}
use Rattle.tm_records.specs.declared.saved.SavedSuper.{SavedSuper}
use Rattle.tm_records.specs.declared.nested.NestedRun.{NestedRun}
use Rattle.tm_objects.specs.Stated.{StatedObjects}
use Rattle.tm_vm.specs.Answers.{ComesTo, HaltsAs, NoFewer, ReachesEnd}
use Rattle.tm_vm.proofs.Loop.{left_below, undone_is}
use Rattle.tm_safety.proofs.Ends.{run_ends_well}
use Rattle.template_machine.specs.Environment.{IsOfTrees, TemplateValue, code, host_of, trees}
use Rattle.template_machine.proofs.Meant.{trees_code}
use Rattle.template_machine.specs.Renders.{answer_by, answer_of, called_value, callee_run, is_cut, program_of, IsMacroCall, IsCapturedRun, RanApart}

-- the captures of a run whose text is a value, and those after it
abbrev one : List Capture
one = new_capture true ∷ []

abbrev taking : List ℕ → List Capture
taking text = captures_with one text

-- ---------------------------------------------------------------- ends
done_as : (us vs : List Val) (new : List Capture) (t out : List ℕ) (left x : World) →
    final t (Finished us new left) ≡ final [] (Finished vs (taking out) x) → (x ≡ left) × (new ≡ taking out)
done_as us vs new t out left x same =
    let ends : Finished us new left ≡ Finished vs (taking out) x = ap (λ (o : Final). o.end) same in
    let world : x ≡ left = cc in
    let captures : new ≡ taking out = cc in (world, captures)

done_by : (e : Ending) (us : List Val) (new : List Capture) (t out : List ℕ) (left x : World) →
    final t (Finished us new left) ≡ final [] (end_by e (taking out) x) → (answer_by e x ≡ Ok left) × (new ≡ taking out)
done_by (done vs) us new t out left x same = let d = done_as us vs new t out left x same in (ap (λ w. Ok w) d.0, d.1)
done_by leave us new t out left x same = let d = done_as us [] new t out left x same in (ap (λ w. Ok w) d.0, d.1)
done_by next us new t out left x same = let d = done_as us [] new t out left x same in (ap (λ w. Ok w) d.0, d.1)
done_by (fault chain) us new t out left x same =
    let ends : Finished us new left ≡ Failed chain x = ap (λ (o : Final). o.end) same in absurd (cc)

no_fault : {A : Type 0} (vs : List Val) (t out : List ℕ) (left x : World) (chain : List ErrorKind) →
    final t (Failed chain left) ≡ final [] (Finished vs (taking out) x) → A
no_fault vs t out left x chain same =
    let ends : Failed chain left ≡ Finished vs (taking out) x = ap (λ (o : Final). o.end) same in absurd (cc)

failed_by : (e : Ending) (t out : List ℕ) (left x : World) (chain : List ErrorKind) →
    final t (Failed chain left) ≡ final [] (end_by e (taking out) x) → (e ≡ fault chain) × (x ≡ left)
failed_by (done vs) t out left x chain same = no_fault vs t out left x chain same
failed_by leave t out left x chain same = no_fault [] t out left x chain same
failed_by next t out left x chain same = no_fault [] t out left x chain same
failed_by (fault why) t out left x chain same =
    let ends : Failed chain left ≡ Failed why x = ap (λ (o : Final). o.end) same in
    let chains : why ≡ chain = cc in
    let world : x ≡ left = cc in (ap (λ c. fault c) chains, world)

not_stuck : {A : Type 0} (e : Ending) (t out : List ℕ) (left x : World) → final t (Stuck left) ≡ final [] (end_by e (taking out) x) → A
not_stuck (done vs) t out left x same = let ends : Stuck left ≡ Finished vs (taking out) x = ap (λ (o : Final). o.end) same in absurd (cc)
not_stuck leave t out left x same = let ends : Stuck left ≡ Finished [] (taking out) x = ap (λ (o : Final). o.end) same in absurd (cc)
not_stuck next t out left x same = let ends : Stuck left ≡ Finished [] (taking out) x = ap (λ (o : Final). o.end) same in absurd (cc)
not_stuck (fault why) t out left x same = let ends : Stuck left ≡ Failed why x = ap (λ (o : Final). o.end) same in absurd (cc)

-- ---------------------------------------------------------------- a run in a capture
module _ {O : Type 0} (stated : O → StatedObjects) (t : TemplateValue O) (of : IsOfTrees t) (k : Callee) (w left : World)
    (told now : Option (List ℕ)) where
  abbrev p : Program
  p = program_of stated t

  abbrev o : Outcome
  o = callee_run stated t k w

  -- the code comes to the end that the tree means
  reached : RunsTo p k true one [] w (final_in one [] o)
  reached =
      let e : suc p.host.limit ≡ p.host.limit + 1 = omega arith in
      subst (λ n. RunsTo p k true one [] w (final_in one [] (nests_of p.host (trees t) n k true [] w))) e
      (nested_comes_to_meaning (trees t) p p.host.limit k true one [] w (trees_code t of) (omega arith))

  abbrev Meant : End → Type 0
  Meant e = ComesTo p (base_of true one w) (begins p (base_of true one w) k one w) told now e

  pub run_done : (us : List Val) (new : List Capture) → Meant (Finished us new left) → (answer_of o ≡ Ok left) × (new ≡ taking o.text)
  run_done us new (text, appended, reaches) = done_by o.ending us new text o.text left o.world (one_end reaches reached)

  run_failed : (chain : List ErrorKind) → Meant (Failed chain left) → (o.ending ≡ fault chain) × (o.world ≡ left)
  run_failed chain (text, appended, reaches) = failed_by o.ending text o.text left o.world chain (one_end reaches reached)

  run_stuck : {A : Type 0} → Meant (Stuck left) → A
  run_stuck (text, appended, reaches) = not_stuck o.ending text o.text left o.world (one_end reaches reached)

-- a run that was made of a template's rendering
module _ {O : Type 0} (stated : O → StatedObjects) (t r : TemplateValue O) (same : r ≡ t) (k : Callee) (w left : World)
    (captures : List Capture) (fresh : captures ≡ one) (told now : Option (List ℕ)) where
  abbrev of : TemplateValue O → Program
  of v = program_of stated v

  abbrev Comes : TemplateValue O → Config → End → Type 0
  Comes v c e = ReachesEnd (of v) (base_of true c.captures c.world) c told now e

  abbrev Starts : TemplateValue O → List Capture → End → Type 0
  Starts v ks e = ComesTo (of v) (base_of true ks w) (begins (of v) (base_of true ks w) k ks w) told now e

  pub of_first : (e : End) → Starts r captures e → Starts t one e
  of_first e comes = subst (λ v. Starts v one e) same (subst (λ ks. Starts r ks e) fresh comes)

  pub of_template : (config : Config) → config ≡ running config.run captures w → first_run (of r) k (length captures) ≡ Some config.run →
      (e : End) → Comes r config e → Starts t one e
  of_template config at there e comes =
      let p = of r in
      let base = base_of true captures w in
      let first : step p base (running config.run captures w) ≡ begins p base k captures w =
      sym (ap (λ x. begun p base x captures w) there) in
      of_first e (subst (λ n. ComesTo p base n told now e) first (subst (λ c. Comes r c e) at comes))

  pub over_done : IsOfTrees t → (config : Config) → config ≡ running config.run captures w → first_run (of r) k (length captures) ≡ Some config.run →
      (us : List Val) (new kept : List Capture) (put : World) → new ≡ kept → left ≡ put → Comes r config (Finished us new left) →
      RanApart (Ok kept) (callee_run stated t k w) put
  over_done by_trees config at first us new kept put is there comes =
      subst (λ ks. RanApart (Ok ks) (callee_run stated t k w) put) is
      (subst (λ x. RanApart (Ok new) (callee_run stated t k w) x) there
      (run_done stated t by_trees k w left told now us new (of_template config at first (Finished us new left) comes)))

  by_halt : IsOfTrees t → (why : Halt) (put : World) → (is_cut why ≡ false → left ≡ put) → 0 ≡ failures_after {A = Unit {0}} (Err why) 0 →
      HaltsAs why left (Starts t one) → RanApart (Err why) (callee_run stated t k w) put
  by_halt by_trees halt.Writer put there counted ends = absurd (cc counted)
  by_halt by_trees halt.Stuck put there counted ends = run_stuck stated t by_trees k w left told now ends
  by_halt by_trees (halt.Fault chain) put there counted ends = λ own.
      subst (λ x. ((callee_run stated t k w).ending ≡ fault chain) × ((callee_run stated t k w).world ≡ x)) (there own)
      (run_failed stated t by_trees k w left told now chain (ends own))

  halted_there : (config : Config) → config ≡ running config.run captures w → first_run (of r) k (length captures) ≡ Some config.run →
      (why : Halt) → HaltsAs why left (Comes r config) → HaltsAs why left (Starts t one)
  halted_there config at first halt.Writer ends = tt
  halted_there config at first halt.Stuck ends = of_template config at first (Stuck left) ends
  halted_there config at first (halt.Fault chain) ends = λ own. of_template config at first (Failed chain left) (ends own)

  -- a run that was cut short may leave any world
  pub over_halted : IsOfTrees t → (config : Config) → config ≡ running config.run captures w → first_run (of r) k (length captures) ≡ Some config.run →
      (why : Halt) (put : World) → (is_cut why ≡ false → left ≡ put) → 0 ≡ failures_after {A = Unit {0}} (Err why) 0 →
      HaltsAs why left (Comes r config) → RanApart (Err why) (callee_run stated t k w) put
  over_halted by_trees config at first why put there counted ends =
      by_halt by_trees why put there counted (halted_there config at first why ends)

  -- it closed the captures that it opened
  pub over_closed : (config : Config) → config ≡ running config.run captures w → first_run (of r) k (length captures) ≡ Some config.run →
      (us : List Val) (new : List Capture) → Comes r config (Finished us new left) → length new ≡ 1
  over_closed config at first us new comes = closed_by us new (of_template config at first (Finished us new left) comes)
    where
      closed_by : (us : List Val) (new : List Capture) → Starts t one (Finished us new left) → length new ≡ 1
      closed_by us new (text, appended, leads) = run_ends_well (of t) k true one [] w (final text (Finished us new left)) leads

-- one that there isn't
pub over_none : {O : Type 0} (stated : O → StatedObjects) (t r : TemplateValue O) (same : r ≡ t) (k : Callee) (w put : World)
    (captures : List Capture) → IsOfTrees t → captures ≡ one → first_run (program_of stated r) k (length captures) ≡ None →
    w ≡ put → RanApart (Err (halt.Fault (InvalidOperation ∷ []))) (callee_run stated t k w) put
over_none stated t r same k w put captures by_trees fresh none there =
    let p = program_of stated r in
    let base = base_of true captures w in
    let refused : begins p base k captures w ≡ Over (Failed (InvalidOperation ∷ []) w) = ap (λ x. begun p base x captures w) none in
    subst (λ x. RanApart (Err (halt.Fault (InvalidOperation ∷ []))) (callee_run stated t k w) x) there
    (λ m. run_failed stated t by_trees k w w None None (InvalidOperation ∷ [])
    (of_first stated t r same k w w captures fresh None None (Failed (InvalidOperation ∷ []) w)
    ([], appends_nothing None, over refused refl)))

-- the capture that was left holds the text
pub text_left : (captures rest : List Capture) (heard : Bool) (text : List ℕ) (m : Outcome) (left : World) →
    RanApart (Ok captures) m left → captures ≡ record { heard = heard; text = text } ∷ rest → text ≡ m.text
text_left captures rest heard text m left ran ended =
    let same : record { heard = true; text = m.text } ∷ [] ≡ record { heard = heard; text = text } ∷ rest = sym ran.1 ∙ ended in
    sym (ap text_of same)
  where
    text_of : List Capture → List ℕ
    text_of [] = []
    text_of (k ∷ ks) = k.text

-- ---------------------------------------------------------------- what a call needed
module _ {O : Type 0} (stated : O → StatedObjects) (t : TemplateValue O) (e : NestedRun) (w left : World) (asked : Asked)
    (needs : NeedsRun e asked w) where
  abbrev ran : Outcome
  ran = callee_run stated t (callee_of e.run) w

  meant_by : called_value stated t asked ≡ value_after ran.ending (call_of e needs.3.0) ran
  meant_by = ap (called_value stated t) needs.3.2

  back : undone (call_of e needs.3.0).undo left ≡ put_back e.saved left
  back = undone_is e.saved needs.3.0 left needs.3.1

  value_by : (end : Ending) (c : NestedCall) (x : Outcome) (text : List ℕ) → text ≡ x.text → answer_by end x.world ≡ Ok left →
      value_after end c x ≡ Good (run_value c.text text (undone c.undo left)) (undone c.undo left)
  value_by (done vs) c x text same is =
      let world : x.world ≡ left = cc is in rw (sym world, same) refl
  value_by leave c x text same is =
      let world : x.world ≡ left = cc is in rw (sym world, same) refl
  value_by next c x text same is =
      let world : x.world ≡ left = cc is in rw (sym world, same) refl
  value_by (fault chain) c x text same is = absurd (cc is)

  pub value_answered : (text : String Global) (v : Val) → IsCapturedRun (Ok text) ran left →
      v ≡ run_value e.text (string_bytes text) (put_back e.saved left) → IsMacroCall (Ok v) (called_value stated t asked) (put_back e.saved left)
  value_answered text v captured is =
      let c : NestedCall = call_of e needs.3.0 in
      meant_by ∙ value_by ran.ending c ran (string_bytes text) captured.0 captured.1
      ∙ ap (λ x. Good (run_value e.text (string_bytes text) x) x) back
      ∙ ap (λ u. Good u (put_back e.saved left)) (sym is)

  pub fault_answered : (chain : List ErrorKind) → IsCapturedRun (Err chain) ran left →
      IsMacroCall (Err chain) (called_value stated t asked) (put_back e.saved left)
  fault_answered chain captured = λ m.
      let c : NestedCall = call_of e needs.3.0 in
      let is = captured m in
      meant_by ∙ ap (λ end. value_after end c ran) is.0 ∙ ap (λ x. Bad (wrapped_by chain) (undone c.undo x)) is.1
      ∙ ap (λ x. Bad (wrapped_by chain) x) back ∙ ap (λ u. Bad (wrapped u chain) (put_back e.saved left)) needs.2
    where
      wrapped_by : List ErrorKind → List ErrorKind
      wrapped_by ks = wrapped e.wrap ks

-- ---------------------------------------------------------------- what stands after it
-- where no scope of those below a block's own is left, only that is
block_left : (s : SavedBlock) (before w left : World) → s ≡ saved_of before → HasOneMore before w → NoFewer w left →
    (after_block s left).scopes ≡ before.scopes
block_left s before w left is more no_fewer =
    let scopes : s.scopes ≡ length before.scopes.frames = ap (λ (s : SavedBlock). s.scopes) is in
    let long : length w.scopes.frames ≡ length before.scopes.frames + 1 = ap length more.0 ∙ omega arith in
    let frames : outermost s.scopes left.scopes.frames ≡ before.scopes.frames =
    left_below s.scopes w left (omega (arith, long, scopes)) no_fewer ∙ ap without_first more.0 in
    ap (λ fs. record { frames = fs; outer = s.outer }) frames
    ∙ ap (λ n. record { frames = before.scopes.frames; outer = n }) (ap (λ (s : SavedBlock). s.outer) is)

pub block_stands : (s : SavedBlock) (before w left : World) → s ≡ saved_of before → HasOneMore before w → w.places ≡ before.places →
    NoFewer w left → StaysInPlace before (after_block s left)
block_stands s before w left is more places no_fewer = (
  block_left s before w left is more no_fewer,
  ap (λ (s : SavedBlock). s.stream) is,
  ap (λ (s : SavedBlock). s.block) is,
  ap (λ (s : SavedBlock). s.escape) is,
  no_fewer.1.2 ∙ places,
)

pub stands_again : (limit : ℕ) (s : Saved) (before w left : World) → CallDeeper limit s before w → NoFewer w left →
    StaysInPlace before (put_back s left)
stands_again limit (saved.Block s) before w left deep no_fewer = block_stands s before w left deep.0.0 deep.0.1.0 deep.0.1.1 no_fewer
stands_again limit (saved.Super s) before w left deep no_fewer =
    let is : s.replaced ≡ saved_of before = ap (λ (s : SavedSuper). s.replaced) deep.0.0 in (
      block_left s.replaced before w left is deep.0.1 no_fewer,
      ap (λ (s : SavedBlock). s.stream) is,
      ap (λ (s : SavedBlock). s.block) is,
      ap (λ (s : SavedBlock). s.escape) is,
      ap (λ (s : SavedSuper). s.places) deep.0.0,
    )
stands_again limit (saved.Macro s) before w left deep no_fewer = (
  ap (λ (s : SavedMacro). s.context) deep.0.0,
  ap (λ (s : SavedMacro). s.stream) deep.0.0,
  ap (λ (s : SavedMacro). s.block) deep.0.0,
  ap (λ (s : SavedMacro). s.escape) deep.0.0,
  ap (λ (s : SavedMacro). s.lists.places) deep.0.0,
)
stands_again limit (saved.Include s) before w left deep no_fewer = absurd deep.1
