-- What a run answered that was made of a template's rendering.
use Rattle.std.proofs.Common.{◌≡◌, ◌+◌, ℕ, List, [], ◌∷◌, Option, Result, Ok, Err, String, true, false, inr, refl, sym, subst, length}
use Rattle.std.specs.declared.alloc.Global.{Global}
use Rattle.tm_values.specs.Val.{Val}
use Rattle.tm_values.specs.declared.error.ErrorKind.{ErrorKind}
use Rattle.tm_values.specs.declared.error.ErrorKind.TheVariants.{InvalidOperation}
use Rattle.tm_meaning.specs.World.{World}
use Rattle.tm_objects.specs.Stated.{StatedObjects}
use Rattle.tm_meaning.specs.Machine.{Capture, Config, Finished, Program, base_of, run_from, running}
use Rattle.tm_output.specs.Counts.{NoFailure, Told}
use Rattle.tm_parts.specs.Halts.{failures_after}
use Rattle.tm_parts.specs.declared.halt.Halt.{Halt}
use Rattle.tm_meaning.specs.Steps.{step}
use Rattle.tm_meaning.specs.Meaning.{Outcome}
use Rattle.tm_meaning.specs.Runs.{left_of}
use Rattle.tm_vm.specs.Answers.{HaltsAs, ReachesEnd}
use Rattle.tm_vm.specs.Nested.{WroteBeginning}
use Rattle.tm_meaning.specs.declared.stream.TemplateId.TheVariants.{Own}
use Rattle.tm_meaning.specs.Calls.{whole}
use Rattle.tm_meaning.specs.Steps.{final}
use Rattle.tm_safety.proofs.Ends.{run_ends_well}
use Rattle.tm_templates.proofs.Streams.{of_source}
use Rattle.template_machine.specs.Environment.{AreOfTrees, IsMadeIn, IsOfTrees, EnvironmentValue, TemplateValue, host_of, trees, code}
use Rattle.template_machine.proofs.Meant.{trees_code}
use Rattle.template_machine.specs.Renders.{answer_of, is_cut, meaning, meaning_from, program_of, IsFresh, Ran, RenderedText, RenderedSource, source_rendered, IsUnnumbered}
use Rattle.template_machine.proofs.Answered.{run_answers, run_done, run_halted, run_leaves}

module _ {O : Type 0} (stated : O → StatedObjects) (t : TemplateValue O) (captures new : List Capture) (w left : World)
    (told now : Told) (config : Config)
    (begins : config ≡ running (run_from w.stream (length captures)) captures w) (fresh : IsFresh captures) where
  abbrev p : Program
  p = program_of stated t

  abbrev m : Outcome
  m = meaning_from stated t w

  pub over_done : IsOfTrees t → (us : List Val) (kept : List Capture) (put : World) → new ≡ kept → left ≡ put →
      ReachesEnd p (base_of true config.captures config.world) config told.bytes now.bytes (Finished us new left) → NoFailure told now →
      Ran m (Ok kept) put captures told now
  over_done of us kept put is there comes counted =
      subst (λ ks. Ran m (Ok ks) put captures told now) is
      (subst (λ x. Ran m (Ok new) x captures told now) there
      (run_done p (trees t) (trees_code t of) captures new w left told now us fresh
      (subst (λ (c : Config). ReachesEnd p (base_of true c.captures c.world) c told.bytes now.bytes (Finished us new left)) begins comes) counted))

  pub over_leaves : IsOfTrees t → (us : List Val) →
      ReachesEnd p (base_of true config.captures config.world) config told.bytes now.bytes (Finished us new left) → us ≡ left_of m
  over_leaves of us comes =
      run_leaves p (trees t) (trees_code t of) captures new w left told now us fresh
      (subst (λ (c : Config). ReachesEnd p (base_of true c.captures c.world) c told.bytes now.bytes (Finished us new left)) begins comes)

  pub over_answers : IsOfTrees t → (us : List Val) →
      ReachesEnd p (base_of true config.captures config.world) config told.bytes now.bytes (Finished us new left) → answer_of m ≡ Ok left
  over_answers of us comes =
      run_answers p (trees t) (trees_code t of) captures new w left told now us fresh
      (subst (λ (c : Config). ReachesEnd p (base_of true c.captures c.world) c told.bytes now.bytes (Finished us new left)) begins comes)

  pub over_halted : IsOfTrees t → (why : Halt) (put : World) → (is_cut why ≡ false → left ≡ put) →
      HaltsAs why left (ReachesEnd p (base_of true config.captures config.world) config told.bytes now.bytes) →
      WroteBeginning p (base_of true config.captures config.world) (step p (base_of true config.captures config.world) config) told.bytes now.bytes →
      now.failures ≡ failures_after {A = Unit {0}} (Err why) told.failures → Ran m (Err why) put captures told now
  over_halted of why put there ends begun counted =
      run_halted p (trees t) (trees_code t of) captures new w left told now why put there fresh
      (subst (λ (c : Config). HaltsAs why left (ReachesEnd p (base_of true c.captures c.world) c told.bytes now.bytes)) begins ends)
      (subst (λ (c : Config). WroteBeginning p (base_of true c.captures c.world) (step p (base_of true c.captures c.world) c) told.bytes now.bytes)
      begins begun) counted

  -- it closed the captures that it opened
  pub over_closed : (us : List Val) →
      ReachesEnd p (base_of true config.captures config.world) config told.bytes now.bytes (Finished us new left) → length new ≡ length captures
  over_closed us comes =
      let (text, appended, leads) : ReachesEnd p (base_of true captures w) (running (run_from w.stream (length captures)) captures w) told.bytes now.bytes
      (Finished us new left) =
      subst (λ (c : Config). ReachesEnd p (base_of true c.captures c.world) c told.bytes now.bytes (Finished us new left)) begins comes in
      run_ends_well p (whole w.stream) true captures [] w (final text (Finished us new left)) leads

-- a source that was rendered
pub source_done : {O : Type 0} (stated : O → StatedObjects) (e : EnvironmentValue O) (t : TemplateValue O)
    (name source : List ℕ) (old new : ℕ) (context : Val)
    (result : Result (String Global) (List ErrorKind)) →
    IsMadeIn stated e name source t → (IsOfTrees t → RenderedText (meaning stated t old context) result) → new ≡ old + 1 →
    RenderedSource stated e name source old new context result
source_done stated e t name source old new context result made text counted =
    source_rendered t.template made.2 (λ others.
    let of : IsOfTrees t = record {
      own = of_source e.syntax ((stated e.objects).escapes name) name source t.template made.2;
      others = subst (λ e. AreOfTrees e.templates) (sym made.0) others;
    } in
    (subst (λ e. RenderedText (meaning stated (record { environment = e; id = Own; template = t.template }) old context) result) made.0
    (subst (λ id. RenderedText (meaning stated (record { environment = t.environment; id = id; template = t.template }) old context) result)
    made.1 (text of)))) counted

-- one that spells a template, where the counter is full
pub source_full : {O : Type 0} (stated : O → StatedObjects) (e : EnvironmentValue O) (t : TemplateValue O) (name source : List ℕ)
    (result : Result (String Global) (List ErrorKind)) →
    IsMadeIn stated e name source t → result ≡ Err (InvalidOperation ∷ []) → IsUnnumbered stated e name source result
source_full stated e t name source result made is =
    subst (IsUnnumbered stated e name source) (sym is) (inr (t.template, made.2, refl))
