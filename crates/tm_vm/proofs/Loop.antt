-- Where the loop stands in a run, and what it answers there.
use Rattle.std.specs.Global.{Box}
use Rattle.std.proofs.Common.{◌≡◌, ◌≤◌, ◌<◌, ℕ, List, [], ◌∷◌, length, ◌++◌, take, zero, suc, Option, Result, Ok, Err, Some, None, Bool, true, false, refl, sym}
use Rattle.std.proofs.Common.{◌∙◌, ap, subst, append_assoc, arith, inl, inr}
use Rattle.std.specs.Io.KnownBytes.{Appends}
use Rattle.std.proofs.lemmas.List.{append-nil}
use Rattle.std.proofs.Common.{◌+◌, ◌-◌}
use Rattle.tm_meaning.specs.World.{Scope}
use Rattle.tm_meaning.specs.Calls.{include_frames, outermost}
use Rattle.tm_meaning.specs.World.{World, Scopes, depth, owning, without_first}
use Rattle.tm_meaning.specs.Calls.{undone, wrapped}
use Rattle.tm_meaning.specs.Memory.{is_want_of_memory}
use Rattle.tm_meaning.specs.declared.wrapping.Wrapping.{Wrapping}
use Rattle.tm_meaning.specs.declared.wrapping.Wrapping.TheVariants as wrapping
use Rattle.tm_values.specs.Val.{Val}
use Rattle.tm_values.specs.declared.error.ErrorKind.{ErrorKind}
use Rattle.tm_values.specs.declared.error.ErrorKind.TheVariants.{InvalidOperation}
use Rattle.tm_meaning.specs.Machine.{Activation, Capture, Config, End, Finished, Failed, Stuck, Next, More, Over, Restart, Nest, Program, Back}
use Rattle.tm_meaning.specs.Machine.{back_to, back_with, base_of, first_run, nested, running}
use Rattle.tm_meaning.specs.Steps.{begun, final, step, Final, Leads, Reaches, over, more, restart, nest}
use Rattle.tm_meaning.specs.declared.base.Base.{Base}
use Rattle.tm_meaning.proofs.Ends.{one_end, text_grows, more_only}
use Rattle.tm_output.specs.Counts.{AppendsBeginning}
use Rattle.tm_output.specs.Pieces.{appends_then, appends_nothing, appends_beginning, appends_then_beginning_longer, beginning_nothing}
use Rattle.tm_parts.specs.declared.halt.Halt.{Halt}
use Rattle.tm_parts.specs.declared.halt.Halt.TheVariants as halt
use Rattle.tm_records.specs.declared.nested.NestedRun.{NestedRun}
use Rattle.tm_vm.specs.declared.flow.Flow.{Flow}
use Rattle.tm_vm.specs.declared.flow.Flow.TheVariants as flow
use Rattle.tm_vm.specs.Answers.{BeginsRun, ComesTo, Did, Enters, HaltsAs, KeepsGround, NoFewer, ReachesEnd, KeepsBaseScopes, SameStanding, Steps}
use Rattle.tm_runs.specs.Runs.{finished_at}
use Rattle.tm_vm.specs.Answers.{output}
use Rattle.tm_vm.proofs.Ground.{below_first, below_include, below_owning, ground_then, include_long, outermost_long, outermost_twice, owning_long, standing}
use Rattle.tm_state.specs.Answers.{KeepsFixed, KeepsFixedAndNames, OneDeeper, call_of}
use Rattle.tm_records.specs.declared.saved.Saved.{Saved}
use Rattle.tm_records.specs.declared.saved.Saved.TheVariants as saved
use Rattle.tm_records.specs.declared.saved.SavedBlock.{SavedBlock}
use Rattle.tm_records.specs.declared.saved.SavedMacro.{SavedMacro}
use Rattle.tm_records.specs.declared.saved.SavedInclude.{SavedInclude}
use Rattle.tm_vm.specs.Nested.{IsCaptured, RanNested, Went, EndsNested, WroteBeginning, IsBack, IsWrapped, StandsOn, after, begins_in, base_in}
use Rattle.tm_state.specs.State.{IsSaved, callee_of, put_back, undo_of}
use Rattle.tm_meaning.specs.Inheritance.{names_left}
use Rattle.tm_meaning.specs.World.{HostValue}
use Rattle.tm_records.specs.declared.saved.SavedSuper.{SavedSuper}
use Rattle.tm_vm.proofs.Shift.{alone, after_text}

pub kept_same : (w : World) → KeepsFixedAndNames w w
kept_same w = record { same_id = refl; same_fuel_set = refl; no_more_fuel = omega arith; same_loaded = refl }

pub kept_then : {a b c : World} → KeepsFixedAndNames a b → KeepsFixedAndNames b c → KeepsFixedAndNames a c
kept_then h k = record {
  same_id = k.same_id ∙ h.same_id;
  same_fuel_set = k.same_fuel_set ∙ h.same_fuel_set;
  no_more_fuel = omega (arith, h.no_more_fuel, k.no_more_fuel);
  same_loaded = k.same_loaded ∙ h.same_loaded;
}

pub fixed_same : (w : World) → KeepsFixed w w
fixed_same w = record { same_id = refl; same_fuel_set = refl; no_more_fuel = omega arith }

pub fixed_then : {a b c : World} → KeepsFixed a b → KeepsFixed b c → KeepsFixed a c
fixed_then h k = record {
  same_id = k.same_id ∙ h.same_id;
  same_fuel_set = k.same_fuel_set ∙ h.same_fuel_set;
  no_more_fuel = omega (arith, h.no_more_fuel, k.no_more_fuel);
}

-- The writer has got a text since the run began at a, and the machine has come from a to c.
pub record RunsUpTo (p : Program) (f : Base) (a : Config) (told now : Option (List ℕ)) (c : Config) : Type 0 where
  pub text : List ℕ
  pub appended : Appends told now text
  pub onward : (o : Final) → Reaches p f text c o → Reaches p f [] a o
  pub back : (o : Final) → Reaches p f [] a o → Reaches p f text c o

pub stands_first : (p : Program) (f : Base) (a : Config) (told : Option (List ℕ)) → RunsUpTo p f a told told a
stands_first p f a told = record { text = []; appended = appends_nothing told; onward = λ o r. r; back = λ o r. r }

-- one step more
pub stands_next : {p : Program} {f : Base} {a c : Config} {told now : Option (List ℕ)} (d : Config) (new : Option (List ℕ)) →
    RunsUpTo p f a told now c →
    Did p (Ok flow.GoOn) now new d (step p f c) → RunsUpTo p f a told new d
stands_next {p = p} {f = f} {c = c} {told = told} {now = now} d new s did =
    let t = output (step p f c) in
    record {
      text = s.text ++ t;
      appended = appends_then told now new s.text t s.appended did.1;
      onward = λ o r. s.onward o (more did.0 r);
      back = λ o r. more_only did.0 (s.back o r);
    }

-- and some more
module _ {p : Program} {f : Base} {t : List ℕ} {o : Final} where
  leads_on : (count : ℕ) (c d : Config) → Steps p count c d → Leads p f t (step p f d) o → Leads p f t (step p f c) o
  leads_on zero c d same l = subst (λ x. Leads p f t (step p f x) o) same l
  leads_on (suc count) c d s l =
      more (s.1 f) (subst (λ u. Leads p f u (step p f s.0) o) (sym (append-nil t)) (leads_on count s.0 d s.2 l))

  leads_back : (count : ℕ) (c d : Config) → Steps p count c d → Leads p f t (step p f c) o → Leads p f t (step p f d) o
  leads_back zero c d same l = subst (λ x. Leads p f t (step p f x) o) (sym same) l
  leads_back (suc count) c d s l =
      leads_back count s.0 d s.2 (subst (λ u. Leads p f u (step p f s.0) o) (append-nil t) (more_only (s.1 f) l))

pub stands_ahead : {p : Program} {f : Base} {a c : Config} {told now : Option (List ℕ)} (d : Config) (new : Option (List ℕ)) →
    RunsUpTo p f a told now c →
    Did p (Ok flow.Ahead) now new d (step p f c) → RunsUpTo p f a told new d
stands_ahead {p = p} {f = f} {told = told} d new s did =
    let ahead = did.0 in
    record {
      text = s.text;
      appended = subst (λ t. Appends told t s.text) (sym did.1) s.appended;
      onward = λ o r. s.onward o (more ahead.first (subst (λ t. Leads p f t (step p f ahead.between) o) (sym (append-nil s.text))
          (leads_on ahead.count ahead.between d ahead.then r)));
      back = λ o r. leads_back ahead.count ahead.between d ahead.then
          (subst (λ t. Leads p f t (step p f ahead.between) o) (append-nil s.text) (more_only ahead.first (s.back o r)));
    }

-- a run that restarts goes on as it began there
restart_only : {p : Program} {f : Base} {t : List ℕ} {n : Next} {c : Config} {o : Final} → n ≡ Restart c → Leads p f t n o →
    Leads p f t (step p f c) o
restart_only e (over x y) = absurd (cc (e, x))
restart_only e (more x y) = absurd (cc (e, x))
restart_only {p = p} {f = f} {t = t} {c = c1} {o = o} e (restart {c = c2} x y) =
    let same : c2 ≡ c1 = cc (e, x) in subst (λ c. Leads p f t (step p f c) o) same y
restart_only e (nest x y z) = absurd (cc (e, x))

pub stands_again : {p : Program} {f : Base} {a c : Config} {told now : Option (List ℕ)} (d : Config) (new : Option (List ℕ)) →
    RunsUpTo p f a told now c →
    Did p (Ok flow.Restart) now new d (step p f c) → RunsUpTo p f a told new d
stands_again {told = told} d new s did = record {
  text = s.text;
  appended = subst (λ t. Appends told t s.text) (sym did.1) s.appended;
  onward = λ o r. s.onward o (restart did.0 r);
  back = λ o r. restart_only did.0 (s.back o r);
}

-- ---------------------------------------------------------------- nested runs
module _ (p : Program) (heard : Bool) (ks : List Capture) (w : World) (back : Back) where
  abbrev Within : Option Activation → List ℕ → Final → Type 0
  Within a t e = Leads p (base_of heard ks w) t (begun p (base_of heard ks w) a ks w) e

  -- A run that is needed leads on after its end,
  nested_leads : {f : Base} {t : List ℕ} {e o : Final} (a : Option Activation) → Within a t e → Leads p f e.text (back_to back e.end) o →
      Leads p f t (nested a heard ks w back) o
  nested_leads {f = f} {t = t} {o = o} None (over {e = x} at same) rest =
      let ended : x ≡ Failed (InvalidOperation ∷ []) w = cc at in
      subst (λ y. Leads p f y.text (back_to back y.end) o) (same ∙ ap (λ z. final t z) ended) rest
  nested_leads None (more at then) rest = absurd cc
  nested_leads None (restart at then) rest = absurd cc
  nested_leads None (nest at then last) rest = absurd cc
  nested_leads (Some a) run rest = nest refl run rest

  -- and what it leads to, it leads to after its end.
  nested_parts : {f : Base} {t : List ℕ} {o : Final} (a : Option Activation) → Leads p f t (nested a heard ks w back) o →
      (e : Final) × Within a t e × Leads p f e.text (back_to back e.end) o
  nested_parts {t = t} None l = (final t (Failed (InvalidOperation ∷ []) w), over refl refl, l)
  nested_parts (Some a) (over x y) = absurd cc
  nested_parts (Some a) (more x y) = absurd cc
  nested_parts (Some a) (restart x y) = absurd cc
  nested_parts {f = f} {t = t} {o = o} (Some a) (nest {g = g2} {c = c2} {back = b2} {e = e2} x y z) =
      let kg : g2 ≡ base_of heard ks w = cc in
      let kc : c2 ≡ running a ks w = cc in
      let kb : b2 ≡ back = cc in (
        e2,
        subst (λ c. Leads p (base_of heard ks w) t (step p (base_of heard ks w) c) e2) kc (subst (λ g. Leads p g t (step p g c2) e2) kg y),
        subst (λ b. Leads p f e2.text (back_to b e2.end) o) kb z,
      )

  -- what follows a nested run, of a run over it
  nest_only : {f : Base} {t : List ℕ} {e o : Final} (a : Option Activation) → Within a [] e → Leads p f t (nested a heard ks w back) o →
      Leads p f (t ++ e.text) (back_to back e.end) o
  nest_only {f = f} {t = t} {o = o} a run l =
      let parts = nested_parts a l in
      subst (λ (e : Final). Leads p f e.text (back_to back e.end) o) (one_end parts.1 (after_text t run)) parts.2

-- What is undone after a run is what is put back.
pub undone_is : (s : Saved) (b w : World) → IsSaved s b → undone (undo_of s b) w ≡ put_back s w
undone_is (saved.Block s) b w is = sym (ap (λ x. put_back (saved.Block x) w) is)
undone_is (saved.Super s) b w is = sym (ap (λ x. put_back (saved.Super x) w) is)
undone_is (saved.Macro s) b w is = sym (ap (λ x. put_back (saved.Macro x) w) is)
undone_is (saved.Include s) b w is = sym (ap (λ x. put_back (saved.Include x) w) is)

-- what a nested run's end leads to, by what is put back after it
after_is : (e : NestedRun) (b : World) (r : Activation) (end : End) → IsSaved e.saved b →
    back_to (record { run = r; call = call_of e b; value = e.value }) end
    ≡ after e r end
after_is e b r (Finished vs ks w) is = ap (λ x. back_with e.value e.text r ks x) (undone_is e.saved b w is)
after_is e b r (Failed chain w) is = ap (λ x. Over (Failed (wrapped e.wrap chain) x)) (undone_is e.saved b w is)
after_is e b r (Stuck w) is = ap (λ x. Over (Stuck x)) (undone_is e.saved b w is)

-- the run itself
abbrev pub first_of : Program → NestedRun → Config → Option Activation
first_of p e c = first_run p (callee_of e.run) (length c.captures)

-- a nested run that is done, and what follows it
pub stands_after : {p : Program} {f : Base} {a c : Config} {told now : Option (List ℕ)} (entry : NestedRun) (mid d : Config)
    (at new : Option (List ℕ)) → RunsUpTo p f a told now c
    → (Enters p entry mid (step p f c) × (at ≡ now)) → Went p entry mid d at new → RunsUpTo p f a told new d
stands_after {p = p} {f = f} {c = c} {told = told} {now = now} entry mid d at new s did ran =
    let enters = did.0 in
    let b = enters.0 in
    let goes = after_is entry b mid.run (Finished ran.operands ran.captures ran.world) enters.1 ∙ ran.goes in
    let back : Back = record { run = mid.run; call = call_of entry b; value = entry.value } in
    record {
      text = s.text ++ ran.text;
      appended = appends_then told now new s.text ran.text s.appended (subst (λ o. Appends o new ran.text) did.1 ran.appended);
      onward = λ o l. s.onward o (subst (λ n. Leads p f s.text n o) (sym enters.2)
          (nested_leads p entry.heard mid.captures mid.world back (first_of p entry mid) (after_text s.text ran.leads)
          (more goes (subst (λ u. Leads p f u (step p f d) o) (sym (append-nil (s.text ++ ran.text))) l))));
      back = λ o l. subst (λ u. Leads p f u (step p f d) o) (append-nil (s.text ++ ran.text))
          (more_only goes (nest_only p entry.heard mid.captures mid.world back (first_of p entry mid) ran.leads (subst (λ n. Leads p f s.text n o) enters.2 (s.back o l))));
    }

-- what a run that is needed leads to, and what follows it
nest_parts : {p : Program} {f g : Base} {t : List ℕ} {n : Next} {c : Config} {back : Back} {o : Final} → n ≡ Nest g c back →
    Leads p f t n o → (e : Final) × Leads p g t (step p g c) e × Leads p f e.text (back_to back e.end) o
nest_parts at (over x y) = absurd (cc (at, x))
nest_parts at (more x y) = absurd (cc (at, x))
nest_parts at (restart x y) = absurd (cc (at, x))
nest_parts {p = p} {f = f} {g = g} {t = t} {c = c} {back = back} {o = o} at (nest {g = g2} {c = c2} {back = b2} {e = e2} x y z) =
    let kg : g2 ≡ g = cc (at, x) in
    let kc : c2 ≡ c = cc (at, x) in
    let kb : b2 ≡ back = cc (at, x) in (
      e2,
      subst (λ d. Leads p g t (step p g d) e2) kc (subst (λ h. Leads p h t (step p h c2) e2) kg y),
      subst (λ b. Leads p f e2.text (back_to b e2.end) o) kb z,
    )

-- a nested run that is over and wrote nothing
pub stands_called : {p : Program} {f : Base} {a c : Config} {told now : Option (List ℕ)} (d : Config) (new : Option (List ℕ)) →
    RunsUpTo p f a told now c →
    Did p (Ok flow.Called) now new d (step p f c) → RunsUpTo p f a told new d
stands_called {p = p} {f = f} {c = c} {told = told} d new s did =
    let ran = did.0 in
    let inner = after_text s.text ran.leads in
    let same = append-nil s.text in
    record {
      text = s.text;
      appended = subst (λ t. Appends told t s.text) (sym did.1) s.appended;
      onward = λ o l. s.onward o (nest ran.needs inner (more ran.goes
          (subst (λ u. Leads p f u (step p f d) o) (sym (append-nil (s.text ++ []) ∙ same)) l)));
      back = λ o l.
          let parts = nest_parts ran.needs (s.back o l) in
          subst (λ u. Leads p f u (step p f d) o) (append-nil (s.text ++ []) ∙ same)
          (more_only ran.goes (subst (λ (e : Final). Leads p f e.text (back_to ran.back e.end) o) (one_end parts.1 inner) parts.2));
    }

-- ---------------------------------------------------------------- ends
-- what the writer has got at an answer that stopped the loop is a beginning of what it gets at the end
output_first : {p : Program} {f : Base} {t : List ℕ} {n : Next} {o : Final} → Leads p f t n o →
    (rest : List ℕ) × (o.text ≡ t ++ (output n ++ rest))
output_first {p = p} {f = f} {t = t} {n = Over e} {o = o} l = text_grows l
output_first {p = p} {f = f} {t = t} {n = More d c} {o = o} l =
    let grown = text_grows (more_only refl l) in (grown.0, grown.1 ∙ append_assoc t d grown.0)
output_first {p = p} {f = f} {t = t} {n = Restart c} {o = o} l = text_grows l
output_first {p = p} {f = f} {t = t} {n = Nest g c b} {o = o} l = text_grows l

pub beginning_at : {p : Program} {f : Base} {a c : Config} {told now : Option (List ℕ)} (new : Option (List ℕ)) →
    RunsUpTo p f a told now c →
    AppendsBeginning now new (output (step p f c)) → WroteBeginning p f (step p f a) told new
beginning_at {p = p} {f = f} {c = c} {told = told} {now = now} new s begun = λ o r.
    let first = output_first (s.back o r) in
    subst (λ t. AppendsBeginning told new t) (sym first.1)
    (appends_then_beginning_longer told now new s.text (output (step p f c)) first.0 s.appended begun)

-- the same, in a nested run
begun_in : {p : Program} {f : Base} {t : List ℕ} {o : Final} (heard : Bool) (ks : List Capture) (w : World) (back : Back)
    (told now new : Option (List ℕ)) (a : Option Activation) → Appends told now t →
    WroteBeginning p (base_of heard ks w) (begun p (base_of heard ks w) a ks w) now new → Leads p f t (nested a heard ks w back) o →
    AppendsBeginning told new o.text
begun_in {p = p} {t = t} {o = o} heard ks w back told now new a first begins l =
    let parts = nested_parts p heard ks w back a l in
    let inner = alone parts.1 in
    let grown = text_grows parts.2 in
    let same : o.text ≡ t ++ (inner.end.text ++ grown.0) =
    grown.1 ∙ ap (λ u. u ++ grown.0) (ap (λ (x : Final). x.text) inner.same) ∙ append_assoc t inner.end.text grown.0 in
    subst (λ u. AppendsBeginning told new u) (sym same)
    (appends_then_beginning_longer told now new t inner.end.text grown.0 first (begins inner.end inner.leads))

pub beginning_in : {p : Program} {f : Base} {a c : Config} {told now : Option (List ℕ)} (entry : NestedRun) (mid : Config)
    (at new : Option (List ℕ)) → RunsUpTo p f a told now c
    → (Enters p entry mid (step p f c) × (at ≡ now)) → WroteBeginning p (base_in entry mid) (begins_in p entry mid) at new →
    WroteBeginning p f (step p f a) told new
beginning_in {p = p} {f = f} {told = told} {now = now} entry mid at new s did begins = λ o r.
    begun_in entry.heard mid.captures mid.world (record { run = mid.run; call = call_of entry did.0.0; value = entry.value })
    told now new (first_of p entry mid) s.appended
    (subst (λ x. WroteBeginning p (base_in entry mid) (begins_in p entry mid) x new) did.1 begins)
    (subst (λ n. Leads p f s.text n o) did.0.2 (s.back o r))

take-nil : (n : ℕ) → take {A = ℕ} n [] ≡ []
take-nil zero = refl
take-nil (suc n) = refl

-- a beginning of no text is no text
nothing_more : (a b c : Option (List ℕ)) (t : List ℕ) → Appends a b t → AppendsBeginning b c [] → Appends a c t
nothing_more a b c t first begun =
    subst (λ w. Appends a c w) (append-nil t) (appends_then a b c t [] first (subst (λ w. Appends b c w) (take-nil begun.0) begun.1))

-- the end of a run that halted
pub ended_at : {p : Program} {f : Base} {a c : Config} {told now : Option (List ℕ)} (new : Option (List ℕ)) (why : Halt) (w : World) →
    RunsUpTo p f a told now c →
    HaltsAs why w (λ e. step p f c ≡ Over e) → AppendsBeginning now new (output (step p f c)) → HaltsAs why w (ReachesEnd p f a told new)
ended_at {p = p} {f = f} {a = a} {c = c} {told = told} {now = now} new why w s ends begun = by_halt why ends
  where
    comes : (e : End) → step p f c ≡ Over e → ReachesEnd p f a told new e
    comes e at = (
      s.text,
      nothing_more told now new s.text s.appended (subst (λ t. AppendsBeginning now new t) (ap output at) begun),
      s.onward _ (over at refl),
    )

    by_halt : (why : Halt) → HaltsAs why w (λ e. step p f c ≡ Over e) → HaltsAs why w (ReachesEnd p f a told new)
    by_halt halt.Writer ends = tt
    by_halt halt.Stuck ends = comes (Stuck w) ends
    by_halt (halt.Fault chain) ends = λ own. comes (Failed chain w) (ends own)

-- the end of a run whose nested run halted
pub ended_in : {p : Program} {f : Base} {a c : Config} {told now : Option (List ℕ)} (entry : NestedRun) (mid : Config)
    (at new : Option (List ℕ)) (why : Halt) (w : World) → RunsUpTo p f a told now c
    → (Enters p entry mid (step p f c) × (at ≡ now)) → HaltsAs why w (EndsNested p entry mid at new) → HaltsAs why w (ReachesEnd p f a told new)
ended_in {p = p} {f = f} {a = a} {c = c} {told = told} {now = now} entry mid at new why w s did ends = by_halt why ends
  where
    comes : (x : End) → EndsNested p entry mid at new x → ReachesEnd p f a told new x
    comes x ended =
        let run = ended.1 in
        let enters = did.0 in
        let back : Back = record { run = mid.run; call = call_of entry enters.0; value = entry.value } in (
          s.text ++ run.0,
          appends_then told now new s.text run.0 s.appended (subst (λ o. Appends o new run.0) did.1 run.1),
          s.onward _ (subst (λ n. Leads p f s.text n (final (s.text ++ run.0) x)) (sym enters.2)
              (nested_leads p entry.heard mid.captures mid.world back (first_of p entry mid) (after_text s.text run.2)
              (over (after_is entry enters.0 mid.run ended.0 enters.1 ∙ ended.2) refl))),
        )

    by_halt : (why : Halt) → HaltsAs why w (EndsNested p entry mid at new) → HaltsAs why w (ReachesEnd p f a told new)
    by_halt halt.Writer ends = tt
    by_halt halt.Stuck ends = comes (Stuck w) ends
    by_halt (halt.Fault chain) ends = λ own. comes (Failed chain w) (ends own)

-- the end of a run that is done
pub done_at : {p : Program} {f : Base} {a c : Config} {told now : Option (List ℕ)} (d : Config) (new : Option (List ℕ)) →
    RunsUpTo p f a told now c →
    Did p (Ok flow.Done) now new d (step p f c) → ReachesEnd p f a told new (finished_at d)
done_at {told = told} d new s did = (s.text, subst (λ t. Appends told t s.text) (sym did.1) s.appended, s.onward _ (over did.0 refl))

-- then the writer has got the whole text
pub whole_at : {p : Program} {f : Base} {a c : Config} {told now : Option (List ℕ)} (new : Option (List ℕ)) → RunsUpTo p f a told now c →
    new ≡ now → WroteBeginning p f (step p f a) told new
whole_at {told = told} {now = now} new s same = λ o r.
    let grown = text_grows (s.back o r) in
    subst (λ b. AppendsBeginning told b o.text) (sym same)
    (subst (λ t. AppendsBeginning told now t) (sym grown.1) (appends_beginning told now s.text grown.0 s.appended))

-- ---------------------------------------------------------------- for the loop
-- a step over the run's own base
pub at_base : (p : Program) (old new : Config) (told now : Option (List ℕ)) (r : Result Flow Halt) (f g : Base) → f ≡ g →
    Did p r told now new (step p f old) → Did p r told now new (step p g old)
at_base p old new told now r f g e did = subst (λ x. Did p r told now new (step p x old)) e did

-- after a nested run the scopes are the very ones from before it
scopes_back : (limit : ℕ) (s : Saved) (old mid new : World) → OneDeeper limit s old mid → IsBack s mid new → SameStanding old new
scopes_back limit (saved.Block s) old mid new deep back =
    standing old new
    (ap (λ fs. record { frames = fs; outer = new.scopes.outer }) (back.0 ∙ ap without_first deep.1.0.0)
    ∙ ap (λ n. record { frames = old.scopes.frames; outer = n }) (back.1 ∙ ap (λ (s : SavedBlock). s.outer) deep.0))
    (back.2 ∙ deep.1.1)
scopes_back limit (saved.Super s) old mid new deep back =
    standing old new
    (ap (λ fs. record { frames = fs; outer = new.scopes.outer }) (back.0 ∙ ap without_first deep.1.0)
    ∙ ap (λ n. record { frames = old.scopes.frames; outer = n }) (back.1 ∙ ap (λ (s : SavedSuper). s.replaced.outer) deep.0))
    (back.2 ∙ ap (λ (s : SavedSuper). s.places) deep.0)
scopes_back limit (saved.Macro s) old mid new deep back =
    standing old new (back.0 ∙ ap (λ (s : SavedMacro). s.context) deep.0) (back.1 ∙ ap (λ (s : SavedMacro). s.lists.places) deep.0)
scopes_back limit (saved.Include s) old mid new deep back =
    let many : s.replaced.scopes ≡ length old.scopes.frames = ap (λ (s : SavedInclude). s.replaced.scopes) deep.0 in
    let below = ap (λ n. outermost (n - 1) new.scopes.frames) (sym many) ∙ back.1 ∙ ap (λ n. outermost (n - 1) mid.scopes.frames) many
    ∙ ap (outermost (length old.scopes.frames - 1)) deep.1.1 ∙ below_include deep.1.0 old.scopes.frames in (
      back.0 ∙ many,
      (
        below,
        back.2 ∙ ap (λ (s : SavedInclude). s.replaced.outer) deep.0,
        back.3 ∙ ap (λ (s : SavedInclude). s.lists.places) deep.0,
      ),
    )

pub scopes_after : (limit : ℕ) (e : NestedRun) (old mid new : World) → OneDeeper limit e.saved old mid → IsBack e.saved mid new →
    SameStanding old new
scopes_after limit e old mid new deep back = scopes_back limit e.saved old mid new deep back

-- it stands deeper than the run that waits, on the scopes that were saved
lies_deeper : (limit : ℕ) (s : Saved) (old mid : World) → OneDeeper limit s old mid → mid.loaded ≡ old.loaded →
    StandsOn s mid × (depth old.scopes < depth mid.scopes)
lies_deeper limit (saved.Block s) old mid deep names =
    let frames = ap length deep.1.0.0 in
    let outer = deep.1.0.1 in
    let held : s.scopes ≡ length old.scopes.frames = ap (λ (s : SavedBlock). s.scopes) deep.0 in
    (omega (arith, frames, held), omega (arith, frames, outer))
lies_deeper limit (saved.Super s) old mid deep names =
    let frames = ap length deep.1.0 in
    let outer = deep.1.1 in
    let held : s.replaced.scopes ≡ length old.scopes.frames = ap (λ (s : SavedSuper). s.replaced.scopes) deep.0 in
    (omega (arith, frames, held), omega (arith, frames, outer))
lies_deeper limit (saved.Macro s) old mid deep names =
    let lies = deep.1.1 in
    (ap (λ (s : SavedMacro). s.lists.loaded) deep.0 ∙ sym names, omega (arith, lies))
lies_deeper limit (saved.Include s) old mid deep names =
    let more = include_long deep.1.0 old.scopes.frames in
    let many : length mid.scopes.frames ≡ length (include_frames deep.1.0 old.scopes.frames) = ap length deep.1.1 in
    let held : s.replaced.scopes ≡ length old.scopes.frames = ap (λ (s : SavedInclude). s.replaced.scopes) deep.0 in
    let outer = deep.1.2 in (
      (
        omega (arith, more, many, held),
        ap (λ (s : SavedInclude). s.lists.loaded) deep.0 ∙ sym names,
      ),
      omega (arith, more, many, outer),
    )

pub stands_deeper : (limit : ℕ) (e : NestedRun) (old mid : World) → OneDeeper limit e.saved old mid → mid.loaded ≡ old.loaded →
    StandsOn e.saved mid × (depth old.scopes < depth mid.scopes)
stands_deeper limit e old mid deep names = lies_deeper limit e.saved old mid deep names

-- of the scopes after a run only those below its own are left
pub left_below : (n : ℕ) (begun ran : World) → length begun.scopes.frames ≡ n + 1 → NoFewer begun ran →
    outermost n ran.scopes.frames ≡ without_first begun.scopes.frames
left_below n begun ran stands no_fewer =
    let less : n ≡ length begun.scopes.frames - 1 = omega (arith, stands) in
    ap (λ k. outermost k ran.scopes.frames) less ∙ no_fewer.1.0 ∙ below_first begun.scopes.frames (omega (arith, stands))

-- the scopes that a run opened are left, and those that were replaced are back
pub is_back : (s : Saved) (begun ran : World) → StandsOn s begun → NoFewer begun ran → IsBack s begun (put_back s ran)
is_back (saved.Block s) begun ran stands no_fewer = (left_below s.scopes begun ran stands no_fewer, refl, no_fewer.1.2)
is_back (saved.Super s) begun ran stands no_fewer = (left_below s.replaced.scopes begun ran stands no_fewer, refl, refl)
is_back (saved.Macro s) begun ran stands no_fewer = (refl, refl)
is_back (saved.Include s) begun ran stands no_fewer =
    let n = s.replaced.scopes in
    let held : n ≤ length begun.scopes.frames = stands.0 in
    let more = no_fewer.0 in
    let last = length begun.scopes.frames - 1 in
    let left = outermost n ran.scopes.frames in
    let long : length left ≡ n = outermost_long n ran.scopes.frames (omega (arith, held, more)) in
    let below = ap (λ k. outermost (k - 1) (owning s.closure left)) (sym long) ∙ below_owning s.closure left ∙ ap (λ k. outermost (k - 1) left) long
    ∙ outermost_twice (n - 1) n ran.scopes.frames (omega arith) (omega (arith, held, more))
    ∙ sym (outermost_twice (n - 1) last ran.scopes.frames (omega (arith, held)) (omega (arith, more)))
    ∙ ap (outermost (n - 1)) no_fewer.1.0 ∙ outermost_twice (n - 1) last begun.scopes.frames (omega (arith, held)) (omega arith) in
    (owning_long s.closure left ∙ long, below, refl, refl)

-- the same, of a run that began in the world that was left before it
pub was_back : (s : Saved) (old begun ran new : World) → begun ≡ old → StandsOn s old → NoFewer begun ran → new ≡ put_back s ran →
    IsBack s old new
was_back s old begun ran new same stands no_fewer moved =
    subst (λ w. IsBack s old w) (sym moved) (is_back s old ran stands (subst (λ w. NoFewer w ran) same no_fewer))

-- after a run no more names are left than when it began
pub names_back : (host : HostValue) (s : Saved) (begun ran : World) → StandsOn s begun → names_left host ran ≤ names_left host begun →
    names_left host (put_back s ran) ≤ names_left host begun
names_back host (saved.Block s) begun ran stands less = less
names_back host (saved.Super s) begun ran stands less = less
names_back host (saved.Include s) begun ran stands less =
    let same : names_left host (put_back (saved.Include s) ran) ≡ names_left host begun =
    ap (λ ns. names_left host (record ran { loaded = ns })) stands.1 in
    omega (arith, same)
names_back host (saved.Macro s) begun ran stands less =
    let same : names_left host (put_back (saved.Macro s) ran) ≡ names_left host begun =
    ap (λ ns. names_left host (record ran { loaded = ns })) stands in
    omega (arith, same)

pub fixed_back : (s : Saved) (old ran : World) → KeepsFixed old ran → KeepsFixed old (put_back s ran)
fixed_back (saved.Block s) old ran kept =
    record { same_id = kept.same_id; same_fuel_set = kept.same_fuel_set; no_more_fuel = kept.no_more_fuel }
fixed_back (saved.Super s) old ran kept =
    record { same_id = kept.same_id; same_fuel_set = kept.same_fuel_set; no_more_fuel = kept.no_more_fuel }
fixed_back (saved.Macro s) old ran kept =
    record { same_id = kept.same_id; same_fuel_set = kept.same_fuel_set; no_more_fuel = kept.no_more_fuel }
fixed_back (saved.Include s) old ran kept =
    record { same_id = kept.same_id; same_fuel_set = kept.same_fuel_set; no_more_fuel = kept.no_more_fuel }

-- after a step of a run whose base stood over so many scopes
pub above_base : (heard : Bool) (ks : List Capture) (first : World) (f : Base) (old new : World) → f ≡ base_of heard ks first →
    NoFewer first old → KeepsBaseScopes f old new → NoFewer first new
above_base heard ks first f old new e above stays =
    let base : f.scopes ≡ length first.scopes.frames = ap (λ (b : Base). b.scopes) e in
    let more = above.0 in
    let then = stays (omega (arith, base, more)) in
    let long = then.0 in
    (omega (arith, base, long), ground_then (length first.scopes.frames) first old new above.1 (subst (λ n. KeepsGround n old new) base then.1))

-- ---------------------------------------------------------------- wraps
want_wrapped : (wrap : Option Wrapping) (chain : List ErrorKind) → is_want_of_memory (wrapped wrap chain) ≡ is_want_of_memory chain
want_wrapped None chain = refl
want_wrapped (Some wrapping.EvalBlock) [] = refl
want_wrapped (Some wrapping.EvalBlock) (k ∷ ks) = refl
want_wrapped (Some wrapping.BadInclude) [] = refl
want_wrapped (Some wrapping.BadInclude) (k ∷ ks) = refl

-- the halt of a nested run, as it is reported
wrapped_as : (p : Program) (e : NestedRun) (old : Config) (told now : Option (List ℕ)) (why tells : Halt) (w : World) →
    IsWrapped e.wrap why tells
    → HaltsAs why w (ComesTo p (base_in e old) (begins_in p e old) told now) → HaltsAs tells (put_back e.saved w) (EndsNested p e old told now)
wrapped_as p e old told now halt.Writer tells w is h =
    subst (λ x. HaltsAs x (put_back e.saved w) (EndsNested p e old told now)) (sym is) tt
wrapped_as p e old told now halt.Stuck tells w is h =
    subst (λ x. HaltsAs x (put_back e.saved w) (EndsNested p e old told now)) (sym is) (Stuck w, h, refl)
wrapped_as p e old told now (halt.Fault chain) tells w (inl is) h =
    subst (λ x. HaltsAs x (put_back e.saved w) (EndsNested p e old told now)) (sym is)
    (λ own. (Failed chain w, h (sym (want_wrapped e.wrap chain) ∙ own), refl))
wrapped_as p e old told now (halt.Fault chain) tells w (inr is) h =
    subst (λ x. HaltsAs x (put_back e.saved w) (EndsNested p e old told now)) (sym is) (λ own. absurd (cc own))

-- A run that has begun, and has come to another configuration.
module _ (p : Program) (e : NestedRun) (waits : Activation) (old begun_at ran : Config) (told now : Option (List ℕ))
    (begins : BeginsRun (first_of p e old) (Some waits) old begun_at) where
  abbrev Stands : Base
  Stands = base_of e.heard begun_at.captures begun_at.world

  stands : Stands ≡ base_in e old
  stands = ap (λ ks. base_of e.heard ks begun_at.world) begins.2 ∙ ap (λ w. base_of e.heard old.captures w) begins.3

  has_begun : step p Stands begun_at ≡ begins_in p e old
  has_begun =
      ap (λ ks. step p (base_of e.heard ks begun_at.world) (running begun_at.run ks begun_at.world)) begins.2
      ∙ ap (λ w. step p (base_of e.heard old.captures w) (running begun_at.run old.captures w)) begins.3
      ∙ sym (ap (λ a. begun p (base_in e old) a old.captures old.world) begins.1)

  comes : (x : End) → ReachesEnd p Stands begun_at told now x → ComesTo p (base_in e old) (begins_in p e old) told now x
  comes x r =
      subst (λ n. ComesTo p (base_in e old) n told now x) has_begun
      (subst (λ f. ComesTo p f (step p Stands begun_at) told now x) stands r)

  halts : (why : Halt) → HaltsAs why ran.world (ReachesEnd p Stands begun_at told now) →
      HaltsAs why ran.world (ComesTo p (base_in e old) (begins_in p e old) told now)
  halts halt.Writer h = tt
  halts halt.Stuck h = comes (Stuck ran.world) h
  halts (halt.Fault chain) h = λ own. comes (Failed chain ran.world) (h own)

  -- Where it halted, that is the end of the run that waits;
  pub wrapped_ends : (left : Config) (why tells : Halt) → left.world ≡ put_back e.saved ran.world → IsWrapped e.wrap why tells →
      HaltsAs why ran.world (ReachesEnd p Stands begun_at told now) → HaltsAs tells left.world (EndsNested p e old told now)
  wrapped_ends left why tells same is h =
      subst (λ w. HaltsAs tells w (EndsNested p e old told now)) (sym same)
      (wrapped_as p e old told now why tells ran.world is (halts why h))

  -- and where it was done, that goes on.
  pub went : (new : Config) → ReachesEnd p Stands begun_at told now (finished_at ran) →
      after e old.run (finished_at ran) ≡ More [] new → Went p e old new told now
  went new r goes =
      let came = comes (finished_at ran) r in
      record {
        text = came.0;
        operands = ran.run.operands;
        captures = ran.captures;
        world = ran.world;
        appended = came.1;
        leads = came.2;
        goes = goes;
      }

  over_put : (put : Config) → put ≡ record { run = waits; captures = ran.captures; world = put_back e.saved ran.world } →
      back_with e.value e.text old.run ran.captures (put_back e.saved ran.world) ≡ back_with e.value e.text put.run put.captures put.world
  over_put put at =
      ap (λ a. back_with e.value e.text a ran.captures (put_back e.saved ran.world)) (sym begins.0)
      ∙ sym (ap (λ (c : Config). back_with e.value e.text c.run c.captures c.world) at)

  pub in_place : (put : Config) → put ≡ record { run = waits; captures = ran.captures; world = put_back e.saved ran.world } →
      e.value ≡ false → ReachesEnd p Stands begun_at told now (finished_at ran) → Went p e old put told now
  in_place put at value r = went put r (over_put put at ∙ ap (λ v. back_with v e.text put.run put.captures put.world) value)

  -- Where its text is a value, that is put on top.
  pub as_value : (put new : Config) (result : Result (Unit {0}) Halt) → IsCaptured e.text result put new →
      put ≡ record { run = waits; captures = ran.captures; world = put_back e.saved ran.world } → e.value ≡ true →
      new.world ≡ put.world → ReachesEnd p Stands begun_at told now (finished_at ran) →
      RanNested p e old new told now result
  as_value put new (Ok u) is at value same r =
      went new r (over_put put at ∙ ap (λ v. back_with v e.text put.run put.captures put.world) value ∙ is)
  as_value put new (Err halt.Writer) is at value same r = absurd is
  as_value put new (Err halt.Stuck) is at value same r = (
    finished_at ran,
    comes (finished_at ran) r,
    over_put put at ∙ ap (λ v. back_with v e.text put.run put.captures put.world) value
        ∙ ap (λ ks. back_with true e.text put.run ks put.world) is ∙ ap (λ w. Over (Stuck w)) (sym same),
  )
  as_value put new (Err (halt.Fault chain)) is at value same r = λ own. absurd (let w : true ≡ false = sym is ∙ own in cc w)

  -- What was written first is a beginning of what it writes.
  pub began : WroteBeginning p Stands (step p Stands begun_at) told now → WroteBeginning p (base_in e old) (begins_in p e old) told now
  began h =
      subst (λ n. WroteBeginning p (base_in e old) n told now) has_begun
      (subst (λ f. WroteBeginning p f (step p Stands begun_at) told now) stands h)

-- Where there is no such run the call is refused.
refused_first : (p : Program) (e : NestedRun) (old : Config) → first_of p e old ≡ None →
    begins_in p e old ≡ Over (Failed (InvalidOperation ∷ []) old.world)
refused_first p e old none = ap (λ a. begun p (base_in e old) a old.captures old.world) none

pub refused_ends : (p : Program) (e : NestedRun) (old left : Config) (told : Option (List ℕ)) (tells : Halt) → first_of p e old ≡ None →
    left.world ≡ put_back e.saved old.world → IsWrapped e.wrap (halt.Fault (InvalidOperation ∷ [])) tells →
    HaltsAs tells left.world (EndsNested p e old told told)
refused_ends p e old left told tells none same is =
    subst (λ w. HaltsAs tells w (EndsNested p e old told told)) (sym same)
    (wrapped_as p e old told told (halt.Fault (InvalidOperation ∷ [])) tells old.world is
    (λ own. ([], appends_nothing told, over (refused_first p e old none) refl)))

pub refused_begins : (p : Program) (e : NestedRun) (old : Config) (told : Option (List ℕ)) →
    WroteBeginning p (base_in e old) (begins_in p e old) told told
refused_begins p e old told = λ o l. beginning_nothing told o.text

-- One that was done is there.
is_begun : {p : Program} {f : Base} {t : List ℕ} {o : Final} (vs : List Val) (ks later : List Capture) (w left : World)
    (a : Option Activation) → Leads p f t (begun p f a ks w) o → o.end ≡ Finished vs later left → (first : Activation) × (a ≡ Some first)
is_begun vs ks later w left (Some a) l done = (a, refl)
is_begun vs ks later w left None (over at same) done = let last = ap (λ (x : Final). x.end) same in absurd (cc (at, last, done))
is_begun vs ks later w left None (more at rest) done = absurd cc
is_begun vs ks later w left None (restart at rest) done = absurd cc
is_begun vs ks later w left None (nest at rest then) done = absurd cc

pub was_there : {p : Program} {e : NestedRun} {old new : Config} {told now : Option (List ℕ)} → Went p e old new told now →
    (first : Activation) × (first_of p e old ≡ Some first)
was_there {p = p} {e = e} {old = old} ran = is_begun ran.operands old.captures ran.captures old.world ran.world (first_of p e old) ran.leads refl
