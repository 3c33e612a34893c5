-- The lists of blocks and the loaded names that a call keeps: it runs a block, or it puts back what it replaced.
use Rattle.std.proofs.Common.{◌≡◌, ◌∙◌, ◌+◌, ◌⊎◌, inl, inr, ℕ, zero, suc, List, [], ◌∷◌, Option, Some, None, Ok, Err, Bool, true, false, refl, sym, ap, subst}
use Rattle.std.specs.Prelude.{nat_eq, nat_lt, slice_get}
use Rattle.tm_values.specs.Answer.{Answer}
use Rattle.tm_values.specs.Val.{Val, MacroData, function, macro, map, pairs_of, text}
use Rattle.tm_values.specs.declared.error.ErrorKind.{ErrorKind}
use Rattle.tm_values.specs.declared.error.ErrorKind.TheVariants.{InvalidOperation, TooManyArguments, UnknownFilter, UnknownFunction, UnknownTest}
use Rattle.tm_definitions.specs.Emitted.{text_answer}
use Rattle.tm_definitions.specs.Maps.{dict_of, namespace_of}
use Rattle.tm_definitions.specs.Ranges.{range_of}
use Rattle.tm_meaning.specs.World.{World, HostValue, Function, Object, callers, languages, Res, Good, bind, check, need, answered, depth, find, find_name}
use Rattle.tm_meaning.specs.World.{make_namespace, put_each, records_of, view_of}
use Rattle.tm_meaning.specs.Calls.{Asked, has, refused, runs, recurs, ask, MakesFurther, of_macro}
use Rattle.tm_meaning.specs.Calls.{replied, object_call, found_call, given_by, function_call, value_call, named_call, as_printed, as_truth, from_deeper}
use Rattle.tm_meaning.specs.Calls.{deeper, enter_block, further_calls, by_depths, depths_left, apply_filter, perform_test}
use Rattle.tm_meaning.specs.Calls.{enter_macro, macro_call, bound_to, known_stream, macro_scopes, macro_depth}
use Rattle.tm_meaning.specs.declared.stream.StreamId.{StreamId}
use Rattle.tm_meaning.specs.declared.function.GlobalFunction.{GlobalFunction}
use Rattle.tm_meaning.specs.declared.function.GlobalFunction.TheVariants as own
use Rattle.tm_meaning.specs.declared.reply.Reply.{Reply}
use Rattle.tm_meaning.specs.declared.reply.Reply.TheVariants.{Value as gives, Fault as faults, Further as asks_for}
use Rattle.tm_meaning.specs.declared.reply.Call.{Call}
use Rattle.tm_meaning.specs.declared.reply.Call.TheVariants as further
use Rattle.tm_state.specs.State.{IsSaved, undo_of, saved_scopes}
use Rattle.tm_state.specs.Answers.{Becomes, call_of}
use Rattle.tm_records.specs.declared.saved.Saved.{Saved}
use Rattle.tm_records.specs.declared.saved.Saved.TheVariants as saved
use Rattle.tm_records.specs.declared.saved.SavedMacro.{SavedMacro}
use Rattle.tm_records.specs.declared.nested.NestedRun.{NestedRun}
use Rattle.tm_records.specs.declared.results.CallResult.{CallResult}
use Rattle.tm_records.specs.declared.results.CallResult.TheVariants as outcome
use Rattle.template_machine.specs.Renders.{KeepsLists, SameLists, is_of_block, runs_a_block}

-- ---------------------------------------------------------------- whatever is asked for, so is its property
module _ (P : Asked → Type 0) (faulty : (chain : List ErrorKind) (w : World) → P (refused chain w)) where
  check_asks : (b : Bool) (kind : ErrorKind) (w : World) (f : Unit {0} → World → Asked) → P (f tt w) → P (ask (check b kind w) f)
  check_asks true kind w f h = h
  check_asks false kind w f h = faulty (kind ∷ []) w

  need_asks : {A : Type 0} (found : Option A) (kind : ErrorKind) (w : World) (f : A → World → Asked) → ((a : A) → P (f a w)) →
      P (ask (need found kind w) f)
  need_asks (Some a) kind w f h = h a
  need_asks None kind w f h = faulty (kind ∷ []) w

  answered_asks : {A : Type 0} (answer : Answer A) (w : World) (f : A → World → Asked) → ((a : A) → P (f a w)) → P (ask (answered answer w) f)
  answered_asks (Ok a) w f h = h a
  answered_asks (Err chain) w f h = faulty chain w

  bound_asks : {A B : Type 0} (answer : Answer A) (w : World) (g : A → World → Res B) (f : B → World → Asked) →
      ((a : A) → P (ask (g a w) f)) → P (ask (bind (answered answer w) g) f)
  bound_asks (Ok a) w g f h = h a
  bound_asks (Err chain) w g f h = faulty chain w

  -- a macro's run, which stands in scopes of its own
  abbrev In : ℕ → MacroData → List Val → StreamId → World → World
  In outer m args s w = record w { scopes = macro_scopes m args w.scopes.frames outer; stream = s; block = None }

  abbrev Fits : ℕ → HostValue → MacroData → List Val → List Val → StreamId → World → Asked
  Fits n host m args given s w =
      let outer = n + depth w.scopes + macro_depth in
      ask (check (nat_lt (outer + 1) host.limit) InvalidOperation w) (λ _ world1. runs (macro_call s m given world1) (In outer m args s world1))

  entered_asks : (n : ℕ) (host : HostValue) (m : MacroData) (args : List Val) (w : World) →
      ((s : StreamId) (given : List Val) (outer : ℕ) → P (runs (macro_call s m given w) (In outer m args s w))) → P (enter_macro n host m args w)
  entered_asks n host m args w h =
      check_asks (nat_eq m.state w.id) InvalidOperation w
      (λ _ world1. ask (need (bound_to m args) TooManyArguments world1) (λ given world2.
      ask (need (known_stream m world2) InvalidOperation world2) (Fits n host m args given)))
      (need_asks {A = List Val} (bound_to m args) TooManyArguments w
      (λ given world1. ask (need (known_stream m world1) InvalidOperation world1) (Fits n host m args given)) (λ given.
      need_asks {A = StreamId} (known_stream m w) InvalidOperation w (Fits n host m args given) (λ s.
      let outer = n + depth w.scopes + macro_depth in
      check_asks (nat_lt (outer + 1) host.limit) InvalidOperation w
      (λ _ world1. runs (macro_call s m given world1) (In outer m args s world1)) (h s given outer))))

-- ---------------------------------------------------------------- what is put back
-- worlds that differ in records and kept values alone
abbrev Alike : World → World → Type 0
Alike b w = saved_scopes w ≡ saved_scopes b

-- A block's run is asked for, or a macro's, after which what was replaced is put back; else nothing was replaced.
abbrev Keeps : World → Asked → Type 0
Keeps b (has v w) = Alike b w
Keeps b (refused chain w) = Unit {0}
Keeps b (runs c w) = (is_of_block c.undo ≡ true) ⊎ ((m : World) × (c.undo ≡ of_macro m) × Alike b m)
Keeps b (recurs n items w) = Alike b w

no_fault : (b : World) (chain : List ErrorKind) (w : World) → Keeps b (refused chain w)
no_fault b chain w = tt

printed_keeps : (b : World) (asked : Asked) → Keeps b asked → Keeps b (as_printed asked)
printed_keeps b (has v w) h = answered_asks (Keeps b) (no_fault b) (text_answer (records_of w) v) w (λ t world1. has (text t false) world1) (λ t. h)
printed_keeps b (refused chain w) h = tt
printed_keeps b (runs c w) h = h
printed_keeps b (recurs n items w) h = h

truth_keeps : (b : World) (asked : Asked) → Keeps b asked → Keeps b (as_truth asked)
truth_keeps b (has v w) h = h
truth_keeps b (refused chain w) h = tt
truth_keeps b (runs c w) h = h
truth_keeps b (recurs n items w) h = h

deeper_keeps : (b w : World) (asked : Asked) → Alike b w → Keeps b (from_deeper w asked)
deeper_keeps b w (has v x) h = h
deeper_keeps b w (refused chain x) h = tt
deeper_keeps b w (runs c x) h = inl refl
deeper_keeps b w (recurs n items x) h = tt

-- what makes further calls keeps so too
abbrev Makes : World → MakesFurther → Type 0
Makes b make = (c : Call) (w : World) → Alike b w → Keeps b (make c w)

replied_keeps : (b : World) (make : MakesFurther) → Makes b make → (reply : Reply) (w : World) → Alike b w → Keeps b (replied make reply w)
replied_keeps b make k (gives v) w h = h
replied_keeps b make k (faults chain) w h = tt
replied_keeps b make k (asks_for c) w h = k c w h

object_keeps : (b : World) (make : MakesFurther) → Makes b make → (host : HostValue) (f : Object) (args : List Val) (w : World) → Alike b w →
    Keeps b (object_call make host f args w)
object_keeps b make k host f args w h =
    let stated = f args (view_of host w) in
    replied_keeps b make k stated.reply (record w { temps = put_each stated.temps w.temps }) h

found_keeps : (b : World) (make : MakesFurther) → Makes b make → (host : HostValue) (found : Option Object) (kind : ErrorKind) (args : List Val)
    (w : World) → Alike b w → Keeps b (found_call make host found kind args w)
found_keeps b make k host found kind args w h =
    need_asks (Keeps b) (no_fault b) found kind w (λ f world1. object_call make host f args world1) (λ f. object_keeps b make k host f args w h)

given_keeps : (b : World) (g : GlobalFunction) (args : List Val) (w : World) → Alike b w → Keeps b (ask (given_by g args w) has)
given_keeps b own.Range args w h = answered_asks (Keeps b) (no_fault b) (range_of args) w has (λ v. h)
given_keeps b own.Dict args w h =
    bound_asks (Keeps b) (no_fault b) (dict_of (records_of w) args) w (λ ps world1. Good (map (pairs_of ps)) world1) has (λ ps. h)
given_keeps b own.Namespace args w h =
    bound_asks (Keeps b) (no_fault b) (namespace_of (records_of w) args) w (λ ps world1. make_namespace ps world1) has (λ ps. h)

function_keeps : (b : World) (make : MakesFurther) → Makes b make → (host : HostValue) (f : Function) (args : List Val) (w : World) → Alike b w →
    Keeps b (function_call make host f args w)
function_keeps b make k host (callers f) args w h = object_keeps b make k host f args w h
function_keeps b make k host (languages g) args w h = given_keeps b g args w h

value_keeps : (b : World) (make : MakesFurther) → Makes b make → (n : ℕ) (host : HostValue) (v : Val) (args : List Val) (w : World) → Alike b w →
    Keeps b (value_call make n host v args w)
value_keeps b make k n host (function i) args w h =
    need_asks (Keeps b) (no_fault b) (slice_get host.functions i) InvalidOperation w (λ f world1. function_call make host f args world1)
    (λ f. function_keeps b make k host f args w h)
value_keeps b make k n host (macro m) args w h = entered_asks (Keeps b) (no_fault b) n host m args w (λ s given outer. inr (w, refl, h))
value_keeps b make k n host v args w h = tt

named_keeps : (b : World) (make : MakesFurther) → Makes b make → (n : ℕ) (host : HostValue) (x : List ℕ) (args : List Val) (w : World) →
    Alike b w → Keeps b (named_call make n host x args w)
named_keeps b make k n host x args w h =
    answered_asks (Keeps b) (no_fault b) (find_name (view_of host w) x) w
    (λ found world1. ask (need found UnknownFunction world1) (λ f world2. value_call make n host f args world2)) (λ found.
    need_asks (Keeps b) (no_fault b) found UnknownFunction w (λ f world2. value_call make n host f args world2)
    (λ f. value_keeps b make k n host f args w h))

further_keeps : (b : World) (left n : ℕ) (host : HostValue) → Makes b (further_calls left n host)
further_keeps b zero n host c w h = tt
further_keeps b (suc left) n host (further.Filter x args) w h =
    found_keeps b (further_calls left (suc n) host) (further_keeps b left (suc n) host) host (find x host.filters) UnknownFilter args w h
further_keeps b (suc left) n host (further.Macro x args) w h =
    printed_keeps b (named_call (further_calls left (suc n) host) (suc n) host x args w)
    (named_keeps b (further_calls left (suc n) host) (further_keeps b left (suc n) host) (suc n) host x args w h)
further_keeps b (suc left) n host (further.Block x) w h = deeper_keeps b w (enter_block host x (deeper (suc n) w)) h

filter_asks : (host : HostValue) (x : List ℕ) (args : List Val) (w : World) → Keeps w (apply_filter host x args w)
filter_asks host x args w =
    found_keeps w (by_depths host w) (further_keeps w (depths_left host w) 0 host) host (find x host.filters) UnknownFilter args w refl

test_asks : (host : HostValue) (x : List ℕ) (args : List Val) (w : World) → Keeps w (perform_test host x args w)
test_asks host x args w =
    truth_keeps w (found_call (by_depths host w) host (find x host.tests) UnknownTest args w)
    (found_keeps w (by_depths host w) (further_keeps w (depths_left host w) 0 host) host (find x host.tests) UnknownTest args w refl)

-- ---------------------------------------------------------------- and so does the call
of_saved : (s : Saved) (b w : World) → undo_of s b ≡ of_macro w → IsSaved s b → s ≡ saved.Macro (saved_scopes w)
of_saved (saved.Block s) b w undo kept = absurd (cc undo)
of_saved (saved.Super s) b w undo kept = absurd (cc undo)
of_saved (saved.Macro s) b w undo kept = let same : b ≡ w = cc undo in ap saved.Macro (kept ∙ ap saved_scopes same)
of_saved (saved.Include s) b w undo kept = absurd (cc undo)

run_keeps : (b left : World) (e : NestedRun) (m : World) → IsSaved e.saved m → Keeps b (runs (call_of e m) left) →
    runs_a_block (runs (call_of e m) left) ≡ false → e.saved ≡ saved.Macro (saved_scopes b)
run_keeps b left e m is (inl block) none = absurd (cc (sym block ∙ none))
run_keeps b left e m is (inr (w, undo, alike)) none = of_saved e.saved m w undo is ∙ ap saved.Macro alike

lists_alike : (b w : World) → Alike b w → SameLists b w
lists_alike b w h = (ap (λ (s : SavedMacro). s.lists.blocks) h, ap (λ (s : SavedMacro). s.lists.loaded) h)

call_keeps : (called : CallResult) (b left : World) (asked : Asked) → Keeps b asked → runs_a_block asked ≡ false → Becomes (Ok called) asked left →
    KeepsLists called b left
call_keeps (outcome.Value v) b left asked keeps none becomes = lists_alike b left (subst (Keeps b) becomes keeps)
call_keeps (outcome.Recursion r) b left asked keeps none becomes = lists_alike b left (subst (Keeps b) becomes keeps)
call_keeps (outcome.Run e) b left asked keeps none becomes =
    let is : asked ≡ runs (call_of e.value becomes.3.0) left = becomes.3.2 in
    run_keeps b left e.value becomes.3.0 becomes.3.1 (subst (Keeps b) is keeps) (subst (λ q. runs_a_block q ≡ false) is none)

-- a filter's, a test's and that of what a name stands for
pub filter_keeps : (called : CallResult) (w left : World) (host : HostValue) (x : List ℕ) (args : List Val) →
    runs_a_block (apply_filter host x args w) ≡ false → Becomes (Ok called) (apply_filter host x args w) left → KeepsLists called w left
filter_keeps called w left host x args none becomes = call_keeps called w left (apply_filter host x args w) (filter_asks host x args w) none becomes

pub test_keeps : (called : CallResult) (w left : World) (host : HostValue) (x : List ℕ) (args : List Val) →
    runs_a_block (perform_test host x args w) ≡ false → Becomes (Ok called) (perform_test host x args w) left → KeepsLists called w left
test_keeps called w left host x args none becomes = call_keeps called w left (perform_test host x args w) (test_asks host x args w) none becomes

pub name_keeps : (called : CallResult) (w left : World) (host : HostValue) (x : List ℕ) (args : List Val) →
    let asked = named_call (by_depths host w) 0 host x args w in
    runs_a_block asked ≡ false → Becomes (Ok called) asked left → KeepsLists called w left
name_keeps called w left host x args none becomes =
    call_keeps called w left (named_call (by_depths host w) 0 host x args w)
    (named_keeps w (by_depths host w) (further_keeps w (depths_left host w) 0 host) 0 host x args w refl) none becomes

-- A macro's call runs no block.
pub macro_runs_none : (make : MakesFurther) (host : HostValue) (x : List ℕ) (m : MacroData) (args : List Val) (w : World) →
    find_name (view_of host w) x ≡ Ok (Some (macro m)) → runs_a_block (named_call make 0 host x args w) ≡ false
macro_runs_none make host x m args w found =
    rw found (entered_asks (λ q. runs_a_block q ≡ false) (λ chain x. refl) 0 host m args w (λ s given outer. refl))
