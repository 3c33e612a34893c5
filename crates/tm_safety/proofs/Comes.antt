-- What calls come to leaves scopes, stream and records as they are, or is a run that gives them back, or enters a loop that has a record.
use Rattle.std.proofs.Common.{◌≡◌, ℕ, zero, suc, ◌+◌, List, [], ◌∷◌, Option, Some, None, Bool, true, false, length, refl, sym, ap, ◌∙◌, arith}
use Rattle.std.specs.Prelude.{◌-◌, ◌&&◌, ◌||◌, slice_get, drop, not, nat_eq, nat_lt, is_some, codes, if◌then◌else◌, Ok, Err}
use Rattle.std.proofs.lemmas.Slice.Eq.{bytes_eq-Decides}
use Rattle.tm_values.specs.Answer.{Answer}
use Rattle.tm_values.specs.Val.{MacroData, Val, undefined, function, macro, loop, text, text_in}
use Rattle.tm_values.specs.declared.error.ErrorKind.{ErrorKind}
use Rattle.tm_values.specs.declared.error.ErrorKind.TheVariants.{InvalidOperation, UnknownBlock, UnknownFilter, UnknownTest}
use Rattle.tm_values.specs.declared.error.ErrorKind.TheVariants.{UnknownFunction, UnknownMethod, TooManyArguments, TemplateNotFound}
use Rattle.tm_trees.specs.Trees.{Application}
use Rattle.tm_trees.specs.Trees.applications
use Rattle.tm_definitions.specs.Maps.{dict_of, namespace_of}
use Rattle.tm_definitions.specs.Ranges.{range_of}
use Rattle.tm_definitions.specs.Emitted.{text_answer}
use Rattle.tm_meaning.specs.World.{choose, view_of, find, same_name, same_template, same_block, block_of, World, HostValue, Scope, Loop, innermost, number_of}
use Rattle.tm_meaning.specs.World.{items_over, Res, Good, Bad}
use Rattle.tm_meaning.specs.World.{need, check, answered, depth, lookup, Function, callers, languages, records_of}
use Rattle.tm_meaning.specs.World.{plain_scope, Object, View, same_stream, owning, own_closure, name_of, template_at, root_of}
use Rattle.tm_meaning.specs.declared.stream.TemplateId.{TemplateId}
use Rattle.tm_meaning.specs.declared.stream.TemplateId.TheVariants.{Own as own, Entry as entry}
use Rattle.tm_meaning.specs.declared.reply.Reply.{Reply}
use Rattle.tm_meaning.specs.declared.reply.Reply.TheVariants.{Value as gives, Fault as faults, Further as asks_for}
use Rattle.tm_meaning.specs.declared.reply.Call.{Call}
use Rattle.tm_meaning.specs.declared.reply.Call.TheVariants as further
use Rattle.tm_meaning.specs.Calls.{Callee, whole, macro_of, NestedCall, Undo, of_block, of_super, of_macro, of_include}
use Rattle.tm_meaning.specs.Calls.{block_call, undone, Asked, has, refused, runs, recurs, ask, wrapped_as, outermost, keeping_at, keeping, is_changed}
use Rattle.tm_meaning.specs.Calls.{call_loop, call_innermost, one_argument, call_found, enter_block, call_named, call_value, call_method}
use Rattle.tm_meaning.specs.Calls.{method_object, unknown_method, call_callee, call_in, call_first, apply_filter, perform_test}
use Rattle.tm_meaning.specs.Calls.{as_truth, applied, MakesFurther, object_call, found_call, further_call, further_calls}
use Rattle.tm_meaning.specs.Calls.{depths_left, by_depths, function_call, value_call, as_printed, deeper, from_deeper}
use Rattle.tm_meaning.specs.Calls.{enter_macro, bound_to, known_stream, macro_depth}
use Rattle.tm_meaning.specs.Calls.{loop_method, method_in, of_loop, record_at, given_by, replied, required_alone}
use Rattle.tm_meaning.specs.Calls.{super_call, enter_super, no_values, call_super, call_looked_up, choices_in, first_found}
use Rattle.tm_meaning.specs.Calls.{include_cost, include_frames, include_call, in_template, include_found, enter_include}
use Rattle.tm_meaning.specs.Inheritance.{place_in}
use Rattle.tm_meaning.specs.declared.function.GlobalFunction.{GlobalFunction}
use Rattle.tm_meaning.specs.declared.function.GlobalFunction.TheVariants as functions
use Rattle.tm_meaning.specs.declared.stream.StreamId.{StreamId}
use Rattle.tm_safety.specs.Fits.{marks_of, ids_of}

-- ---------------------------------------------------------------- worlds
-- scopes, stream and records are as they were, but for names and items
pub record Calm (old new : World) : Type 0 where
  pub stream : new.stream ≡ old.stream
  pub marks : marks_of new.scopes.frames ≡ marks_of old.scopes.frames
  pub ids : ids_of new.loops ≡ ids_of old.loops

pub calm_same : (w : World) → Calm w w
calm_same w = record { stream = refl; marks = refl; ids = refl }

pub calm_then : {a b c : World} → Calm a b → Calm b c → Calm a c
calm_then h k = record { stream = k.stream ∙ h.stream; marks = k.marks ∙ h.marks; ids = k.ids ∙ h.ids }

abbrev pub callee_stream : Callee → StreamId
callee_stream k = Rattle.tm_safety.specs.Runs.stream_of k

-- A run starts in this world, and what is put back after it are scopes and stream.
pub record Starts (w : World) (c : NestedCall) (w1 : World) : Type 0 where
  pub ids : ids_of w1.loops ≡ ids_of w.loops
  pub stream : w1.stream ≡ callee_stream c.callee
  pub marks : (w2 : World) → marks_of w2.scopes.frames ≡ marks_of w1.scopes.frames →
      marks_of (undone c.undo w2).scopes.frames ≡ marks_of w.scopes.frames
  pub back : (w2 : World) → (undone c.undo w2).stream ≡ w.stream

abbrev pub Comes : World → Asked → Type 0
Comes w (has v w1) = Calm w w1
Comes w (refused chain w1) = ids_of w1.loops ≡ ids_of w.loops
Comes w (recurs n items w1) = Calm w w1 × (k : ℕ) × (slice_get (ids_of w.loops) k ≡ Some (w.stream, n))
Comes w (runs c w1) = Starts w c w1

comes_then : (w w1 : World) (q : Asked) → Calm w w1 → Comes w1 q → Comes w q
comes_then w w1 (has v w2) h k = calm_then h k
comes_then w w1 (refused chain w2) h k = k ∙ h.ids
comes_then w w1 (recurs n items w2) h (calm, k, at) =
    (calm_then h calm, k, ap (λ ids. slice_get ids k) (sym h.ids) ∙ at ∙ ap (λ s. Some (s, n)) h.stream)
comes_then w w1 (runs c w2) h k = record {
  ids = k.ids ∙ h.ids;
  stream = k.stream;
  marks = λ w3 e. k.marks w3 e ∙ h.marks;
  back = λ w3. k.back w3 ∙ h.stream;
}

-- ---------------------------------------------------------------- results
need_comes : {A : Type 0} (Is : Asked → Type 0) (w : World) (found : Option A) (kind : ErrorKind) (g : A → World → Asked) →
    Is (refused (kind ∷ []) w) → ((a : A) → Is (g a w)) → Is (ask (need found kind w) g)
need_comes Is w (Some a) kind g h k = k a
need_comes Is w None kind g h k = h

check_comes : (Is : Asked → Type 0) (w : World) (b : Bool) (kind : ErrorKind) (g : Unit {0} → World → Asked) →
    Is (refused (kind ∷ []) w) → (b ≡ true → Is (g tt w)) → Is (ask (check b kind w) g)
check_comes Is w true kind g h k = k refl
check_comes Is w false kind g h k = h

answer_comes : {A : Type 0} (Is : Asked → Type 0) (w : World) (a : Answer A) (g : A → World → Asked) →
    ((chain : List ErrorKind) → Is (refused chain w)) → ((x : A) → Is (g x w)) → Is (ask (answered a w) g)
answer_comes Is w (Ok x) g h k = k x
answer_comes Is w (Err chain) g h k = h chain

push_comes : (Is : Asked → Type 0) (w v : World) (room : Bool) (g : Unit {0} → World → Asked) →
    Is (refused (InvalidOperation ∷ []) w) → Is (g tt v) →
    Is (ask (choose room (λ _. Good tt v) (λ _. Bad (InvalidOperation ∷ []) w)) g)
push_comes Is w v true g h k = k
push_comes Is w v false g h k = h

-- ---------------------------------------------------------------- scopes that are put back
marks_long : (ss : List Scope) → length (marks_of ss) ≡ length ss
marks_long [] = refl
marks_long (s ∷ ss) = ap suc (marks_long ss)

outer_marks : (x : Option ℕ) (frames b : List Scope) → marks_of frames ≡ x ∷ marks_of b → marks_of (outermost (length b) frames) ≡ marks_of b
outer_marks x [] b e = absurd (cc e)
outer_marks x (f ∷ fs) b e =
    let m : marks_of fs ≡ marks_of b = cc e in
    let n : length (f ∷ fs) - length b ≡ 1 = omega (arith, ap length m, marks_long fs, marks_long b) in
    ap (λ n. marks_of (drop n (f ∷ fs))) n ∙ m

same_marks : (frames b : List Scope) → marks_of frames ≡ marks_of b → marks_of (outermost (length b) frames) ≡ marks_of b
same_marks frames b e =
    let n : length frames - length b ≡ 0 = omega (arith, ap length e, marks_long frames, marks_long b) in
    ap (λ n. marks_of (drop n frames)) n ∙ e

pub owning_marks : (closure : Option ℕ) (frames : List Scope) → marks_of (owning closure frames) ≡ marks_of frames
owning_marks closure [] = refl
owning_marks closure (s ∷ ss) = refl

-- ---------------------------------------------------------------- blocks, includes and macros
block_comes_by : (Is : Asked → Type 0) (host : HostValue) (b : List ℕ) (w : World) → ((kind : ErrorKind) → Is (refused (kind ∷ []) w)) →
    ((s : StreamId) → Is (runs (block_call s w) (record w {
      scopes = record w.scopes { frames = plain_scope (undefined false) ∷ w.scopes.frames };
      stream = s;
      block = Some b;
    }))) →
    Is (enter_block host b w)
block_comes_by Is host b w bad fine =
    need_comes Is w (find b w.blocks) UnknownBlock _ (bad UnknownBlock) (λ l.
    need_comes Is w (slice_get l (place_in b w.places)) UnknownBlock _ (bad UnknownBlock) (λ t.
    check_comes Is w (not (required_alone host (block_of t b) l)) InvalidOperation _ (bad InvalidOperation) (λ _.
    push_comes Is w _ (nat_lt (depth w.scopes) host.limit) _ (bad InvalidOperation) (fine (block_of t b)))))

pub block_comes : (host : HostValue) (b : List ℕ) (w : World) → Comes w (enter_block host b w)
block_comes host b w =
    block_comes_by (Comes w) host b w (λ kind. refl)
    (λ s. record { ids = refl; stream = refl; marks = λ w2 e. outer_marks None w2.scopes.frames w.scopes.frames e; back = λ w2. refl })

pub super_comes : (host : HostValue) (w : World) → Comes w (enter_super host w)
super_comes host w =
    need_comes (Comes w) w w.block InvalidOperation _ refl (λ x.
    need_comes (Comes w) w (find x w.blocks) InvalidOperation _ refl (λ l.
    need_comes (Comes w) w (slice_get l (place_in x w.places + 1)) InvalidOperation _ refl (λ t.
    push_comes (Comes w) w _ (nat_lt (depth w.scopes) host.limit) _ refl
    (record { ids = refl; stream = refl; marks = λ w2 e. outer_marks None w2.scopes.frames w.scopes.frames e; back = λ w2. refl }))))

included_marks : (apart : Bool) (frames b : List Scope) → marks_of frames ≡ marks_of (include_frames apart b) →
    marks_of (outermost (length b) frames) ≡ marks_of b
included_marks true frames b e = outer_marks None frames b e
included_marks false frames b e = same_marks frames b (e ∙ owning_marks None b)

include_starts : (host : HostValue) (apart : Bool) (t : TemplateId) (w : World) → Starts w (include_call t w) (in_template host apart t w)
include_starts host apart t w = record {
  ids = refl;
  stream = refl;
  marks = λ w2 e. owning_marks (own_closure w.scopes.frames) (outermost (length w.scopes.frames) w2.scopes.frames)
      ∙ included_marks apart w2.scopes.frames w.scopes.frames e;
  back = λ w2. refl;
}

-- the same of results, one after the other
need_does : {A B : Type 0} (Is : Res B → Type 0) (w : World) (found : Option A) (kind : ErrorKind) (g : A → World → Res B) →
    Is (Bad (kind ∷ []) w) → ((a : A) → Is (g a w)) → Is (Rattle.tm_meaning.specs.World.bind (need found kind w) g)
need_does Is w (Some a) kind g h k = k a
need_does Is w None kind g h k = h

answer_does : {A B : Type 0} (Is : Res B → Type 0) (w : World) (a : Answer A) (g : A → World → Res B) →
    ((chain : List ErrorKind) → Is (Bad chain w)) → ((x : A) → Is (g x w)) → Is (Rattle.tm_meaning.specs.World.bind (answered a w) g)
answer_does Is w (Ok x) g h k = k x
answer_does Is w (Err chain) g h k = h chain

module _ (host : HostValue) (w : World) where
  there_comes : (b : Bool) (t : TemplateId) (m : Res (Option TemplateId)) (g : Option TemplateId → World → Asked) →
      ((found : Option TemplateId) → Comes w (g found w)) → Comes w (ask m g) →
      Comes w (ask (choose b (λ _. Good (Some t) w) (λ _. m)) g)
  there_comes true t m g k h = k (Some t)
  there_comes false t m g k h = h

  first_comes : (vs : List Val) (g : Option TemplateId → World → Asked) → ((found : Option TemplateId) → Comes w (g found w)) →
      Comes w (ask (first_found host vs w) g)
  first_comes [] g k = k None
  first_comes (v ∷ vs) g k =
      need_does (λ m. Comes w (ask m g)) w (text_in v) InvalidOperation _ refl (λ name.
      answer_does (λ m. Comes w (ask m g)) w (host.join name (name_of host w)) _ (λ chain. refl) (λ x.
      there_comes (is_some (find x host.templates)) (entry x) _ g k (first_comes vs g k)))

  found_comes : (apart missing : Bool) (found : Option TemplateId) → Comes w (include_found host apart missing found w)
  found_comes apart missing (Some t) =
      check_comes (Comes w) w (not (nat_lt host.limit (include_cost apart + depth w.scopes))) InvalidOperation _ refl
      (λ _. include_starts host apart t w)
  found_comes apart missing None = check_comes (Comes w) w missing TemplateNotFound _ refl (λ _. calm_same w)

  pub include_comes : (apart : Bool) (v : Val) (missing : Bool) → Comes w (enter_include host apart v missing w)
  include_comes apart v missing =
      answer_comes (Comes w) w (choices_in (records_of w) v) _ (λ chain. refl) (λ vs.
      first_comes vs _ (λ found. found_comes apart (missing || no_values vs) found))

macro_comes : (levels : ℕ) (host : HostValue) (m : MacroData) (args : List Val) (w : World) → Comes w (enter_macro levels host m args w)
macro_comes levels host m args w =
    check_comes (Comes w) w (nat_eq m.state w.id) InvalidOperation _ refl (λ _.
    need_comes (Comes w) w (bound_to m args) TooManyArguments _ refl (λ given.
    need_comes (Comes w) w (known_stream m w) InvalidOperation _ refl (λ s.
    check_comes (Comes w) w (nat_lt (levels + depth w.scopes + macro_depth + 1) host.limit) InvalidOperation _ refl
    (λ _. record { ids = refl; stream = refl; marks = λ w2 e. refl; back = λ w2. refl }))))

-- ---------------------------------------------------------------- functions
given_comes : (host : HostValue) (g : GlobalFunction) (args : List Val) (w : World) → Comes w (ask (given_by g args w) has)
given_comes host functions.Range args w = answer_comes (Comes w) w (range_of args) has (λ chain. refl) (λ v. calm_same w)
given_comes host functions.Dict args w =
    answer_does (λ m. Comes w (ask m has)) w (dict_of (records_of w) args) _ (λ chain. refl) (λ ps. calm_same w)
given_comes host functions.Namespace args w =
    answer_does (λ m. Comes w (ask m has)) w (namespace_of (records_of w) args) _ (λ chain. refl)
    (λ ps. record { stream = refl; marks = refl; ids = refl })

abbrev MakesComes : MakesFurther → Type 0
MakesComes make = (c : Call) (w : World) → Comes w (make c w)

replied_comes : (make : MakesFurther) → MakesComes make → (w : World) (reply : Reply) → Comes w (replied make reply w)
replied_comes make k w (gives v) = calm_same w
replied_comes make k w (faults chain) = refl
replied_comes make k w (asks_for c) = k c w

object_comes : (host : HostValue) (make : MakesFurther) → MakesComes make → (f : Object) (args : List Val) (w : World) →
    Comes w (object_call make host f args w)
object_comes host make k f args w =
    let stated = f args (view_of host w) in
    let w1 = record w { temps = Rattle.tm_syntax.specs.Named.put_each stated.temps w.temps } in
    comes_then w w1 (replied make stated.reply w1) (record { stream = refl; marks = refl; ids = refl }) (replied_comes make k w1 stated.reply)

named_object_comes : (host : HostValue) (make : MakesFurther) → MakesComes make → (found : Option Object) (kind : ErrorKind)
    (args : List Val) (w : World) → Comes w (found_call make host found kind args w)
named_object_comes host make k found kind args w =
    need_comes (Comes w) w found kind _ refl (λ f. object_comes host make k f args w)

function_comes : (make : MakesFurther) (host : HostValue) → MakesComes make → (f : Function) (args : List Val) (w : World) →
    Comes w (function_call make host f args w)
function_comes make host k (callers f) args w = object_comes host make k f args w
function_comes make host k (languages g) args w = given_comes host g args w

value_call_comes : (make : MakesFurther) (levels : ℕ) (host : HostValue) → MakesComes make → (v : Val) (args : List Val) (w : World) →
    Comes w (value_call make levels host v args w)
value_call_comes make levels host k (macro m) args w = macro_comes levels host m args w
value_call_comes make levels host k (function n) args w =
    need_comes (Comes w) w (slice_get host.functions n) InvalidOperation _ refl (λ f. function_comes make host k f args w)
value_call_comes make levels host k _ args w = refl

printed_by : (w w1 : World) (a : Answer (List ℕ)) → Calm w w1 → Comes w (ask (answered a w1) (λ t w2. has (text t false) w2))
printed_by w w1 (Ok t) h = h
printed_by w w1 (Err chain) h = h.ids

printed_comes : (w : World) (q : Asked) → Comes w q → Comes w (as_printed q)
printed_comes w (has v w1) h = printed_by w w1 (text_answer (records_of w1) v) h
printed_comes w (refused chain w1) h = h
printed_comes w (runs c w1) h = record { ids = h.ids; stream = h.stream; marks = h.marks; back = h.back }
printed_comes w (recurs n items w1) h = h

deeper_block_comes : (n : ℕ) (host : HostValue) (b : List ℕ) (w : World) → Comes w (from_deeper w (enter_block host b (deeper n w)))
deeper_block_comes n host b w =
    block_comes_by (λ q. Comes w (from_deeper w q)) host b (deeper n w) (λ kind. refl)
    (λ s. record { ids = refl; stream = refl; marks = λ w2 e. outer_marks None w2.scopes.frames w.scopes.frames e; back = λ w2. refl })

named_call_comes : (make : MakesFurther) (n : ℕ) (host : HostValue) → MakesComes make → (x : List ℕ) (args : List Val) (w : World) →
    Comes w (Rattle.tm_meaning.specs.Calls.named_call make n host x args w)
named_call_comes make n host k x args w =
    answer_comes (Comes w) w (Rattle.tm_meaning.specs.World.find_name (view_of host w) x) _ (λ chain. refl) (λ found.
    need_comes (Comes w) w found UnknownFunction _ refl (λ f. value_call_comes make n host k f args w))

further_comes : (left n : ℕ) (host : HostValue) → MakesComes (further_calls left n host)
further_comes zero n host c w = refl
further_comes (suc left) n host (further.Filter x args) w =
    named_object_comes host _ (further_comes left (suc n) host) (find x host.filters) UnknownFilter args w
further_comes (suc left) n host (further.Macro x args) w =
    printed_comes w _ (named_call_comes (further_calls left (suc n) host) (suc n) host (further_comes left (suc n) host) x args w)
further_comes (suc left) n host (further.Block b) w = deeper_block_comes (suc n) host b w

depths_come : (host : HostValue) (w : World) → MakesComes (by_depths host w)
depths_come host w = further_comes (depths_left host w) 0 host

-- what the value of a name is asked for, as a function
pub function_named_comes : (host : HostValue) (x : List ℕ) (args : List Val) (w : World) →
    Comes w (Rattle.tm_meaning.specs.Calls.named_call (by_depths host w) 0 host x args w)
function_named_comes host x args w = named_call_comes (by_depths host w) 0 host (depths_come host w) x args w

value_comes : (host : HostValue) (v : Val) (args : List Val) (w : World) → Comes w (call_value host v args w)
value_comes host v args w = value_call_comes (by_depths host w) 0 host (depths_come host w) v args w

pub callee_comes : (host : HostValue) (vs : List Val) (w : World) → Comes w (call_callee host vs w)
callee_comes host [] w = refl
callee_comes host (v ∷ args) w = value_comes host v args w

-- ---------------------------------------------------------------- methods
if_comes : (w : World) (b : Bool) (p q : Asked) → Comes w p → Comes w q → Comes w (if b then p else q)
if_comes w true p q h k = h
if_comes w false p q h k = k

of_loop_comes : (w : World) (found : Option Loop) (f : Loop → Asked) → ((l : Loop) → found ≡ Some l → Comes w (f l)) → Comes w (of_loop found w f)
of_loop_comes w None f k = refl
of_loop_comes w (Some l) f k = k l refl

unknown_comes : (host : HostValue) (x : List ℕ) (v : Val) (args : List Val) (w : World) → Comes w (unknown_method host x v args w)
unknown_comes host x v args w =
    named_object_comes host (by_depths host w) (depths_come host w) (method_object host.unknown_method v x) UnknownMethod args w

kept_stream : (b : Bool) (args : List Val) (l : Loop) → (if b then record l { kept = Some args } else l).stream ≡ l.stream
kept_stream true args l = refl
kept_stream false args l = refl

kept_number : (b : Bool) (args : List Val) (l : Loop) → (if b then record l { kept = Some args } else l).number ≡ l.number
kept_number true args l = refl
kept_number false args l = refl

keeping_ids : (n : ℕ) (args : List Val) (ls : List Loop) → ids_of (keeping_at n args ls) ≡ ids_of ls
keeping_ids n args [] = refl
keeping_ids zero args (l ∷ ls) =
    ap (λ s. (s, (keeping args l).number) ∷ ids_of ls) (kept_stream (is_changed l.kept args) args l)
    ∙ ap (λ n. (l.stream, n) ∷ ids_of ls) (kept_number (is_changed l.kept args) args l)
keeping_ids (suc n) args (l ∷ ls) = ap (λ ids. (l.stream, l.number) ∷ ids) (keeping_ids n args ls)

loop_comes : (host : HostValue) (x : List ℕ) (state n : ℕ) (args : List Val) (w : World) → Comes w (loop_method host x state n args w)
loop_comes host x state n args w =
    if_comes w (same_name x (codes "changed")) _ _ (of_loop_comes w (record_at w state n) _ (λ l _.
    record { stream = refl; marks = refl; ids = keeping_ids n args w.loops }))
    (if_comes w (same_name x (codes "cycle")) _ _ (of_loop_comes w (record_at w state n) _ (λ l _. calm_same w))
    (unknown_comes host x (loop state n) args w))

in_comes : (host : HostValue) (x : List ℕ) (v : Val) (args : List Val) (found : Option Val) (w : World) → Comes w (call_in host x v args found w)
in_comes host x v args None w = unknown_comes host x v args w
in_comes host x v args (Some f) w = value_comes host f args w

method_found : (host : HostValue) (x : List ℕ) (v : Val) (args : List Val) (w : World) →
    Comes w (ask (answered (method_in (records_of w) x v) w) (λ found w1. call_in host x v args found w1))
method_found host x v args w =
    answer_comes (Comes w) w (method_in (records_of w) x v) _ (λ chain. refl) (λ found. in_comes host x v args found w)

method_comes : (host : HostValue) (x : List ℕ) (v : Val) (args : List Val) (w : World) → Comes w (call_method host x v args w)
method_comes host x (loop state n) args w = loop_comes host x state n args w
method_comes host x v args w = method_found host x v args w

first_value_comes : (host : HostValue) (x : List ℕ) (vs : List Val) (w : World) → Comes w (call_first host x vs w)
first_value_comes host x [] w = refl
first_value_comes host x (v ∷ args) w = method_comes host x v args w

truth_comes : (w : World) (q : Asked) → Comes w q → Comes w (as_truth q)
truth_comes w (has v w1) h = h
truth_comes w (refused chain w1) h = h
truth_comes w (runs c w1) h = record { ids = h.ids; stream = h.stream; marks = h.marks; back = h.back }
truth_comes w (recurs n items w1) h = h

pub test_comes : (host : HostValue) (x : List ℕ) (args : List Val) (w : World) → Comes w (perform_test host x args w)
test_comes host x args w =
    truth_comes w _ (named_object_comes host (by_depths host w) (depths_come host w) (find x host.tests) UnknownTest args w)

pub filter_comes : (host : HostValue) (x : List ℕ) (args : List Val) (w : World) →
    Comes w (apply_filter host x args w)
filter_comes host x args w =
    named_object_comes host (by_depths host w) (depths_come host w) (find x host.filters) UnknownFilter args w

pub applied_comes : (host : HostValue) (k : Application) (x : List ℕ) (vs : List Val) (w : World) → Comes w (applied host k x vs w)
applied_comes host applications.Method x vs w = first_value_comes host x vs w
applied_comes host applications.Filter x vs w = filter_comes host x vs w
applied_comes host applications.Test x vs w = test_comes host x vs w
applied_comes host applications.NegatedTest x vs w = test_comes host x vs w

-- ---------------------------------------------------------------- loops that are called
both_true : (a b : Bool) → (a && b) ≡ true → (a ≡ true) × (b ≡ true)
both_true true true e = (refl, refl)
both_true true false e = absurd (cc e)
both_true false b e = absurd (cc e)

template_is : (s t : TemplateId) → same_template s t ≡ true → s ≡ t
template_is own own e = refl
template_is own (entry y) e = absurd (cc e)
template_is (entry x) own e = absurd (cc e)
template_is (entry x) (entry y) e = ap entry ((bytes_eq-Decides x y).0 e)

block_is : (b c : Option (List ℕ)) → same_block b c ≡ true → b ≡ c
block_is None None e = refl
block_is None (Some y) e = absurd (cc e)
block_is (Some x) None e = absurd (cc e)
block_is (Some x) (Some y) e = ap (λ z. Some z) ((bytes_eq-Decides x y).0 e)

stream_is : (s t : StreamId) → same_stream s t ≡ true → s ≡ t
stream_is s t e =
    let h = both_true (same_template s.template t.template) (same_block s.block t.block) e in
    let a = template_is s.template t.template h.0 in
    let b = block_is s.block t.block h.1 in
    ap (λ x. record { template = x; block = s.block }) a ∙ ap (λ x. record { template = t.template; block = x }) b

id_at : (ls : List Loop) (k : ℕ) (l : Loop) → slice_get ls k ≡ Some l → slice_get (ids_of ls) k ≡ Some (l.stream, l.number)
id_at [] k l e = absurd (cc e)
id_at (x ∷ ls) zero l e = let is : x ≡ l = cc e in ap (λ (l : Loop). Some (l.stream, l.number)) is
id_at (x ∷ ls) (suc k) l e = id_at ls k l e

items_come : (host : HostValue) (w : World) (a : Answer (List Val)) (n k : ℕ) → slice_get (ids_of w.loops) k ≡ Some (w.stream, n) →
    Comes w (ask (wrapped_as InvalidOperation (answered a w)) (λ items w2. recurs n items w2))
items_come host w (Ok items) n k at = (calm_same w, k, at)
items_come host w (Err chain) n k at = refl

loop_call_comes : (host : HostValue) (k : ℕ) (l : Loop) (v : Val) (w : World) → slice_get w.loops k ≡ Some l → Comes w (call_loop host l v w)
loop_call_comes host k l v w at =
    check_comes (Comes w) w (l.recursive && same_stream l.stream w.stream) InvalidOperation _ refl (λ e.
    let s = stream_is l.stream w.stream (both_true l.recursive (same_stream l.stream w.stream) e).1 in
    items_come host w (Rattle.tm_definitions.specs.Iteration.iterated host.undefined (records_of w) v) l.number k
    (id_at w.loops k l at ∙ ap (λ s. Some (s, l.number)) s))

pub innermost_comes : (host : HostValue) (v : Val) (w : World) → Comes w (call_innermost host v w)
innermost_comes host v w =
    need_comes (Comes w) w (innermost w.scopes.frames) UnknownFunction _ refl (λ n.
    of_loop_comes w (slice_get w.loops n) _ (λ l e. loop_call_comes host n l v w e))

record_there : (w : World) (b : Bool) (n : ℕ) (l : Loop) → (if b then slice_get w.loops n else None) ≡ Some l → slice_get w.loops n ≡ Some l
record_there w true n l e = e
record_there w false n l e = absurd (cc e)

one_comes : (w : World) (args : List Val) (g : Val → World → Asked) → ((v : Val) → Comes w (g v w)) → Comes w (ask (one_argument args w) g)
one_comes w [] g k = refl
one_comes w (v ∷ []) g k = k v
one_comes w (v ∷ u ∷ vs) g k = refl

found_call_comes : (host : HostValue) (v : Val) (args : List Val) (w : World) → Comes w (call_found host v args w)
found_call_comes host (loop state n) args w =
    of_loop_comes w (record_at w state n) _ (λ l e.
    one_comes w args _ (λ v. loop_call_comes host n l v w (record_there w (nat_eq w.id state) n l e)))
found_call_comes host v args w = value_comes host v args w

looked_up_comes : (host : HostValue) (x : List ℕ) (args : List Val) (w : World) → Comes w (call_looked_up host x args w)
looked_up_comes host x args w =
    answer_comes (Comes w) w (Rattle.tm_meaning.specs.World.find_name (view_of host w) x) _ (λ chain. refl) (λ found.
    need_comes (Comes w) w found UnknownFunction _ refl (λ f. found_call_comes host f args w))

choose_comes : (w : World) (b : Bool) (p q : Asked) → Comes w p → Comes w q → Comes w (choose b (λ _. p) (λ _. q))
choose_comes w true p q h k = h
choose_comes w false p q h k = k

pub named_comes : (host : HostValue) (x : List ℕ) (args : List Val) (w : World) → Comes w (call_named host x args w)
named_comes host x args w =
    choose_comes w (same_name x (codes "super")) (call_super host args w) (call_looked_up host x args w)
    (check_comes (Comes w) w (no_values args) InvalidOperation _ refl (λ _. super_comes host w)) (looked_up_comes host x args w)
