-- What calls come to keeps the world, or is a run that starts deeper.
use Rattle.tm_values.specs.declared.escape.AutoEscape.{AutoEscape}
use Rattle.std.proofs.Common.{◌≡◌, ℕ, zero, suc, ◌+◌, List, [], ◌∷◌, Option, Some, None, Bool, true, false, nat_lt, ◌++◌, refl}
use Rattle.std.proofs.Common.{arith}
use Rattle.std.proofs.Common.{ltb-true, length, length-append, ◌≤◌}
use Rattle.std.specs.Prelude.{slice_get, not, nat_eq, is_some, ◌&&◌, ◌||◌, codes, if◌then◌else◌, Ok, Err}
use Rattle.std.proofs.lemmas.Bool.{ltb-false}
use Rattle.tm_values.specs.Answer.{Answer}
use Rattle.tm_values.specs.Val.{MacroData, Val, undefined, function, macro, loop, text, text_in}
use Rattle.tm_values.specs.declared.error.ErrorKind.{ErrorKind}
use Rattle.tm_values.specs.declared.error.ErrorKind.TheVariants.{InvalidOperation, UnknownBlock, UnknownFilter, UnknownTest}
use Rattle.tm_values.specs.declared.error.ErrorKind.TheVariants.{UnknownFunction, UnknownMethod, TooManyArguments, TemplateNotFound}
use Rattle.tm_trees.specs.Trees.{Application}
use Rattle.tm_trees.specs.Trees.applications
use Rattle.tm_definitions.specs.Maps.{dict_of, namespace_of}
use Rattle.tm_definitions.specs.Emitted.{text_answer}
use Rattle.tm_meaning.specs.World.{choose, unpacked_items, emitted, escape_for, view_of, find, same_name, block_of, World, HostValue, Scope, Loop}
use Rattle.tm_meaning.specs.World.{innermost}
use Rattle.tm_meaning.specs.World.{items_over, Res, Good, Bad}
use Rattle.tm_meaning.specs.World.{need, check, answered, depth, lookup, Function, callers, languages, records_of}
use Rattle.tm_meaning.specs.World.{plain_scope, Object, View, same_stream, owning, name_of, template_at, root_of}
use Rattle.tm_meaning.specs.declared.stream.TemplateId.{TemplateId}
use Rattle.tm_meaning.specs.declared.stream.TemplateId.TheVariants.{Entry as entry}
use Rattle.tm_meaning.specs.declared.reply.Reply.{Reply}
use Rattle.tm_meaning.specs.declared.reply.Reply.TheVariants.{Value as gives, Fault as faults, Further as asks_for}
use Rattle.tm_meaning.specs.declared.reply.Call.{Call}
use Rattle.tm_meaning.specs.declared.reply.Call.TheVariants as further
use Rattle.tm_meaning.specs.Calls.{block_call, undone, Asked, has, refused, runs, recurs, ask, wrapped_as}
use Rattle.tm_meaning.specs.Calls.{call_loop, call_innermost, one_argument, call_found, enter_block, call_named, call_value, call_method}
use Rattle.tm_meaning.specs.Calls.{method_object, unknown_method, call_callee, call_in, call_first, apply_filter, perform_test}
use Rattle.tm_meaning.specs.Calls.{as_truth, applied, MakesFurther, object_call, found_call, further_call, further_calls}
use Rattle.tm_meaning.specs.Calls.{depths_left, by_depths, function_call, value_call, as_printed, deeper, from_deeper}
use Rattle.tm_meaning.specs.Calls.{named_call, enter_macro, bound_to, known_stream, macro_depth, macro_scopes}
use Rattle.tm_meaning.specs.Calls.{loop_method, method_in, of_loop, record_at, given_by, replied, required_alone}
use Rattle.tm_meaning.specs.Calls.{super_call, enter_super, no_values, call_super, call_looked_up, own_blocks, choices_in, first_found}
use Rattle.tm_meaning.specs.Calls.{include_cost, include_depth, include_call, in_template, include_found, enter_include}
use Rattle.tm_meaning.specs.Inheritance.{place_in}
use Rattle.tm_meaning.specs.declared.function.GlobalFunction.{GlobalFunction}
use Rattle.tm_meaning.specs.declared.function.GlobalFunction.TheVariants as own
use Rattle.tm_meaning.specs.declared.stream.StreamId.{StreamId}
use Rattle.tm_syntax.specs.Named.{put, put_each}
use Rattle.tm_simulation.specs.Chains.{is_raised, Arises, raised, wrapped as wraps, by_object, by_join, AnswersOnly, IsObject, is_function}
use Rattle.tm_simulation.specs.Chains.{is_filter, is_test}
use Rattle.tm_simulation.specs.Chains.{is_method}
use Rattle.tm_simulation.proofs.Raised.{unpacked_raises, escape_raises, emitted_arises, iterated_raises, range_raises, dict_raises}
use Rattle.tm_simulation.proofs.Raised.{namespace_raises, name_raises, method_raises, text_raises, choices_raise, raised_arise}
use Rattle.tm_simulation.proofs.Loads.{need_does, answer_does, not_true}
use Rattle.tm_simulation.specs.Kept.{Differs, in_closure_too}
use Rattle.tm_simulation.proofs.Advances.{AdvancesBut, Advances, KeptBut, advances_then, lasts_by_namespaces, lasts_by_temps, advances_same}
use Rattle.tm_simulation.proofs.Advances.{kept_same, kept_then, kept_lasting, kept_depth, kept_advances, within, one_more}
use Rattle.tm_simulation.proofs.RunAdvances.{undone_kept, in_stream}
use Rattle.tm_simulation.proofs.RunAdvances.{put_each_long, keeping_kept, undone_at, super_undone_kept, macro_undone_kept, include_undone_kept}
use Rattle.tm_simulation.proofs.Gives.{answered_gives, GivesBut, refused_arises, gives_bind, operation_gives}

-- A value keeps the world; a run starts at least one level deeper, within the limit, and however it ends what is put back after it keeps the world.
abbrev pub AsksBut : Differs → HostValue → World → Asked → Type 0
AsksBut i host w (has v world1) = KeptBut i w world1
AsksBut i host w (refused chain world1) = AdvancesBut i host w world1 × Arises host chain
AsksBut i host w (recurs n items world1) = KeptBut i w world1
AsksBut i host w (runs c world1) =
    (depth w.scopes + 1 ≤ depth world1.scopes) × (depth world1.scopes ≤ host.limit) ×
    ((world2 : World) → Advances host (in_stream world2.stream world1) world2 → KeptBut i w (undone c.undo world2))

abbrev pub Asks : HostValue → World → Asked → Type 0
Asks host w q = AsksBut in_closure_too host w q

asks_then : {i : Differs} (host : HostValue) (w world1 : World) (q : Asked) → KeptBut i w world1 → AsksBut i host world1 q →
    AsksBut i host w q
asks_then host w world1 (has v world2) h k = kept_then h k
asks_then host w world1 (refused chain world2) h k = (advances_then (kept_advances h) k.0, k.1)
asks_then host w world1 (recurs n items world2) h k = kept_then h k
asks_then host w world1 (runs c world2) h k = (omega (arith, k.0, kept_depth h), k.1, λ world3 l. kept_then h (k.2 world3 l))

asks_refused : {i : Differs} (host : HostValue) (w : World) (kind : ErrorKind) → is_raised kind ≡ true →
    AsksBut i host w (refused (kind ∷ []) w)
asks_refused host w kind e = refused_arises host w kind e

ask_then : (i : Differs) {A : Type 0} (host : HostValue) (w : World) (m : Res A) (g : A → World → Asked) → GivesBut i host w m →
    ((a : A) (world1 : World) → AsksBut i host world1 (g a world1)) → AsksBut i host w (ask m g)
ask_then i host w (Good a world1) g h k = asks_then host w world1 (g a world1) h (k a world1)
ask_then i host w (Bad chain world1) g h k = h

-- where something is there, the world is as it was
need_asks : {A : Type 0} (Holds : Asked → Type 0) (w : World) (found : Option A) (kind : ErrorKind) (g : A → World → Asked) →
    Holds (refused (kind ∷ []) w) → ((a : A) → found ≡ Some a → Holds (g a w)) → Holds (ask (need found kind w) g)
need_asks Holds w (Some a) kind g h k = k a refl
need_asks Holds w None kind g h k = h

ask_need : (i : Differs) {A : Type 0} (host : HostValue) (w : World) (found : Option A) (kind : ErrorKind) (g : A → World → Asked) →
    is_raised kind ≡ true →
    ((a : A) → found ≡ Some a → AsksBut i host w (g a w)) → AsksBut i host w (ask (need found kind w) g)
ask_need i host w found kind g e k = need_asks (AsksBut i host w) w found kind g (asks_refused host w kind e) k

check_asks : (Holds : Asked → Type 0) (w : World) (b : Bool) (kind : ErrorKind) (g : Unit {0} → World → Asked) →
    Holds (refused (kind ∷ []) w) → Holds (g tt w) → Holds (ask (check b kind w) g)
check_asks Holds w true kind g h k = k
check_asks Holds w false kind g h k = h

room_asks : (Holds : Asked → Type 0) (w : World) (b : Bool) (kind : ErrorKind) (g : Unit {0} → World → Asked) →
    Holds (refused (kind ∷ []) w) → (b ≡ true → Holds (g tt w)) → Holds (ask (check b kind w) g)
room_asks Holds w true kind g h k = k refl
room_asks Holds w false kind g h k = h

push_asks : (Holds : Asked → Type 0) (w : World) (s : Scope) (room : Bool) (g : Unit {0} → World → Asked) →
    Holds (refused (InvalidOperation ∷ []) w) → (room ≡ true → Holds (g tt (within s w))) → Holds (ask (one_more room s w) g)
push_asks Holds w s true g h k = k refl
push_asks Holds w s false g h k = h

-- ---------------------------------------------------------------- blocks
-- a world in which a block was entered
abbrev pub in_block : StreamId → List ℕ → World → World
in_block stream b w = record (within (plain_scope (undefined false)) w) { stream = stream; block = Some b }

-- A block's tag is refused, or asks for a run of its own.
pub block_asks_by : (Holds : Asked → Type 0) (host : HostValue) (b : List ℕ) (w : World) →
    ((kind : ErrorKind) → is_raised kind ≡ true → Holds (refused (kind ∷ []) w)) →
    ((stream : StreamId) → nat_lt (depth w.scopes) host.limit ≡ true →
    Holds (runs (block_call stream w) (in_block stream b w))) →
    Holds (enter_block host b w)
block_asks_by Holds host b w refuses enters =
    need_asks Holds w (find b w.blocks) UnknownBlock _ (refuses UnknownBlock refl) (λ l _.
    need_asks Holds w (slice_get l (place_in b w.places)) UnknownBlock _ (refuses UnknownBlock refl) (λ t _.
    check_asks Holds w (not (required_alone host (block_of t b) l)) InvalidOperation _ (refuses InvalidOperation refl)
    (push_asks Holds w (plain_scope (undefined false)) (nat_lt (depth w.scopes) host.limit) _ (refuses InvalidOperation refl)
    (λ room. enters (block_of t b) room))))

pub block_asks : (i : Differs) (host : HostValue) (b : List ℕ) (w : World) → AsksBut i host w (enter_block host b w)
block_asks i host b w =
    block_asks_by (AsksBut i host w) host b w (λ kind e. asks_refused host w kind e) (λ stream room. (
      omega arith,
      omega (arith, ltb-true (depth w.scopes) host.limit room),
      λ world2 l. undone_kept (plain_scope (undefined false)) stream (Some b) w world2 l,
    ))

-- a world in which the block after one of a name was entered
abbrev pub in_super : StreamId → List ℕ → World → World
in_super stream x w =
    record (within (plain_scope (undefined false)) w) { stream = stream; places = put x (place_in x w.places + 1) w.places }

-- So does `super()`.
pub super_asks_by : (Holds : Asked → Type 0) (host : HostValue) (w : World) →
    ((kind : ErrorKind) → is_raised kind ≡ true → Holds (refused (kind ∷ []) w)) →
    ((stream : StreamId) (x : List ℕ) → nat_lt (depth w.scopes) host.limit ≡ true →
    Holds (runs (super_call stream w) (in_super stream x w))) →
    Holds (enter_super host w)
super_asks_by Holds host w refuses enters =
    need_asks Holds w w.block InvalidOperation _ (refuses InvalidOperation refl) (λ x _.
    need_asks Holds w (find x w.blocks) InvalidOperation _ (refuses InvalidOperation refl) (λ l _.
    need_asks Holds w (slice_get l (place_in x w.places + 1)) InvalidOperation _ (refuses InvalidOperation refl) (λ t _.
    push_asks Holds w (plain_scope (undefined false)) (nat_lt (depth w.scopes) host.limit) _ (refuses InvalidOperation refl)
    (λ room. enters (block_of t x) x room))))

pub super_asks : (i : Differs) (host : HostValue) (w : World) → AsksBut i host w (enter_super host w)
super_asks i host w =
    super_asks_by (AsksBut i host w) host w (λ kind e. asks_refused host w kind e) (λ stream x room. (
      omega arith,
      omega (arith, ltb-true (depth w.scopes) host.limit room),
      λ world2 h. super_undone_kept (plain_scope (undefined false)) stream (put x (place_in x w.places + 1) w.places) w world2 h,
    ))

-- ---------------------------------------------------------------- includes
-- A template is looked up for each choice in turn: of that nothing is changed.
module _ (Holds : Asked → Type 0) (host : HostValue) (w : World)
    (refuses : (chain : List ErrorKind) → Arises host chain → Holds (refused chain w)) where
  there_asks : (b : Bool) (t : TemplateId) (m : Res (Option TemplateId)) (g : Option TemplateId → World → Asked) →
      ((found : Option TemplateId) → Holds (g found w)) → Holds (ask m g) → Holds (ask (choose b (λ _. Good (Some t) w) (λ _. m)) g)
  there_asks true t m g finds h = finds (Some t)
  there_asks false t m g finds h = h

  first_found_asks : (vs : List Val) (g : Option TemplateId → World → Asked) → ((found : Option TemplateId) → Holds (g found w)) →
      Holds (ask (first_found host vs w) g)
  first_found_asks [] g finds = finds None
  first_found_asks (v ∷ vs) g finds =
      need_does (λ m. Holds (ask m g)) w (text_in v) InvalidOperation _ (refuses (InvalidOperation ∷ []) (raised refl)) (λ name _.
      answer_does (λ m. Holds (ask m g)) w (host.join name (name_of host w)) _
      (λ chain e. refuses chain (by_join name (name_of host w) e)) (λ x.
      there_asks (is_some (find x host.templates)) (entry x) _ g finds (first_found_asks vs g finds)))

  answer_asks : {A : Type 0} (answer : Answer A) (g : A → World → Asked) → AnswersOnly (Arises host) answer →
      ((a : A) → Holds (g a w)) → Holds (ask (answered answer w) g)
  answer_asks (Ok a) g h k = k a
  answer_asks (Err chain) g h k = refuses chain h

  -- An include is refused, or nothing happens, or it asks for a run of its own.
  module _ (skips : Holds (has (undefined false) w)) (apart : Bool) (enters : (t : TemplateId) →
      include_cost apart + depth w.scopes ≤ host.limit → Holds (runs (include_call t w) (in_template host apart t w))) where
    include_found_asks : (missing : Bool) (found : Option TemplateId) → Holds (include_found host apart missing found w)
    include_found_asks missing (Some t) =
        let deep = include_cost apart + depth w.scopes in
        room_asks Holds w (not (nat_lt host.limit deep)) InvalidOperation _ (refuses (InvalidOperation ∷ []) (raised refl))
        (λ room. enters t (ltb-false host.limit deep (not_true (nat_lt host.limit deep) room)))
    include_found_asks missing None =
        check_asks Holds w missing TemplateNotFound _ (refuses (TemplateNotFound ∷ []) (raised refl)) skips

    pub include_asks_by : (v : Val) (missing : Bool) → Holds (enter_include host apart v missing w)
    include_asks_by v missing =
        answer_asks (choices_in (records_of w) v) _ (raised_arise host _ (choices_raise (records_of w) v)) (λ vs.
        first_found_asks vs _ (λ found. include_found_asks (missing || no_values vs) found))

owning_long : (closure : Option ℕ) (frames : List Scope) → length (owning closure frames) ≡ length frames
owning_long closure [] = refl
owning_long closure (s ∷ ss) = refl

-- how deep the scopes lie in which a template runs
include_deep : (apart : Bool) (host : HostValue) (t : TemplateId) (w : World) →
    depth (in_template host apart t w).scopes ≡ include_cost apart + depth w.scopes
include_deep true host t w = omega arith
include_deep false host t w = omega (arith, owning_long None w.scopes.frames)

cost_positive : (apart : Bool) → 1 ≤ include_cost apart
cost_positive true = omega arith
cost_positive false = omega arith

pub include_asks : (i : Differs) (host : HostValue) (apart : Bool) (v : Val) (missing : Bool) (w : World) →
    AsksBut i host w (enter_include host apart v missing w)
include_asks i host apart v missing w =
    include_asks_by (AsksBut i host w) host w (λ chain h. (advances_same w, h)) (kept_same w) apart (λ t room. (
      omega (arith, include_deep apart host t w, cost_positive apart),
      omega (arith, room, include_deep apart host t w),
      λ world2 l. include_undone_kept apart (include_depth + w.scopes.outer) (root_of t) (template_at host t).escape
          (own_blocks t (template_at host t).blocks) w world2 l,
    )) v missing

-- ---------------------------------------------------------------- functions
given_gives : (i : Differs) (host : HostValue) (g : GlobalFunction) (args : List Val) (w : World) → GivesBut i host w (given_by g args w)
given_gives i host own.Range args w = operation_gives _ host _ w (range_raises args)
given_gives i host own.Dict args w =
    gives_bind _ host w (answered (dict_of (records_of w) args) w) _ (operation_gives _ host _ w (dict_raises (records_of w) args))
    (λ ps world1. kept_same world1)
given_gives i host own.Namespace args w =
    gives_bind _ host w (answered (namespace_of (records_of w) args) w) _
    (operation_gives _ host _ w (namespace_raises (records_of w) args))
    (λ ps world1.
    kept_lasting (lasts_by_namespaces world1 (world1.namespaces ++ ps ∷ []) (omega (arith, length-append world1.namespaces (ps ∷ []))))
    refl refl refl refl)

-- What makes further calls keeps the world, as what it calls does.
abbrev MakesAsks : Differs → HostValue → MakesFurther → Type 0
MakesAsks i host make = (c : Call) (w : World) → AsksBut i host w (make c w)

replied_asks : (i : Differs) (host : HostValue) (make : MakesFurther) → MakesAsks i host make →
    (f : Object) (args : List Val) (view : View) (w : World)
    (reply : Reply) → IsObject host f → (f args view).reply ≡ reply → AsksBut i host w (replied make reply w)
replied_asks i host make k f args view w (gives v) e s = kept_same w
replied_asks i host make k f args view w (faults chain) e s = (advances_same w, by_object f args view e s)
replied_asks i host make k f args view w (asks_for c) e s = k c w

-- values to keep are kept first
object_asks : (i : Differs) (host : HostValue) (make : MakesFurther) → MakesAsks i host make → (f : Object) (args : List Val) (w : World) →
    IsObject host f → AsksBut i host w (object_call make host f args w)
object_asks i host make k f args w e =
    let stated = f args (view_of host w) in
    let temps = put_each stated.temps w.temps in
    asks_then host w (record w { temps = temps }) (replied make stated.reply (record w { temps = temps }))
    (kept_lasting (lasts_by_temps w temps (put_each_long stated.temps w.temps)) refl refl refl refl)
    (replied_asks _ host make k f args (view_of host w) _ stated.reply e refl)

named_object_asks : (i : Differs) (host : HostValue) (make : MakesFurther) → MakesAsks i host make →
    (found : Option Object) (kind : ErrorKind)
    (args : List Val) (w : World) → is_raised kind ≡ true → ((f : Object) → found ≡ Some f → IsObject host f) →
    AsksBut i host w (found_call make host found kind args w)
named_object_asks i host make k found kind args w e there =
    ask_need _ host w found kind (λ f world1. object_call make host f args world1) e
    (λ f is. object_asks _ host make k f args w (there f is))

pub lookup_gives : (i : Differs) (host : HostValue) (x : List ℕ) (w : World) → GivesBut i host w (lookup host x w)
lookup_gives i host x w = operation_gives _ host _ w (name_raises (view_of host w) x)

function_asks : (i : Differs) (make : MakesFurther) (host : HostValue) → MakesAsks i host make →
    (n : ℕ) (f : Function) (args : List Val) (w : World) →
    slice_get host.functions n ≡ Some f → AsksBut i host w (function_call make host f args w)
function_asks i make host k n (callers f) args w e = object_asks _ host make k f args w (is_function n e)
function_asks i make host k n (languages g) args w e =
    ask_then _ host w (given_by g args w) has (given_gives _ host g args w) (λ v world1. kept_same world1)

-- A macro is refused, or asks for a run of its own.
macro_asks : (i : Differs) (levels : ℕ) (host : HostValue) (m : MacroData) (args : List Val) (w : World) →
    AsksBut i host w (enter_macro levels host m args w)
macro_asks i levels host m args w =
    let outer = levels + depth w.scopes + macro_depth in
    check_asks (AsksBut i host w) w (nat_eq m.state w.id) InvalidOperation _ (asks_refused host w InvalidOperation refl)
    (ask_need _ host w (bound_to m args) TooManyArguments _ refl (λ given _.
    ask_need _ host w (known_stream m w) InvalidOperation _ refl (λ s _.
    room_asks (AsksBut i host w) w (nat_lt (outer + 1) host.limit) InvalidOperation _ (asks_refused host w InvalidOperation refl) (λ room. (
      omega arith,
      omega (arith, ltb-true (outer + 1) host.limit room),
      λ world2 l. macro_undone_kept (macro_scopes m args w.scopes.frames outer) s w world2 l,
    )))))

value_call_asks : (i : Differs) (make : MakesFurther) (levels : ℕ) (host : HostValue) → MakesAsks i host make →
    (v : Val) (args : List Val) (w : World) →
    AsksBut i host w (value_call make levels host v args w)
value_call_asks i make levels host k (macro m) args w = macro_asks _ levels host m args w
value_call_asks i make levels host k (function n) args w =
    ask_need _ host w (slice_get host.functions n) InvalidOperation (λ f world1. function_call make host f args world1) refl
    (λ f e. function_asks _ make host k n f args w e)
value_call_asks i make levels host k _ args w = asks_refused host w InvalidOperation refl

printed_asks : (i : Differs) (host : HostValue) (w : World) (q : Asked) → AsksBut i host w q → AsksBut i host w (as_printed q)
printed_asks i host w (has v world1) h =
    asks_then host w world1 _ h
    (ask_then _ host world1 (answered (text_answer (records_of world1) v) world1) (λ t world2. has (text t false) world2)
    (operation_gives _ host _ world1 (text_raises (records_of world1) v)) (λ t world2. kept_same world2))
printed_asks i host w (refused chain world1) h = h
printed_asks i host w (runs c world1) h = h
printed_asks i host w (recurs n items world1) h = h

-- a block that is entered deeper
deeper_block_asks : (i : Differs) (n : ℕ) (host : HostValue) (b : List ℕ) (w : World) →
    AsksBut i host w (from_deeper w (enter_block host b (deeper n w)))
deeper_block_asks i n host b w =
    block_asks_by (λ q. AsksBut i host w (from_deeper w q)) host b (deeper n w) (λ kind e. asks_refused host w kind e) (λ stream room. (
      omega arith,
      omega (arith, ltb-true (depth (deeper n w).scopes) host.limit room),
      λ world2 l. undone_at (n + w.scopes.outer) (plain_scope (undefined false)) stream (Some b) w world2 l,
    ))

further_call_asks : (i : Differs) (make : MakesFurther) (n : ℕ) (host : HostValue) → MakesAsks i host make →
    MakesAsks i host (further_call make n host)
further_call_asks i make n host k (further.Filter x args) w =
    named_object_asks _ host make k (find x host.filters) UnknownFilter args w refl (λ f e. is_filter x e)
further_call_asks i make n host k (further.Macro x args) w =
    printed_asks _ host w _ (ask_then _ host w (lookup host x w) _ (lookup_gives _ host x w) (λ found world1.
    ask_need _ host world1 found UnknownFunction (λ f world2. value_call make n host f args world2) refl
    (λ f e. value_call_asks _ make n host k f args world1)))
further_call_asks i make n host k (further.Block b) w = deeper_block_asks _ n host b w

further_asks : (i : Differs) (left n : ℕ) (host : HostValue) → MakesAsks i host (further_calls left n host)
further_asks i zero n host c w = asks_refused host w InvalidOperation refl
further_asks i (suc left) n host c w =
    further_call_asks _ (further_calls left (suc n) host) (suc n) host (further_asks _ left (suc n) host) c w

depths_ask : (i : Differs) (host : HostValue) (w : World) → MakesAsks i host (by_depths host w)
depths_ask i host w = further_asks _ (depths_left host w) 0 host

value_asks : (i : Differs) (host : HostValue) (v : Val) (args : List Val) (w : World) → AsksBut i host w (call_value host v args w)
value_asks i host v args w = value_call_asks _ (by_depths host w) 0 host (depths_ask _ host w) v args w

pub callee_asks : (i : Differs) (host : HostValue) (vs : List Val) (w : World) → AsksBut i host w (call_callee host vs w)
callee_asks i host [] w = asks_refused host w InvalidOperation refl
callee_asks i host (v ∷ args) w = value_asks _ host v args w

-- the value of a name, called as a function
pub by_name_asks : (i : Differs) (host : HostValue) (x : List ℕ) (args : List Val) (w : World) →
    AsksBut i host w (named_call (by_depths host w) 0 host x args w)
by_name_asks i host x args w =
    ask_then _ host w (lookup host x w) _ (lookup_gives _ host x w) (λ found world1.
    ask_need _ host world1 found UnknownFunction (λ f world2. value_call (by_depths host w) 0 host f args world2) refl
    (λ f e. value_call_asks _ (by_depths host w) 0 host (depths_ask _ host w) f args world1))

-- ---------------------------------------------------------------- methods
if_asks : (i : Differs) (host : HostValue) (w : World) (b : Bool) (p q : Asked) → AsksBut i host w p → AsksBut i host w q →
    AsksBut i host w (if b then p else q)
if_asks i host w true p q h k = h
if_asks i host w false p q h k = k

of_loop_asks : (i : Differs) (host : HostValue) (w : World) (found : Option Loop) (f : Loop → Asked) →
    ((l : Loop) → AsksBut i host w (f l)) → AsksBut i host w (of_loop found w f)
of_loop_asks i host w None f k = asks_refused host w InvalidOperation refl
of_loop_asks i host w (Some l) f k = k l

unknown_asks : (i : Differs) (host : HostValue) (x : List ℕ) (v : Val) (args : List Val) (w : World) →
    AsksBut i host w (unknown_method host x v args w)
unknown_asks i host x v args w =
    named_object_asks _ host (by_depths host w) (depths_ask _ host w) (method_object host.unknown_method v x) UnknownMethod args w refl
    (λ f e. is_method v x e)

loop_asks : (i : Differs) (host : HostValue) (x : List ℕ) (state n : ℕ) (args : List Val) (w : World) →
    AsksBut i host w (loop_method host x state n args w)
loop_asks i host x state n args w =
    if_asks _ host w (same_name x (codes "changed")) _ _ (of_loop_asks _ host w (record_at w state n) _ (λ l. keeping_kept n args w))
    (if_asks _ host w (same_name x (codes "cycle")) _ _ (of_loop_asks _ host w (record_at w state n) _ (λ l. kept_same w))
    (unknown_asks _ host x (loop state n) args w))

in_asks : (i : Differs) (host : HostValue) (x : List ℕ) (v : Val) (args : List Val) (found : Option Val) (w : World) →
    AsksBut i host w (call_in host x v args found w)
in_asks i host x v args None w = unknown_asks _ host x v args w
in_asks i host x v args (Some f) w = value_asks _ host f args w

found_asks : (i : Differs) (host : HostValue) (x : List ℕ) (v : Val) (args : List Val) (w : World) →
    AsksBut i host w (ask (answered (method_in (records_of w) x v) w) (λ found world1. call_in host x v args found world1))
found_asks i host x v args w =
    ask_then _ host w (answered (method_in (records_of w) x v) w) _ (operation_gives _ host _ w (method_raises (records_of w) x v))
    (λ found world1. in_asks _ host x v args found world1)

method_asks : (i : Differs) (host : HostValue) (x : List ℕ) (v : Val) (args : List Val) (w : World) →
    AsksBut i host w (call_method host x v args w)
method_asks i host x (loop state n) args w = loop_asks _ host x state n args w
method_asks i host x v args w = found_asks _ host x v args w

-- ---------------------------------------------------------------- filters and tests
first_asks : (i : Differs) (host : HostValue) (x : List ℕ) (vs : List Val) (w : World) → AsksBut i host w (call_first host x vs w)
first_asks i host x [] w = asks_refused host w InvalidOperation refl
first_asks i host x (v ∷ args) w = method_asks _ host x v args w

filter_asks : (i : Differs) (host : HostValue) (x : List ℕ) (args : List Val) (w : World) → AsksBut i host w (apply_filter host x args w)
filter_asks i host x args w =
    named_object_asks _ host (by_depths host w) (depths_ask _ host w) (find x host.filters) UnknownFilter args w refl (λ f e. is_filter x e)

truth_asks : (i : Differs) (host : HostValue) (w : World) (q : Asked) → AsksBut i host w q → AsksBut i host w (as_truth q)
truth_asks i host w (has v world1) h = h
truth_asks i host w (refused chain world1) h = h
truth_asks i host w (runs c world1) h = h
truth_asks i host w (recurs n items world1) h = h

test_asks : (i : Differs) (host : HostValue) (x : List ℕ) (args : List Val) (w : World) → AsksBut i host w (perform_test host x args w)
test_asks i host x args w =
    truth_asks _ host w _ (named_object_asks _ host (by_depths host w) (depths_ask _ host w) (find x host.tests) UnknownTest args w refl
    (λ f e. is_test x e))

pub applied_asks : (i : Differs) (host : HostValue) (k : Application) (x : List ℕ) (vs : List Val) (w : World) →
    AsksBut i host w (applied host k x vs w)
applied_asks i host applications.Method x vs w = first_asks _ host x vs w
applied_asks i host applications.Filter x vs w = filter_asks _ host x vs w
applied_asks i host applications.Test x vs w = test_asks _ host x vs w
applied_asks i host applications.NegatedTest x vs w = test_asks _ host x vs w

-- ---------------------------------------------------------------- operations
pub items_give : (i : Differs) (host : HostValue) (v : Val) (w : World) → GivesBut i host w (items_over host v w)
items_give i host v w = operation_gives _ host _ w (iterated_raises host.undefined (records_of w) v)

pub unpacked_gives : (i : Differs) (host : HostValue) (n : ℕ) (v : Val) (w : World) → GivesBut i host w (unpacked_items n v w)
unpacked_gives i host n v w = operation_gives _ host _ w (unpacked_raises (records_of w) n v)

pub emitted_gives : (i : Differs) (host : HostValue) (v : Val) (w : World) → GivesBut i host w (emitted host v w)
emitted_gives i host v w = answered_gives _ host _ w (emitted_arises host v (view_of host w))

pub escape_gives : (i : Differs) (host : HostValue) (first : AutoEscape) (v : Val) (w : World) →
    GivesBut i host w (answered (escape_for first v) w)
escape_gives i host first v w = operation_gives _ host _ w (escape_raises first v)

-- ---------------------------------------------------------------- loops that are called
wrapped_gives : (i : Differs) {A : Type 0} (host : HostValue) (w : World) (m : Res A) → GivesBut i host w m →
    GivesBut i host w (wrapped_as InvalidOperation m)
wrapped_gives i host w (Good a world1) h = h
wrapped_gives i host w (Bad chain world1) h = (h.0, wraps refl h.1)

loop_call_asks : (i : Differs) (host : HostValue) (l : Loop) (v : Val) (w : World) → AsksBut i host w (call_loop host l v w)
loop_call_asks i host l v w =
    check_asks (AsksBut i host w) w (l.recursive && same_stream l.stream w.stream) InvalidOperation _
    (asks_refused host w InvalidOperation refl)
    (ask_then _ host w (wrapped_as InvalidOperation (items_over host v w)) _
    (wrapped_gives _ host w (items_over host v w) (items_give _ host v w))
    (λ items world1. kept_same world1))

pub innermost_asks : (i : Differs) (host : HostValue) (v : Val) (w : World) → AsksBut i host w (call_innermost host v w)
innermost_asks i host v w =
    ask_need _ host w (innermost w.scopes.frames) UnknownFunction _ refl (λ n _.
    of_loop_asks _ host w (slice_get w.loops n) _ (λ l. loop_call_asks _ host l v w))

one_argument_gives : (i : Differs) (host : HostValue) (args : List Val) (w : World) → GivesBut i host w (one_argument args w)
one_argument_gives i host [] w = refused_arises host w InvalidOperation refl
one_argument_gives i host (v ∷ []) w = kept_same w
one_argument_gives i host (v ∷ u ∷ vs) w = refused_arises host w InvalidOperation refl

found_call_asks : (i : Differs) (host : HostValue) (v : Val) (args : List Val) (w : World) → AsksBut i host w (call_found host v args w)
found_call_asks i host (loop state n) args w =
    of_loop_asks _ host w (record_at w state n) _ (λ l.
    ask_then _ host w (one_argument args w) _ (one_argument_gives _ host args w) (λ v world1. loop_call_asks _ host l v world1))
found_call_asks i host v args w = value_asks _ host v args w

looked_up_asks : (i : Differs) (host : HostValue) (x : List ℕ) (args : List Val) (w : World) →
    AsksBut i host w (call_looked_up host x args w)
looked_up_asks i host x args w =
    ask_then _ host w (lookup host x w) _ (lookup_gives _ host x w) (λ found world1.
    ask_need _ host world1 found UnknownFunction (λ f world2. call_found host f args world2) refl
    (λ f e. found_call_asks _ host f args world1))

super_call_asks : (i : Differs) (host : HostValue) (args : List Val) (w : World) → AsksBut i host w (call_super host args w)
super_call_asks i host args w =
    check_asks (AsksBut i host w) w (no_values args) InvalidOperation _ (asks_refused host w InvalidOperation refl) (super_asks _ host w)

choose_asks : (i : Differs) (host : HostValue) (w : World) (b : Bool) (p q : Asked) → AsksBut i host w p → AsksBut i host w q →
    AsksBut i host w (choose b (λ _. p) (λ _. q))
choose_asks i host w true p q h k = h
choose_asks i host w false p q h k = k

pub named_asks : (i : Differs) (host : HostValue) (x : List ℕ) (args : List Val) (w : World) → AsksBut i host w (call_named host x args w)
named_asks i host x args w =
    choose_asks _ host w (same_name x (codes "super")) (call_super host args w) (call_looked_up host x args w)
    (super_call_asks _ host args w) (looked_up_asks _ host x args w)
