-- The result of a call, up to the run that it needs. The meaning of trees and the machine share
-- these definitions, so neither trees nor instructions occur here.
use Rattle.std.specs.Prelude.{ℕ, zero, suc, ◌+◌, ◌-◌, ◌%◌, drop, List, [], ◌∷◌, length, map as each, Option, Some, None, Ok, Bool, true, false}
use Rattle.std.specs.Prelude.{not, nat_eq, nat_lt, is_none, is_some, ◌&&◌, ◌||◌, slice_get, codes, if◌then◌else◌}
use Rattle.tm_definitions.specs.Maps.{dict_of, namespace_of, keywords_of, plain_of}
use Rattle.tm_definitions.specs.Iteration.{items_or}
use Rattle.tm_definitions.specs.Ranges.{range_of}
use Rattle.tm_definitions.specs.Members.{macro_member, or_undefined}
use Rattle.tm_values.specs.Truth.{is_true}
use Rattle.tm_definitions.specs.Emitted.{text_answer}
use Rattle.tm_values.specs.Answer.{Answer}
use Rattle.tm_values.specs.Equality.{same_values}
use Rattle.tm_values.specs.Records.{RecordData}
use Rattle.tm_values.specs.Map.{find as find_key}
use Rattle.tm_values.specs.Val.{MacroData, Val, undefined, boolean, text, map, function, macro, loop, pairs_of, vals_of, text_in}
use Rattle.tm_values.specs.declared.error.ErrorKind.{ErrorKind}
use Rattle.tm_values.specs.declared.error.ErrorKind.TheVariants.{InvalidOperation, UnknownFilter, UnknownTest, UnknownFunction}
use Rattle.tm_values.specs.declared.error.ErrorKind.TheVariants.{UnknownMethod, UnknownBlock, TooManyArguments, TemplateNotFound}
use Rattle.tm_trees.specs.Trees.{Application}
use Rattle.tm_trees.specs.Trees.applications
use Rattle.tm_meaning.specs.declared.function.GlobalFunction.{GlobalFunction}
use Rattle.tm_meaning.specs.declared.wrapping.Wrapping.{Wrapping}
use Rattle.tm_meaning.specs.declared.wrapping.Wrapping.TheVariants.{EvalBlock, BadInclude}
use Rattle.tm_meaning.specs.declared.run_text.RunText.{RunText}
use Rattle.tm_meaning.specs.declared.run_text.RunText.TheVariants as texts
use Rattle.tm_meaning.specs.Memory.{kind_of_wrapping}
use Rattle.tm_meaning.specs.declared.function.GlobalFunction.TheVariants as own
use Rattle.tm_meaning.specs.World.{TemplateId, entry, StreamId, root_of, block_of, template_at, Named, Bindings, find, put, put_each}
use Rattle.tm_meaning.specs.World.{same_name, Card}
use Rattle.tm_meaning.specs.World.{choose, HostValue, Scope, Scopes, Loop, World, Object, Fallback, Function, callers, languages, Res, Good}
use Rattle.tm_meaning.specs.World.{Bad, bind, bad, answered, same_stream, depth, items_over, innermost, records_of, make_namespace, need, check, card_at, view_of, lookup}
use Rattle.tm_meaning.specs.World.{context_member, place_of, plain_scope, push, captured_text, owning, own_closure}
use Rattle.tm_meaning.specs.Inheritance.{place_in, joined}
use Rattle.tm_meaning.specs.declared.reply.Reply.{Reply}
use Rattle.tm_meaning.specs.declared.reply.Reply.TheVariants.{Value as gives, Fault as faults, Further as asks_for}
use Rattle.tm_meaning.specs.declared.reply.Call.{Call}
use Rattle.tm_meaning.specs.declared.reply.Call.TheVariants as further

-- What a nested run executes: a whole stream, or a macro of a stream, by its number, with these
-- arguments.
pub data Callee : Type 0 where
  whole : StreamId → Callee
  macro_of : StreamId → ℕ → List Val → Callee

-- What is restored after a run, with the world before it.
pub data Undo : Type 0 where
  of_block : World → Undo
  of_super : World → Undo
  of_macro : World → Undo
  of_include : World → Undo

-- A nested run, what is restored after it, the kind that wraps its fault, if any, and how its text
-- becomes a value.
pub record NestedCall : Type 0 where
  pub callee : Callee
  pub undo : Undo
  pub wrap : Option Wrapping
  pub text : RunText

-- The result of a call: a value; a fault; a nested run that is needed, and the world in which it
-- starts; or a call of the running stream's loop with this number, over these items.
pub data Asked : Type 0 where
  has : Val → World → Asked
  refused : List ErrorKind → World → Asked
  runs : NestedCall → World → Asked
  recurs : ℕ → List Val → World → Asked

abbrev pub ask : {A : Type 0} → Res A → (A → World → Asked) → Asked
ask (Good a w) f = f a w
ask (Bad chain w) f = refused chain w

-- ---------------------------------------------------------------- after a run
-- the n outermost scopes
abbrev pub outermost : ℕ → List Scope → List Scope
outermost n frames = drop (length frames - n) frames

-- a state cut to its n outermost scopes, at the given depth
abbrev pub cut_to : ℕ → ℕ → World → World
cut_to n outer w = record w { scopes = record { frames = outermost n w.scopes.frames; outer = outer } }

-- restores the scopes, stream, block and escape of the world b
abbrev pub block_undone : World → World → World
block_undone b w = record (cut_to (length b.scopes.frames) b.scopes.outer w) { stream = b.stream; block = b.block; escape = b.escape }

-- restores these scopes, and the stream, block, escape, lists of blocks, their places and the
-- loaded names of the world b
abbrev pub run_undone : World → Scopes → World → World
run_undone b scopes w = record w {
  scopes = scopes;
  stream = b.stream;
  block = b.block;
  escape = b.escape;
  blocks = b.blocks;
  places = b.places;
  loaded = b.loaded;
}

-- cuts to as many outermost scopes as before, at the depth of before, and restores the closure of
-- the innermost one
abbrev pub scopes_after : Scopes → Scopes → Scopes
scopes_after before scopes = record {
  frames = owning (own_closure before.frames) (outermost (length before.frames) scopes.frames);
  outer = before.outer;
}

-- However a run ends, the scopes opened since then are dropped, and the stream, block, escape and
-- outer depth are restored. After `super()` the places in lists of blocks are restored too. After a
-- macro, which has scopes of its own, and after an include, so are these lists, their places and
-- the loaded names. An imported template runs in the innermost scope: the closure of that scope is
-- restored, but the names bound in it stay. Records, kept values and fuel aren't restored.
abbrev pub undone : Undo → World → World
undone (of_block b) w = block_undone b w
undone (of_super b) w = record (block_undone b w) { places = b.places }
undone (of_macro b) w = run_undone b b.scopes w
undone (of_include b) w = run_undone b (scopes_after b.scopes w.scopes) w

-- the text of a run as a value
abbrev pub run_value : RunText → List ℕ → World → Val
run_value texts.Captured t w = captured_text t w
run_value texts.Plain t w = text t false
run_value texts.Truth t w = boolean (is_true (text t false))

abbrev pub wrapped : Option Wrapping → List ErrorKind → List ErrorKind
wrapped None chain = chain
wrapped (Some wrap) chain = kind_of_wrapping wrap ∷ chain

-- ---------------------------------------------------------------- blocks
abbrev pub is_required : Option Card → Bool
is_required None = false
is_required (Some c) = c.required

abbrev pub required_alone : HostValue → StreamId → List TemplateId → Bool
required_alone host s l = nat_eq (length l) 1 && is_required (card_at host s)

-- the run of a block, needed in the world w
abbrev pub block_call : StreamId → World → NestedCall
block_call s w = record { callee = whole s; undo = of_block w; wrap = None; text = texts.Captured }

-- runs the block at the current place of its list, in a new scope
abbrev pub enter_block : HostValue → List ℕ → World → Asked
enter_block host b w =
    ask (need (find b w.blocks) UnknownBlock w) (λ l world1.
    ask (need (slice_get l (place_in b world1.places)) UnknownBlock world1) (λ t world2.
    ask (check (not (required_alone host (block_of t b) l)) InvalidOperation world2) (λ _ world3.
    ask (push host (plain_scope (undefined false)) world3) (λ _ world4.
    runs (block_call (block_of t b) w)
    (record world4 { stream = block_of t b; block = Some b })))))

-- the run of the next block, needed in the world w; EvalBlock wraps its fault
abbrev pub super_call : StreamId → World → NestedCall
super_call s w = record { callee = whole s; undo = of_super w; wrap = Some EvalBlock; text = texts.Captured }

-- Runs the next block after the running one in a new scope, and advances the list by one place. It
-- is refused before the run if no block is running, if there is no next one, or if the scope would
-- be too deep.
abbrev pub enter_super : HostValue → World → Asked
enter_super host w =
    ask (need w.block InvalidOperation w) (λ x world1.
    ask (need (find x world1.blocks) InvalidOperation world1) (λ l world2.
    ask (need (slice_get l (place_in x world2.places + 1)) InvalidOperation world2) (λ t world3.
    ask (push host (plain_scope (undefined false)) world3) (λ _ world4.
    runs (super_call (block_of t x) w)
    (record world4 { stream = block_of t x; places = put x (place_in x world4.places + 1) world4.places })))))

-- each block of a template, in a list of its own
abbrev pub alone : TemplateId → List ℕ × Card → List ℕ × List TemplateId
alone t b = (b.0, t ∷ [])

abbrev pub own_blocks : TemplateId → Named Card → Named (List TemplateId)
own_blocks t bs = each (alone t) bs

-- ---------------------------------------------------------------- macros
abbrev pub is_argument : List ℕ → List (List ℕ) → Bool
is_argument x [] = false
is_argument x (y ∷ ys) = same_name x y || is_argument x ys

-- whether the macro gets `caller` without naming it as an argument
abbrev pub takes_caller : MacroData → Bool
takes_caller m = m.caller && not (is_argument (codes "caller") m.arguments)

-- whether the macro uses a keyword argument of this name; keys that aren't texts are ignored
abbrev pub is_used : MacroData → Option (List ℕ) → Bool
is_used m None = true
is_used m (Some x) = is_argument x m.arguments || (takes_caller m && same_name x (codes "caller"))

abbrev pub all_used : MacroData → List (Val × Val) → Bool
all_used m [] = true
all_used m (p ∷ ps) = is_used m (text_in p.0) && all_used m ps

abbrev pub after_first : Val → Option (List Val) → Option (List Val)
after_first v None = None
after_first v (Some vs) = Some (v ∷ vs)

-- The value of each argument: the positional one, or else the keyword one, or else undefined. None
-- if there are too many values, or an argument is passed twice.
abbrev pub bound : List (List ℕ) → List Val → List (Val × Val) → Option (List Val)
bound [] [] given = Some []
bound [] (v ∷ vs) given = None
bound (x ∷ xs) [] given = after_first (or_undefined (find_key (text x false) given)) (bound xs [] given)
bound (x ∷ xs) (v ∷ vs) given =
    choose (is_none (find_key (text x false) given)) (λ _. after_first v (bound xs vs given)) (λ _. None)

-- the arguments of a macro called with these values; a keyword map at the end holds the keyword
-- arguments
abbrev pub bound_to : MacroData → List Val → Option (List Val)
bound_to m args =
    choose (all_used m (keywords_of args)) (λ _. bound m.arguments (plain_of args) (keywords_of args)) (λ _. None)

-- the context value of the outermost scope
abbrev pub root_context : List Scope → Val
root_context [] = undefined false
root_context (s ∷ []) = s.context
root_context (s ∷ t ∷ ss) = root_context (t ∷ ss)

-- the locals of a macro's scope at the start
abbrev pub first_locals : MacroData → List Val → Bindings
first_locals m args =
    choose (takes_caller m) (λ _. put (codes "caller") (or_undefined (find_key (text (codes "caller") false) (keywords_of args))) []) (λ _. [])

-- the scopes of a macro call, at the given depth: one over the context value of the current root,
-- and one inside it that reads the macro's closure
abbrev pub macro_scopes : MacroData → List Val → List Scope → ℕ → Scopes
macro_scopes m args frames outer = record {
  frames = record (plain_scope (undefined false)) { locals = first_locals m args; reads = m.closure } ∷
      plain_scope (root_context frames) ∷ [];
  outer = outer;
}

abbrev pub is_closure : Option ℕ → World → Bool
is_closure None w = true
is_closure (Some n) w = nat_lt n (length w.closures)

-- The stream of a macro, if this state knows the stream and the macro's closure. Whether the stream
-- has such a macro is checked when it is entered.
abbrev pub known_stream : MacroData → World → Option StreamId
known_stream m w = choose (is_closure m.closure w) (λ _. slice_get w.streams m.stream) (λ _. None)

abbrev pub macro_call : StreamId → MacroData → List Val → World → NestedCall
macro_call s m given w =
    record { callee = macro_of s m.entry given; undo = of_macro w; wrap = None; text = texts.Captured }

-- how much deeper than the call the outer one of a macro's two scopes is
abbrev pub macro_depth : ℕ
macro_depth = 4

-- The run of a macro called n levels deeper than the scopes. It is refused, in this order, if the
-- macro belongs to another state, if the values don't fit its arguments, if this state doesn't know
-- it, or if its scopes would be deeper than the limit.
abbrev pub enter_macro : ℕ → HostValue → MacroData → List Val → World → Asked
enter_macro n host m args w =
    ask (check (nat_eq m.state w.id) InvalidOperation w) (λ _ world1.
    ask (need (bound_to m args) TooManyArguments world1) (λ given world2.
    ask (need (known_stream m world2) InvalidOperation world2) (λ s world3.
    let outer = n + depth world3.scopes + macro_depth in
    ask (check (nat_lt (outer + 1) host.limit) InvalidOperation world3) (λ _ world4.
    runs (macro_call s m given world4) (record world4 {
      scopes = macro_scopes m args world4.scopes.frames outer;
      stream = s;
      block = None;
    })))))

-- ---------------------------------------------------------------- functions
-- Makes the further calls that objects ask for.
abbrev pub MakesFurther : Type 0
MakesFurther = Call → World → Asked

-- the result of a reply
abbrev pub replied : MakesFurther → Reply → World → Asked
replied make (gives v) w = has v w
replied make (faults chain) w = refused chain w
replied make (asks_for c) w = make c w

-- Calls one of the caller's objects. Its values to keep are stored first, even if its reply is a
-- fault or a further call.
abbrev pub object_call : MakesFurther → HostValue → Object → List Val → World → Asked
object_call make host f args w =
    let stated = f args (view_of host w) in
    replied make stated.reply (record w { temps = put_each stated.temps w.temps })

-- calls the object, if one was found
abbrev pub found_call : MakesFurther → HostValue → Option Object → ErrorKind → List Val → World → Asked
found_call make host found kind args w = ask (need found kind w) (λ f world1. object_call make host f args world1)

-- the result of a built-in function
abbrev pub given_by : GlobalFunction → List Val → World → Res Val
given_by own.Range args w = answered (range_of args) w
given_by own.Dict args w = bind (answered (dict_of (records_of w) args) w) (λ ps world1. Good (map (pairs_of ps)) world1)
given_by own.Namespace args w = bind (answered (namespace_of (records_of w) args) w) (λ ps world1. make_namespace ps world1)

-- calls a function; `make` makes its further calls
abbrev pub function_call : MakesFurther → HostValue → Function → List Val → World → Asked
function_call make host (callers f) args w = object_call make host f args w
function_call make host (languages g) args w = ask (given_by g args w) has

-- Calls a value, n levels deeper than the scopes: a function by its number, or a macro.
abbrev pub value_call : MakesFurther → ℕ → HostValue → Val → List Val → World → Asked
value_call make levels host (function n) args w =
    ask (need (slice_get host.functions n) InvalidOperation w) (λ f world1. function_call make host f args world1)
value_call make levels host (macro m) args w = enter_macro levels host m args w
value_call make levels host v args w = refused (InvalidOperation ∷ []) w

-- calls the value of a name
abbrev pub named_call : MakesFurther → ℕ → HostValue → List ℕ → List Val → World → Asked
named_call make levels host x args w =
    ask (lookup host x w) (λ found world1. ask (need found UnknownFunction world1) (λ f world2. value_call make levels host f args world2))

-- The text of a call's result, not marked safe.
abbrev pub as_printed : Asked → Asked
as_printed (has v w) = ask (answered (text_answer (records_of w) v) w) (λ t world1. has (text t false) world1)
as_printed (refused chain w) = refused chain w
as_printed (runs c w) = runs (record c { text = texts.Plain }) w
as_printed (recurs n items w) = recurs n items w

-- the world, n levels deeper
abbrev pub deeper : ℕ → World → World
deeper n w = record w { scopes = record w.scopes { outer = n + w.scopes.outer } }

-- The result of a call made in a deeper world: the world w is restored after a run, and if no run
-- is needed.
abbrev pub from_deeper : World → Asked → Asked
from_deeper w (has v _) = has v w
from_deeper w (refused chain _) = refused chain w
from_deeper w (runs c world1) = runs (record c { undo = of_block w; text = texts.Plain }) world1
from_deeper w (recurs n items _) = refused (InvalidOperation ∷ []) w

-- Makes a further call, n levels deeper than the code; `make` makes the further calls of what it
-- calls.
abbrev pub further_call : MakesFurther → ℕ → HostValue → Call → World → Asked
further_call make n host (further.Filter x args) w = found_call make host (find x host.filters) UnknownFilter args w
further_call make n host (further.Macro x args) w = as_printed (named_call make n host x args w)
further_call make n host (further.Block b) w = from_deeper w (enter_block host b (deeper n w))

-- Each further call is one level deeper, so a chain of them has at most `left` calls, after n calls
-- that were made.
abbrev pub further_calls : ℕ → ℕ → HostValue → MakesFurther
further_calls zero n host c w = refused (InvalidOperation ∷ []) w
further_calls (suc left) n host c w = further_call (further_calls left (suc n) host) (suc n) host c w

-- the number of levels left up to the limit
abbrev pub depths_left : HostValue → World → ℕ
depths_left host w = host.limit - depth w.scopes

-- makes the further calls of a call in code
abbrev pub by_depths : HostValue → World → MakesFurther
by_depths host w = further_calls (depths_left host w) 0 host

abbrev pub call_value : HostValue → Val → List Val → World → Asked
call_value host v args w = value_call (by_depths host w) 0 host v args w

-- calls the first value with the others
abbrev pub call_callee : HostValue → List Val → World → Asked
call_callee host [] w = refused (InvalidOperation ∷ []) w
call_callee host (v ∷ args) w = call_value host v args w

-- ---------------------------------------------------------------- methods
-- whether the arguments differ from those that were kept last
abbrev pub is_changed : Option (List Val) → List Val → Bool
is_changed None args = true
is_changed (Some before) args = not (same_values (vals_of before) (vals_of args))

abbrev pub keeping : List Val → Loop → Loop
keeping args l = if is_changed l.kept args then record l { kept = Some args } else l

abbrev pub keeping_at : ℕ → List Val → List Loop → List Loop
keeping_at n args [] = []
keeping_at zero args (l ∷ ls) = keeping args l ∷ ls
keeping_at (suc n) args (l ∷ ls) = l ∷ keeping_at n args ls

-- the argument for the current item, cycling through all of them; undefined if there are none
abbrev pub cycled : Option ℕ → List Val → Val
cycled None args = undefined false
cycled (Some place) args = or_undefined (slice_get args (place % length args))

-- uses the record of a loop; InvalidOperation if there is none
abbrev pub of_loop : Option Loop → World → (Loop → Asked) → Asked
of_loop None w f = refused (InvalidOperation ∷ []) w
of_loop (Some l) w f = f l

-- the record of the loop with this number, if it belongs to this state
abbrev pub record_at : World → ℕ → ℕ → Option Loop
record_at w state n = if nat_eq w.id state then slice_get w.loops n else None

-- whether the arguments of `changed` differ; if so, they are kept
abbrev pub told_changed : ℕ → List Val → World → Loop → Asked
told_changed n args w l = has (boolean (is_changed l.kept args)) (record w { loops = keeping_at n args w.loops })

-- the argument that `cycle` returns
abbrev pub told_turn : List Val → World → Loop → Asked
told_turn args w l = has (cycled (place_of l.turns) args) w

-- the caller's object for a method that a value lacks, if there is one
abbrev pub method_object : Option Fallback → Val → List ℕ → Option Object
method_object None v x = None
method_object (Some f) v x = Some (f v x)

-- Calls the caller's object for a method that a value lacks, if there is one.
abbrev pub unknown_method : HostValue → List ℕ → Val → List Val → World → Asked
unknown_method host x v args w = found_call (by_depths host w) host (method_object host.unknown_method v x) UnknownMethod args w

-- A loop has two methods: `changed` and `cycle`.
abbrev pub loop_method : HostValue → List ℕ → ℕ → ℕ → List Val → World → Asked
loop_method host x state n args w =
    if same_name x (codes "changed") then
    of_loop (record_at w state n) w (told_changed n args w)
    else if same_name x (codes "cycle") then of_loop (record_at w state n) w (told_turn args w)
    else unknown_method host x (loop state n) args w

abbrev pub is_macro_attribute : List ℕ → Bool
is_macro_attribute x = same_name x (codes "name") || same_name x (codes "arguments") || same_name x (codes "caller")

-- the method of a value: the member of a map, keyword map, module or namespace, or an attribute of
-- a macro
abbrev pub method_in : RecordData → List ℕ → Val → Answer (Option Val)
method_in r x (macro m) = Ok (if is_macro_attribute x then Some (macro_member m x) else None)
method_in r x v = context_member r x v

-- calls the method that was found
abbrev pub call_in : HostValue → List ℕ → Val → List Val → Option Val → World → Asked
call_in host x v args None w = unknown_method host x v args w
call_in host x v args (Some f) w = call_value host f args w

abbrev pub call_method : HostValue → List ℕ → Val → List Val → World → Asked
call_method host x (loop state n) args w = loop_method host x state n args w
call_method host x v args w =
    ask (answered (method_in (records_of w) x v) w) (λ found world1. call_in host x v args found world1)

-- calls the method of the first value
abbrev pub call_first : HostValue → List ℕ → List Val → World → Asked
call_first host x [] w = refused (InvalidOperation ∷ []) w
call_first host x (v ∷ args) w = call_method host x v args w

-- ---------------------------------------------------------------- filters and tests
abbrev pub apply_filter : HostValue → List ℕ → List Val → World → Asked
apply_filter host x args w = found_call (by_depths host w) host (find x host.filters) UnknownFilter args w

-- Only the truth of a test's result counts, whatever the behaviour of undefined values.
abbrev pub as_truth : Asked → Asked
as_truth (has v w) = has (boolean (is_true v)) w
as_truth (refused chain w) = refused chain w
as_truth (runs c w) = runs (record c { text = texts.Truth }) w
as_truth (recurs n items w) = recurs n items w

abbrev pub perform_test : HostValue → List ℕ → List Val → World → Asked
perform_test host x args w = as_truth (found_call (by_depths host w) host (find x host.tests) UnknownTest args w)

-- Applies a name to values: a method of the first one, a filter or a test.
abbrev pub applied : HostValue → Application → List ℕ → List Val → World → Asked
applied host applications.Method x vs w = call_first host x vs w
applied host applications.Filter x vs w = apply_filter host x vs w
applied host applications.Test x vs w = perform_test host x vs w
applied host applications.NegatedTest x vs w = perform_test host x vs w

-- ---------------------------------------------------------------- loops
-- wraps a fault in a kind
abbrev pub wrapped_as : {A : Type 0} → ErrorKind → Res A → Res A
wrapped_as kind (Good a w) = Good a w
wrapped_as kind (Bad chain w) = Bad (kind ∷ chain) w

-- Calls a loop with a value. The loop must be recursive and belong to the running stream, and the
-- value must have items.
abbrev pub call_loop : HostValue → Loop → Val → World → Asked
call_loop host l v w =
    ask (check (l.recursive && same_stream l.stream w.stream) InvalidOperation w) (λ _ world1.
    ask (wrapped_as InvalidOperation (items_over host v world1)) (λ items world2. recurs l.number items world2))

-- calls the innermost loop
abbrev pub call_innermost : HostValue → Val → World → Asked
call_innermost host v w =
    ask (need (innermost w.scopes.frames) UnknownFunction w) (λ n world1.
    of_loop (slice_get world1.loops n) world1 (λ l. call_loop host l v world1))

abbrev pub one_argument : List Val → World → Res Val
one_argument (v ∷ []) w = Good v w
one_argument vs w = bad InvalidOperation w

-- calls the value of a name: a loop of this state with one argument, or any other value
abbrev pub call_found : HostValue → Val → List Val → World → Asked
call_found host (loop state n) args w =
    of_loop (record_at w state n) w (λ l. ask (one_argument args w) (λ v world1. call_loop host l v world1))
call_found host v args w = call_value host v args w

abbrev pub no_values : List Val → Bool
no_values [] = true
no_values (v ∷ vs) = false

-- the text of `super()`, which takes no arguments
abbrev pub call_super : HostValue → List Val → World → Asked
call_super host args w = ask (check (no_values args) InvalidOperation w) (λ _ world1. enter_super host world1)

-- looks up a name and calls its value
abbrev pub call_looked_up : HostValue → List ℕ → List Val → World → Asked
call_looked_up host x args w =
    ask (lookup host x w) (λ found world1. ask (need found UnknownFunction world1) (λ f world2. call_found host f args world2))

-- Calls a name, which is looked up after its arguments are evaluated. `super` isn't looked up.
abbrev pub call_named : HostValue → List ℕ → List Val → World → Asked
call_named host x args w =
    choose (same_name x (codes "super")) (λ _. call_super host args w) (λ _. call_looked_up host x args w)

-- ---------------------------------------------------------------- includes
-- The names of templates in a value, of which the first existing one is used: a text, or the items
-- of another value. An undefined value has no items here.
abbrev pub choices_in : RecordData → Val → Answer (List Val)
choices_in r (text s safe) = Ok (text s safe ∷ [])
choices_in r v = items_or InvalidOperation r v

-- the first template that exists; each name is joined to that of the running template
abbrev pub first_found : HostValue → List Val → World → Res (Option TemplateId)
first_found host [] w = Good None w
first_found host (v ∷ vs) w =
    bind (need (text_in v) InvalidOperation w) (λ name world1.
    bind (joined host name world1) (λ x world2.
    choose (is_some (find x host.templates)) (λ _. Good (Some (entry x)) world2) (λ _. first_found host vs world2)))

-- how much deeper an included template is
abbrev pub include_depth : ℕ
include_depth = 10

-- The scopes of an included template: a new one in the current scopes, or these alone, whose
-- innermost one has no closure meanwhile. And how many levels that takes.
abbrev pub include_frames : Bool → List Scope → List Scope
include_frames true frames = plain_scope (undefined false) ∷ frames
include_frames false frames = owning None frames

abbrev pub include_cost : Bool → ℕ
include_cost true = 11
include_cost false = 10

-- the run of a template, needed in the world w; BadInclude wraps its fault
abbrev pub include_call : TemplateId → World → NestedCall
include_call t w = record { callee = whole (root_of t); undo = of_include w; wrap = Some BadInclude; text = texts.Captured }

-- the world in which an included template starts: deeper, with a new scope if `apart`, and with its
-- own escape and blocks
abbrev pub in_template : HostValue → Bool → TemplateId → World → World
in_template host apart t w = record w {
  scopes = record { frames = include_frames apart w.scopes.frames; outer = include_depth + w.scopes.outer };
  stream = root_of t;
  escape = (template_at host t).escape;
  blocks = own_blocks t (template_at host t).blocks;
  places = [];
}

-- Includes the template that was found, unless it would exceed the limit. If none was found,
-- nothing happens if it may be missing.
abbrev pub include_found : HostValue → Bool → Bool → Option TemplateId → World → Asked
include_found host apart missing (Some t) w =
    ask (check (not (nat_lt host.limit (include_cost apart + depth w.scopes))) InvalidOperation w) (λ _ world1.
    runs (include_call t w) (in_template host apart t world1))
include_found host apart missing None w = ask (check missing TemplateNotFound w) (λ _ world1. has (undefined false) world1)

-- Includes the template that a value names, with a new scope if `apart`. It may also be missing if
-- the value names no template at all.
abbrev pub enter_include : HostValue → Bool → Val → Bool → World → Asked
enter_include host apart v missing w =
    ask (answered (choices_in (records_of w) v) w) (λ vs world1.
    ask (first_found host vs world1) (λ found world2. include_found host apart (missing || no_values vs) found world2))
