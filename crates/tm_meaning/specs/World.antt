-- The state as the meaning and the machine see it, and their operations on it.
use Rattle.std.specs.Prelude.{ℕ, zero, suc, ◌+◌, ◌-◌, ◌≤◌, List, [], ◌∷◌, ◌++◌, length, map as each, Option, Some, None, option_and_then, Bool}
use Rattle.std.specs.Prelude.{is_some, true, false, not, ◌&&◌, ◌||◌, nat_le, nat_lt, nat_eq, if◌then◌else◌, Ok, Err, slice_get, codes}
use Rattle.tm_trees.specs.Instructions.{LoopFlags}
pub use Rattle.tm_syntax.specs.Choices.{choose}
pub use Rattle.tm_syntax.specs.Named.{Named, same_name, find, put, put_each}
use Rattle.tm_values.specs.Answer.{Answer, invalid}
use Rattle.tm_values.specs.Map.{member}
use Rattle.tm_values.specs.Map as maps
use Rattle.tm_values.specs.Equality.{same_value}
use Rattle.tm_values.specs.Records.{RecordData, LoopData, namespace_at}
use Rattle.tm_values.specs.Val.{Val, undefined, none, boolean, text, exports, macro, namespace, loop, pairs_of}
use Rattle.tm_values.specs.declared.error.ErrorKind.{ErrorKind}
use Rattle.tm_values.specs.declared.error.ErrorKind.TheVariants.{OutOfFuel, InvalidOperation}
use Rattle.tm_values.specs.declared.escape.AutoEscape.{AutoEscape}
use Rattle.tm_values.specs.declared.escape.AutoEscape.TheVariants as escapes
use Rattle.tm_values.specs.declared.undefined.UndefinedBehavior.{UndefinedBehavior}
use Rattle.tm_values.specs.declared.undefined.UndefinedUse.TheVariants.{Emission}
use Rattle.tm_meaning.specs.declared.function.GlobalFunction.{GlobalFunction}
use Rattle.tm_meaning.specs.declared.mark.LoopMark.{LoopMark}
use Rattle.tm_meaning.specs.declared.reply.Reply.{Reply}
pub use Rattle.tm_meaning.specs.declared.stream.TemplateId.{TemplateId}
pub use Rattle.tm_meaning.specs.declared.stream.TemplateId.TheVariants.{Own as own, Entry as entry}
pub use Rattle.tm_meaning.specs.declared.stream.StreamId.{StreamId}
use Rattle.tm_definitions.specs.Iteration.{iterated, unpacked}
use Rattle.tm_definitions.specs.Members.{or_undefined, settable}
use Rattle.tm_values.specs.Defined.{refusal_of, unless}
use Rattle.tm_definitions.specs.Emitted.{emission_verdict, emitted_text, text_answer}
use Rattle.tm_definitions.specs.Verdicts.{Verdict}

abbrev pub Bindings : Type 0
Bindings = Named Val

abbrev pub or_else : {A : Type 0} → Option A → Option A → Option A
or_else (Some a) other = Some a
or_else None other = other

abbrev pub or_is : {A : Type 0} → Option A → A → A
or_is None a = a
or_is (Some b) a = b

-- ---------------------------------------------------------------- templates and streams
abbrev pub root_of : TemplateId → StreamId
root_of t = record { template = t; block = None }

abbrev pub block_of : TemplateId → List ℕ → StreamId
block_of t b = record { template = t; block = Some b }

-- What is known about a stream besides its content: whether it is a required block.
pub record Card : Type 0 where
  pub required : Bool

pub record Template : Type 0 where
  pub name : List ℕ
  pub escape : AutoEscape
  pub root : Card
  pub blocks : Named Card

-- ---------------------------------------------------------------- a state
-- A scope: its locals, the context value, whose keys are names too, its loop, the closure made in
-- it, and the closure that it reads.
pub record Scope : Type 0 where
  pub locals : Bindings
  pub context : Val
  pub mark : Option LoopMark
  pub own_closure : Option ℕ
  pub reads : Option ℕ

-- The scopes, innermost first, and the depth of the outermost one.
pub record Scopes : Type 0 where
  pub frames : List Scope
  pub outer : ℕ

-- The record of a loop: its items; how often the next one was taken, at most once more than there
-- are items; its depth; its number in its stream, in source order; whether it can be called; its
-- stream; and the arguments of `changed`.
pub record Loop : Type 0 where
  pub items : List Val
  pub turns : ℕ
  pub depth : ℕ
  pub number : ℕ
  pub recursive : Bool
  pub stream : StreamId
  pub kept : Option (List Val)

-- A state: its id, scopes and records; the streams that declared macros; the kept values; for each
-- block the templates that have it, from child to root; the places in these lists that `super()`
-- advanced; the names loaded so far; the running block; the escape; the running stream; the fuel
-- that was set; and the fuel left.
pub record World : Type 0 where
  pub id : ℕ
  pub scopes : Scopes
  pub namespaces : List (List (Val × Val))
  pub loops : List Loop
  pub closures : List Bindings
  pub streams : List StreamId
  pub temps : Bindings
  pub blocks : Named (List TemplateId)
  pub places : Named ℕ
  pub loaded : List (List ℕ)
  pub block : Option (List ℕ)
  pub escape : AutoEscape
  pub stream : StreamId
  pub fuel_set : Option ℕ
  pub fuel : ℕ

-- What the caller's objects can see.
pub record View : Type 0 where
  pub id : ℕ
  pub frames : List Scope
  pub closures : List Bindings
  pub records : RecordData
  pub globals : Bindings
  pub temps : Bindings
  pub name : List ℕ
  pub escape : AutoEscape
  pub undefined : UndefinedBehavior

-- The result of a callable: values to keep, in order, and its reply.
pub record Stated : Type 0 where
  pub temps : Bindings
  pub reply : Reply

-- One of the caller's objects that can be called: its result depends on its arguments and on what
-- it can see.
abbrev pub Object : Type 0
Object = List Val → View → Stated

-- The caller's object for methods that a value lacks: the object for that value and name.
abbrev pub Fallback : Type 0
Fallback = Val → List ℕ → Object

-- The caller's formatter: the text that is written for a value, depending on what it can see.
abbrev pub Format : Type 0
Format = Val → View → Answer (List ℕ)

-- A function of the environment: one of the caller's objects, or a built-in one.
pub data Function : Type 0 where
  callers : Object → Function
  languages : GlobalFunction → Function

-- What the environment contains. Trees and code aren't part of it: they are functions of a stream.
pub record HostValue : Type 0 where
  pub own : Template
  pub templates : Named Template
  pub globals : Bindings
  pub functions : List Function
  pub filters : Named Object
  pub tests : Named Object
  pub join : List ℕ → List ℕ → Answer (List ℕ)
  pub formatter : Option Format
  pub unknown_method : Option Fallback
  pub undefined : UndefinedBehavior
  pub limit : ℕ

-- ---------------------------------------------------------------- results
-- A value and a new world, or a chain of kinds and the world that is left.
pub data Res (A : Type 0) : Type 0 where
  Good : A → World → Res A
  Bad : List ErrorKind → World → Res A

abbrev pub bind : {A B : Type 0} → Res A → (A → World → Res B) → Res B
bind (Good a w) f = f a w
bind (Bad chain w) f = Bad chain w

-- a fault without a cause
abbrev pub bad : {A : Type 0} → ErrorKind → World → Res A
bad kind w = Bad (kind ∷ []) w

-- a value that must be there
abbrev pub need : {A : Type 0} → Option A → ErrorKind → World → Res A
need (Some a) kind w = Good a w
need None kind w = bad kind w

abbrev pub check : Bool → ErrorKind → World → Res (Unit {0})
check true kind w = Good tt w
check false kind w = bad kind w

-- the result of an operation that doesn't change the world
abbrev pub answered : {A : Type 0} → Answer A → World → Res A
answered (Ok a) w = Good a w
answered (Err chain) w = Bad chain w

-- ---------------------------------------------------------------- fuel
-- Whether a charge can be paid, as a truth value and as a proposition.
abbrev pub can_be_paid : ℕ → ℕ → Bool
can_be_paid charge left = nat_le charge left

abbrev pub CanPay : ℕ → ℕ → Type 0
CanPay charge left = charge ≤ left

-- The fuel left after a charge: unchanged if the charge is 0. If it can't be paid, the fuel is used
-- up.
abbrev pub charged : ℕ → ℕ → Option ℕ
charged charge left = if nat_eq charge 0 then Some left else if can_be_paid charge left then Some (left - charge) else None

abbrev pub with_fuel : Option ℕ → World → Res (Unit {0})
with_fuel (Some left) w = Good tt (record w { fuel = left })
with_fuel None w = bad OutOfFuel (record w { fuel = 0 })

-- Pays a charge, or fails with OutOfFuel, with no fuel left.
abbrev pub pays : ℕ → World → Res (Unit {0})
pays charge w = with_fuel (charged charge w.fuel) w

-- A tick is a charge of 1.
abbrev pub tick : World → Res (Unit {0})
tick w = pays 1 w

abbrev pub ticked : {A : Type 0} → World → (World → Res A) → Res A
ticked w f = bind (tick w) (λ _ world1. f world1)

-- ---------------------------------------------------------------- queries of a world
abbrev pub template_at : HostValue → TemplateId → Template
template_at host own = host.own
template_at host (entry x) = or_is (find x host.templates) host.own

abbrev pub card_in : Template → Option (List ℕ) → Option Card
card_in t None = Some t.root
card_in t (Some b) = find b t.blocks

abbrev pub same_template : TemplateId → TemplateId → Bool
same_template own own = true
same_template (entry x) (entry y) = same_name x y
same_template s t = false

abbrev pub same_block : Option (List ℕ) → Option (List ℕ) → Bool
same_block None None = true
same_block (Some x) (Some y) = same_name x y
same_block b c = false

abbrev pub same_stream : StreamId → StreamId → Bool
same_stream s t = same_template s.template t.template && same_block s.block t.block

abbrev pub card_at : HostValue → StreamId → Option Card
card_at host s = card_in (template_at host s.template) s.block

abbrev pub name_of : HostValue → World → List ℕ
name_of host w = (template_at host w.stream.template).name

-- the index of a loop's item, from the number of items taken; None before the first
abbrev pub place_of : ℕ → Option ℕ
place_of zero = None
place_of (suc n) = Some n

abbrev pub previous_of : List Val → ℕ → Option Val
previous_of items n = option_and_then (slice_get items) (option_and_then place_of (place_of n))

abbrev pub following_of : List Val → ℕ → Option Val
following_of items n = option_and_then (λ _. slice_get items n) (place_of n)

abbrev pub loop_data : Loop → LoopData
loop_data l = record {
  place = place_of l.turns;
  count = length l.items;
  depth = l.depth;
  previous = previous_of l.items l.turns;
  following = following_of l.items l.turns;
}

-- the content of the state's loops and namespaces
abbrev pub records_of : World → RecordData
records_of w = record { state = w.id; namespaces = w.namespaces; loops = each loop_data w.loops }

abbrev pub view_of : HostValue → World → View
view_of host w = record {
  id = w.id;
  frames = w.scopes.frames;
  closures = w.closures;
  records = records_of w;
  globals = host.globals;
  temps = w.temps;
  name = name_of host w;
  escape = w.escape;
  undefined = host.undefined;
}

-- ---------------------------------------------------------------- look-up
abbrev pub marked_loop : ℕ → Option LoopMark → List ℕ → Option Val
marked_loop id None x = None
marked_loop id (Some m) x = if m.variable && same_name x (codes "loop") then Some (loop id m.number) else None

abbrev pub read_closure : List Bindings → Option ℕ → List ℕ → Option Val
read_closure closures None x = None
read_closure closures (Some n) x = option_and_then (find x) (slice_get closures n)

-- a scope's own bindings: its locals, then `loop`, then the closure that it reads
abbrev pub in_scope : View → List ℕ → Scope → Option Val
in_scope view x s = or_else (find x s.locals) (or_else (marked_loop view.records.state s.mark x) (read_closure view.closures s.reads x))

abbrev pub namespace_member : Option (List (Val × Val)) → List ℕ → Answer (Option Val)
namespace_member None x = invalid
namespace_member (Some ps) x = Ok (maps.find (text x false) ps)

-- the member of a context value; a record of another state can't be read
abbrev pub context_member : RecordData → List ℕ → Val → Answer (Option Val)
context_member r x (namespace state n) = namespace_member (namespace_at r state n) x
context_member r x v = Ok (member x v)

abbrev pub or_on : Option Val → (Unit {0} → Answer (Option Val)) → Answer (Option Val)
or_on (Some v) f = Ok (Some v)
or_on None f = f tt

abbrev pub or_on_answer : Answer (Option Val) → (Unit {0} → Answer (Option Val)) → Answer (Option Val)
or_on_answer (Ok found) f = or_on found f
or_on_answer (Err chain) f = Err chain

-- An inner scope comes before an outer one, and a scope's own bindings before its context value.
abbrev pub in_frames : View → List ℕ → List Scope → Answer (Option Val)
in_frames view x [] = Ok None
in_frames view x (s ∷ ss) =
    or_on (in_scope view x s) (λ _.
    or_on_answer (context_member view.records x s.context) (λ _.
    in_frames view x ss))

-- The value of a name, from the scopes or else from the globals.
abbrev pub find_name : View → List ℕ → Answer (Option Val)
find_name view x = or_on_answer (in_frames view x view.frames) (λ _. Ok (find x view.globals))

abbrev pub lookup : HostValue → List ℕ → World → Res (Option Val)
lookup host x w = answered (find_name (view_of host w) x) w

abbrev pub looked_up : HostValue → List ℕ → World → Res Val
looked_up host x w = bind (lookup host x w) (λ found world1. Good (or_undefined found) world1)

-- ---------------------------------------------------------------- scopes
abbrev pub depth : Scopes → ℕ
depth scopes = length scopes.frames + scopes.outer

abbrev pub plain_scope : Val → Scope
plain_scope context = record { locals = []; context = context; mark = None; own_closure = None; reads = None }

abbrev pub with_frames : List Scope → World → World
with_frames frames w = record w { scopes = record w.scopes { frames = frames } }

-- Opens a scope, unless it would be deeper than the limit.
abbrev pub push : HostValue → Scope → World → Res (Unit {0})
push host s w =
    choose (nat_lt (depth w.scopes) host.limit) (λ _. Good tt (with_frames (s ∷ w.scopes.frames) w)) (λ _. bad InvalidOperation w)

abbrev pub without_first : {A : Type 0} → List A → List A
without_first [] = []
without_first (x ∷ xs) = xs

-- Closes the innermost scope.
abbrev pub pop : World → World
pop w = with_frames (without_first w.scopes.frames) w

abbrev pub stored_in : List ℕ → Val → List Scope → List Scope
stored_in x v [] = []
stored_in x v (s ∷ ss) = record s { locals = put x v s.locals } ∷ ss

-- ---------------------------------------------------------------- closures
-- the closure that was made in the innermost scope
abbrev pub own_closure : List Scope → Option ℕ
own_closure [] = None
own_closure (s ∷ ss) = s.own_closure

abbrev pub put_at : ℕ → List ℕ → Val → List Bindings → List Bindings
put_at n x v [] = []
put_at zero x v (c ∷ cs) = put x v c ∷ cs
put_at (suc n) x v (c ∷ cs) = c ∷ put_at n x v cs

-- binds a name in the closure with this number
abbrev pub put_in : Option ℕ → List ℕ → Val → List Bindings → List Bindings
put_in None x v cs = cs
put_in (Some n) x v cs = put_at n x v cs

-- binds the name in the closure of the innermost scope, if there is one
abbrev pub put_enclosed : List ℕ → Val → World → World
put_enclosed x v w = record w { closures = put_in (own_closure w.scopes.frames) x v w.closures }

-- Binds the name in the innermost scope and in its closure.
abbrev pub store : List ℕ → Val → World → World
store x v w = put_enclosed x v (with_frames (stored_in x v w.scopes.frames) w)

-- sets the closure of the innermost scope
abbrev pub owning : Option ℕ → List Scope → List Scope
owning closure [] = []
owning closure (s ∷ ss) = record s { own_closure = closure } ∷ ss

-- sets the closure of the innermost scope to number n
abbrev pub with_own : ℕ → List Scope → List Scope
with_own n frames = owning (Some n) frames

abbrev pub one_closure_more : List Scope → List Bindings → List Bindings
one_closure_more [] cs = cs
one_closure_more (s ∷ ss) cs = cs ++ [] ∷ []

-- makes a closure for the innermost scope, unless it has one
abbrev pub closing_over : Option ℕ → World → World
closing_over (Some n) w = w
closing_over None w =
    record (with_frames (with_own (length w.closures) w.scopes.frames) w) { closures = one_closure_more w.scopes.frames w.closures }

-- whether the closure of the innermost scope has a name
abbrev pub has_enclosed : List ℕ → World → Bool
has_enclosed x w = is_some (read_closure w.closures (own_closure w.scopes.frames) x)

-- Binds the name to its present value, or undefined, in the closure of the innermost scope, unless
-- the closure has the name. The closure is made if there is none.
abbrev pub enclose : HostValue → List ℕ → World → Res (Unit {0})
enclose host x w =
    choose (has_enclosed x w) (λ _. Good tt w) (λ _.
    bind (looked_up host x w) (λ v world1.
    Good tt (put_enclosed x v (closing_over (own_closure world1.scopes.frames) world1))))

-- ---------------------------------------------------------------- loops
-- the number of the innermost loop's record
abbrev pub number_of : Option LoopMark → Option ℕ
number_of None = None
number_of (Some m) = Some m.number

abbrev pub innermost : List Scope → Option ℕ
innermost [] = None
innermost (s ∷ ss) = or_else (number_of s.mark) (innermost ss)

-- one level deeper than a recursive loop, and otherwise the outermost level
abbrev pub depth_inside : Option Loop → ℕ
depth_inside None = 0
depth_inside (Some l) = if l.recursive then l.depth + 1 else 0

abbrev pub loop_depth : World → ℕ
loop_depth w = depth_inside (option_and_then (slice_get w.loops) (innermost w.scopes.frames))

abbrev pub loop_scope : LoopMark → Scope
loop_scope m = record (plain_scope (undefined false)) { mark = Some m }

abbrev pub new_loop : List Val → LoopFlags → ℕ → World → Loop
new_loop items flags number w = record {
  items = items;
  turns = 0;
  depth = loop_depth w;
  number = number;
  recursive = flags.recursive;
  stream = w.stream;
  kept = None;
}

-- Opens a loop in a new scope and appends its record. If there is no room for the scope, no record
-- is made.
abbrev pub open_loop : HostValue → List Val → LoopFlags → ℕ → World → Res (Unit {0})
open_loop host items flags number w =
    bind (push host (loop_scope (record { number = length w.loops; variable = flags.variable })) w) (λ _ world1.
    Good tt (record world1 { loops = world1.loops ++ new_loop items flags number w ∷ [] }))

abbrev pub turned : Loop → Loop
turned l = if nat_lt (length l.items) l.turns then l else record l { turns = l.turns + 1 }

abbrev pub turned_at : ℕ → List Loop → List Loop
turned_at n [] = []
turned_at zero (l ∷ ls) = turned l ∷ ls
turned_at (suc n) (l ∷ ls) = l ∷ turned_at n ls

abbrev pub turned_of : Option LoopMark → World → World
turned_of None w = w
turned_of (Some m) w = record w { loops = turned_at m.number w.loops }

abbrev pub top_mark : List Scope → Option LoopMark
top_mark [] = None
top_mark (s ∷ ss) = s.mark

-- Takes the next item of the innermost scope's loop.
abbrev pub next_turn : World → World
next_turn w = turned_of (top_mark w.scopes.frames) w

abbrev pub without_locals : List Scope → List Scope
without_locals [] = []
without_locals (s ∷ ss) = record s { locals = [] } ∷ ss

-- Drops the names of the innermost scope.
abbrev pub cleared : World → World
cleared w = with_frames (without_locals w.scopes.frames) w

-- The items of a loop that was left, as many as there were: the first value up to the current one,
-- and then the second.
abbrev pub spread : ℕ → ℕ → Val → Val → List Val
spread zero turns before after = []
spread (suc n) zero before after = after ∷ spread n zero before after
spread (suc n) (suc turns) before after = before ∷ spread n turns before after

-- Forgets the items of a loop but the one before the current one and the one after it, so that the
-- record answers as before.
abbrev pub left_loop : Loop → Loop
left_loop l = record l {
  items = spread (length l.items) l.turns (or_is (previous_of l.items l.turns) none) (or_is (following_of l.items l.turns) none);
}

abbrev pub leaving_at : ℕ → List Loop → List Loop
leaving_at n [] = []
leaving_at zero (l ∷ ls) = left_loop l ∷ ls
leaving_at (suc n) (l ∷ ls) = l ∷ leaving_at n ls

abbrev pub leaving_of : Option LoopMark → World → World
leaving_of None w = w
leaving_of (Some m) w = record w { loops = leaving_at m.number w.loops }

-- Closes the innermost scope, which is a loop's, and forgets the loop's items.
abbrev pub leave_loop : World → World
leave_loop w = pop (leaving_of (top_mark w.scopes.frames) w)

-- the record of the innermost scope, if that is a loop's
abbrev pub top_loop : World → Option Loop
top_loop w = option_and_then (λ (m : LoopMark). slice_get w.loops m.number) (top_mark w.scopes.frames)

-- the items that a loop iterates over
abbrev pub items_over : HostValue → Val → World → Res (List Val)
items_over host v w = answered (iterated host.undefined (records_of w) v) w

-- ---------------------------------------------------------------- namespaces
abbrev pub with_member : ℕ → List ℕ → Val → List (List (Val × Val)) → List (List (Val × Val))
with_member n x v [] = []
with_member zero x v (ps ∷ more) = maps.put (text x false) v ps ∷ more
with_member (suc n) x v (ps ∷ more) = ps ∷ with_member n x v more

-- Sets an attribute of a namespace of this state.
abbrev pub set_member : List ℕ → Val → Val → World → Res (Unit {0})
set_member x v o w =
    bind (answered (settable (records_of w) o) w) (λ n world1. Good tt (record world1 { namespaces = with_member n x v world1.namespaces }))

-- Appends a new namespace with these pairs.
abbrev pub make_namespace : List (Val × Val) → World → Res Val
make_namespace ps w = Good (namespace w.id (length w.namespaces)) (record w { namespaces = w.namespaces ++ ps ∷ [] })

-- the items of a value, which must be exactly n
abbrev pub unpacked_items : ℕ → Val → World → Res (List Val)
unpacked_items n v w = answered (unpacked (records_of w) n v) w

-- ---------------------------------------------------------------- macros
-- the index of a stream among those that declared macros, counted from n
abbrev pub stream_from : ℕ → StreamId → List StreamId → ℕ
stream_from n s [] = n
stream_from n s (t ∷ ts) = if same_stream s t then n else stream_from (n + 1) s ts

abbrev pub is_there : StreamId → List StreamId → Bool
is_there s [] = false
is_there s (t ∷ ts) = same_stream s t || is_there s ts

-- the streams that declared macros, with s appended unless it is there
abbrev pub with_stream : StreamId → List StreamId → List StreamId
with_stream s ts = if is_there s ts then ts else ts ++ s ∷ []

-- A macro of the running stream, by its entry, its closure, its name, the names of its arguments,
-- and whether it takes `caller`. A stream gets its number with its first macro.
abbrev pub make_macro : ℕ → Option ℕ → List ℕ → List (List ℕ) → Bool → World → Res Val
make_macro number closure x arguments caller w =
    Good (macro (record {
      state = w.id;
      stream = stream_from 0 w.stream w.streams;
      entry = number;
      closure = closure;
      name = x;
      arguments = arguments;
      caller = caller;
    })) (record w { streams = with_stream w.stream w.streams })

-- ---------------------------------------------------------------- emission
-- a result, unless the verdict is an error
abbrev pub where_fine : {A : Type 0} → Verdict → A → Answer A
where_fine (Ok u) a = Ok a
where_fine (Err chain) a = Err chain

-- the text written for a value: by the caller's formatter, or else by the current escape
abbrev pub formatted : Option Format → Val → View → Answer (List ℕ)
formatted None v view =
    where_fine (emission_verdict view.escape view.records v) (emitted_text view.escape view.records v)
formatted (Some f) v view = f v view

-- The text written for a value. An undefined value is refused if the behaviour says so. Then the
-- formatter is used, or else the escape.
abbrev pub emitted : HostValue → Val → World → Res (List ℕ)
emitted host v w = answered (unless (refusal_of host.undefined Emission v) (formatted host.formatter v (view_of host w))) w

-- ---------------------------------------------------------------- escapes
abbrev pub escape_named : List ℕ → Answer AutoEscape
escape_named name =
    if same_name name (codes "html") then Ok escapes.Html
    else if same_name name (codes "json") then Ok escapes.Json
    else if same_name name (codes "none") then Ok escapes.None
    else invalid

-- the escape at a run's start, or Html if there was none
abbrev pub switched_on : AutoEscape → AutoEscape
switched_on escapes.None = escapes.Html
switched_on first = first

-- The escape that a value selects, in a run that began with `first`: a text names it, a value equal
-- to true switches it on, and any other value switches it off.
abbrev pub escape_for : AutoEscape → Val → Answer AutoEscape
escape_for first (text name safe) = escape_named name
escape_for first v = Ok (if same_value v (boolean true) then switched_on first else escapes.None)

abbrev pub with_escape : AutoEscape → World → World
with_escape e w = record w { escape = e }

-- ---------------------------------------------------------------- captured texts
abbrev pub is_escaping : AutoEscape → Bool
is_escaping escapes.None = false
is_escaping escape = true

-- a captured text as a value
abbrev pub captured_text : List ℕ → World → Val
captured_text t w = text t (is_escaping w.escape)

-- ---------------------------------------------------------------- modules
-- A name is exported unless it begins with `_`.
abbrev pub is_exported : List ℕ → Bool
is_exported [] = true
is_exported (b ∷ bs) = not (same_name (b ∷ []) (codes "_"))

-- each exported name as a key, with its value
abbrev pub exported : Bindings → List (Val × Val)
exported [] = []
exported (p ∷ ps) = choose (is_exported p.0) (λ _. (text p.0 false, p.1) ∷ exported ps) (λ _. exported ps)

abbrev pub top_locals : List Scope → Bindings
top_locals [] = []
top_locals (s ∷ ss) = s.locals

-- the module of the exported names of the innermost scope, with a text
abbrev pub module_of : World → List ℕ → Val
module_of w t = exports (pairs_of (exported (top_locals w.scopes.frames))) t

-- the same with the printed text of a value; refused if the value can't be printed
abbrev pub module_with : Val → World → Res Val
module_with v w = bind (answered (text_answer (records_of w) v) w) (λ t world1. Good (module_of world1 t) world1)

-- ---------------------------------------------------------------- the fuel levels
abbrev pub levels_of : Option ℕ → ℕ → Option (ℕ × ℕ)
levels_of None left = None
levels_of (Some set) left = Some (set - left, left)

-- The fuel consumed and the fuel left, if fuel was set.
abbrev pub fuel_levels : World → Option (ℕ × ℕ)
fuel_levels w = levels_of w.fuel_set w.fuel
