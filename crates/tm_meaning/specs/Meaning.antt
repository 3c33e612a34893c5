-- The meaning of trees. Neither places nor operands occur here.
use Rattle.std.specs.Prelude.{ℕ, ◌+◌, ◌^◌, pos, List, [], ◌∷◌, ◌++◌, Option, Some, None, Bool, true, false, ◌&&◌}
use Rattle.std.specs.Prelude.{nat_lt, if◌then◌else◌, Ok, codes}
use Rattle.tm_values.specs.Answer.{Answer, invalid}
use Rattle.tm_values.specs.Val.{Val, undefined, number, text}
use Rattle.tm_values.specs.declared.error.ErrorKind.{ErrorKind}
use Rattle.tm_values.specs.declared.escape.AutoEscape.{AutoEscape}
use Rattle.tm_trees.specs.Trees.{BinaryOperator, Expr, Var, Const, List', Tuple', Map', Call', SelfBlock, Row_of-Expr, no_expr, expr, Row_of-Pair}
use Rattle.tm_trees.specs.Trees.{no_pair, Row_of-Argument, no_argument, argument, Row_of-Keyword, no_keyword, keyword_and, Row_of-Step, no_step}
use Rattle.tm_trees.specs.Trees.{step, Row_of-Condition, no_condition, Argument, Step, Attribute, Apply', Called, Row_of-Comparison, no_comparison}
use Rattle.tm_trees.specs.Trees.{AssignmentTarget, To, Items, Member, Row_of-AssignmentTarget, no_target, target, Assignment, Parameter, Imported}
use Rattle.tm_trees.specs.Trees.{CaptureUse, Stmt, EmitRaw, EmitExpr, EmitLoop, EmitBlock, EmitSuper, If', For', Break, Continue, Block', Extends}
use Rattle.tm_trees.specs.Trees.{Set, CaptureBlock', With', Do, AutoEscape', Macro', CallBlock', Row_of-Stmt, Include, Import, FromImport}
use Rattle.tm_trees.specs.Trees.{no_statement, statement, Otherwise, no_else, otherwise}
use Rattle.tm_trees.specs.Trees.uses
use Rattle.tm_syntax.specs.Forms.{unary, chained, conditional, with_condition, with_comparison, with_pair, plain, spread, keyword, item}
use Rattle.tm_syntax.specs.Forms.{spread_keywords, slice, binary, compare, and_then, or_else}
use Rattle.tm_syntax.specs.Code.{count_targets, for_flags, pass_flags, macro_head}
use Rattle.tm_syntax.specs.Fragments.{MacroHead}
use Rattle.tm_syntax.specs.Loops.{passes, Numbers, within_loop, past, pasts}
use Rattle.tm_meaning.specs.World.{choose, TemplateId, World, HostValue, Res, Good, Bad, bind, answered, tick, ticked, looked_up}
use Rattle.tm_meaning.specs.World.{emitted, escape_for, with_escape, captured_text, open_loop, next_turn, leave_loop}
use Rattle.tm_meaning.specs.World.{cleared, items_over, store, set_member, unpacked_items, push, pop, plain_scope, enclose, own_closure}
use Rattle.tm_meaning.specs.World.{make_macro, module_of}
use Rattle.tm_meaning.specs.Calls.{Callee, NestedCall, Asked, has, refused, runs, recurs, undone, wrapped, run_value}
use Rattle.tm_meaning.specs.Inheritance.{load}
use Rattle.tm_meaning.specs.Calls.{enter_block, enter_super, enter_include, call_named}
use Rattle.tm_meaning.specs.Calls.{applied, call_callee, call_innermost}
use Rattle.tm_meaning.specs.Operators.{truth, applied_unary, operated, applied_binary, attribute, item_at, slice_of}
use Rattle.tm_meaning.specs.Operators.{list_of_values, map_of_pairs, listed, mapped, passed, turned}
use Rattle.tm_values.specs.Truth.{is_undefined}

-- ---------------------------------------------------------------- runs and outcomes
-- A run of a stream's tree: the escape at its start, whether it is heard, whether it is inside a
-- capture of its own, and the parent that waits. Its stream is the world's.
pub record Run : Type 0 where
  pub first : AutoEscape
  pub heard : Bool
  pub inside : Bool
  pub parent : Option TemplateId

-- How statements end: done, by `break`, by `continue`, or by a fault. A run that is done leaves
-- values: none for statements, and one for an expression.
pub data Ending : Type 0 where
  done : List Val → Ending
  leave next : Ending
  fault : List ErrorKind → Ending

-- the values that are left
abbrev pub left_by : Ending → List Val
left_by (done vs) = vs
left_by e = []

-- The ending, the parent that waits at the end, the text heard so far, and the world that is left.
pub record Outcome : Type 0 where
  pub ending : Ending
  pub parent : Option TemplateId
  pub text : List ℕ
  pub world : World

-- A nested run of a callee, heard or not, with the text heard so far.
abbrev pub Nests : Type 0
Nests = Callee → Bool → List ℕ → World → Outcome

-- A call of the running stream's loop with this number, over these items: its rounds, in the scopes
-- of the call.
abbrev pub Again : Type 0
Again = ℕ → List Val → Run → List ℕ → World → Outcome

-- The context of a statement: the environment, nested runs, and the loops of its stream.
pub record Under : Type 0 where
  pub host : HostValue
  pub nests : Nests
  pub again : Again

abbrev pub ended : Ending → Run → List ℕ → World → Outcome
ended e run out w = record { ending = e; parent = run.parent; text = out; world = w }

abbrev pub so_far : Run → List ℕ → World → Outcome
so_far run out w = ended (done []) run out w

-- continues with a value, or ends with the text so far
abbrev pub use_it : {A : Type 0} → Res A → Run → List ℕ → (A → World → Outcome) → Outcome
use_it (Good a w) run out f = f a w
use_it (Bad chain w) run out f = ended (fault chain) run out w

-- continues if the first part is done
abbrev pub on_done : Ending → Outcome → (Unit {0} → Outcome) → Outcome
on_done (done vs) o f = f tt
on_done leave o f = o
on_done next o f = o
on_done (fault chain) o f = o

abbrev pub then_do : Run → Outcome → (Run → List ℕ → World → Outcome) → Outcome
then_do run o f = on_done o.ending o (λ _. f (record run { parent = o.parent }) o.text o.world)

abbrev pub none_waits : Option TemplateId → Bool
none_waits None = true
none_waits (Some t) = false

-- whether text written here is heard
abbrev pub audible : Run → Bool
audible run = choose run.inside (λ _. run.heard) (λ _. run.heard && none_waits run.parent)

abbrev pub say : Run → List ℕ → List ℕ → List ℕ
say run t out = choose (audible run) (λ _. out ++ t) (λ _. out)

-- ---------------------------------------------------------------- calls
-- the value of a nested run; what it replaced is restored, even after a fault
abbrev pub value_after : Ending → NestedCall → Outcome → Res Val
value_after (fault chain) c o = Bad (wrapped c.wrap chain) (undone c.undo o.world)
value_after e c o = Good (run_value c.text o.text (undone c.undo o.world)) (undone c.undo o.world)

-- a run inside a capture of its own, which receives what is written or not
abbrev pub capturing : Bool → Run → Run
capturing heard run = record run { heard = heard; inside = true }

-- the text that was heard, unless there was a fault
abbrev pub heard_after : Ending → Outcome → Res (List ℕ)
heard_after (fault chain) o = Bad chain o.world
heard_after e o = Good o.text o.world

-- that text as a value, such as for a called loop
abbrev pub text_after : Ending → Outcome → Res Val
text_after e o = bind (heard_after e o) (λ t w. Good (captured_text t w) w)

abbrev pub value_of : Under → Run → Asked → Res Val
value_of u run (has v w) = Good v w
value_of u run (refused chain w) = Bad chain w
value_of u run (runs c w) = let o = u.nests c.callee true [] w in value_after o.ending c o
value_of u run (recurs n items w) = let o = u.again n items (capturing true run) [] w in text_after o.ending o

-- a nested run in place
abbrev pub after : Ending → NestedCall → Run → Outcome → Outcome
after (fault chain) c run o = ended (fault (wrapped c.wrap chain)) run o.text (undone c.undo o.world)
after e c run o = so_far run o.text (undone c.undo o.world)

abbrev pub in_place_of : Under → Run → List ℕ → Asked → Outcome
in_place_of u run out (has v w) = so_far run out w
in_place_of u run out (refused chain w) = ended (fault chain) run out w
in_place_of u run out (runs c w) = let o = u.nests c.callee (audible run) out w in after o.ending c run o
in_place_of u run out (recurs n items w) = u.again n items run out w

-- A block tag does nothing if it isn't heard, or if a parent waits. The same holds for `self.b()`.
abbrev pub block_tag : Under → Run → List ℕ → List ℕ → World → Outcome
block_tag u run b out w =
    choose (none_waits run.parent && audible run) (λ _. in_place_of u run out (enter_block u.host b w)) (λ _. so_far run out w)

-- ---------------------------------------------------------------- expressions
-- What keyword arguments become, after a row of names with their values.
abbrev pub RowValues : Type 0
RowValues = List (Val × Val) → World → Res (List Val)

-- one computation after another; a fault ends both
infixl 10 ◌>>=◌
abbrev pub ◌>>=◌ : {A B : Type 0} → (World → Res A) → (A → World → Res B) → World → Res B
m >>= f = λ w. bind (m w) (λ a world1. f a world1)

infixl 10 ◌>>◌
abbrev pub ◌>>◌ : {A B : Type 0} → (World → Res A) → (World → Res B) → World → Res B
m >> n = m >>= (λ _. n)

abbrev pub chosen : {A : Type 0} → Bool → (World → Res A) → (World → Res A) → World → Res A
chosen b m n w = choose b (λ _. m w) (λ _. n w)

-- the value of what a call comes to
abbrev pub asking : Under → Run → (World → Asked) → World → Res Val
asking u run ask w = value_of u run (ask w)

-- the text of a block of this template
abbrev pub block_text : Under → Run → List ℕ → World → Res Val
block_text u run b w = let o = block_tag u (capturing true run) b [] w in text_after o.ending o

-- the guarded value and a charged jump if the condition is true; otherwise the other value
abbrev pub under_condition : HostValue → (World → Res Val) → (World → Res Val) → (World → Res Val) → World → Res Val
under_condition host test guarded other = do
  v ← test
  tick
  b ← truth host v
  chosen b (do x ← guarded; tick; Good x) other

abbrev mutual
  pub eval : Under → Run → Expr → World → Res Val
  eval u run (Var x) = do tick; looked_up u.host x
  eval u run (Const v) = do tick; Good v
  eval u run (List' _ es) = do vs ← eval_all u run es; tick; Good (list_of_values vs)
  eval u run (Tuple' _ es) = do vs ← eval_all u run es; tick; Good (list_of_values vs)
  eval u run (Map' _ ps) = do es ← eval_pairs u run ps; tick; Good (map_of_pairs es)
  eval u run (Call' f _ given _ named) = do
    vs ← passed u.host [] given named (eval_arguments u run given) (eval_keywords u run mapped [] named) (eval_lists u run [] given)
    tick
    asking u run (call_named u.host f vs)
  eval u run (SelfBlock b) = do tick; v ← block_text u run b; tick; Good v
  eval u run (unary op a) = do v ← eval u run a; tick; applied_unary u.host op v
  eval u run (chained a _ ss) = do v ← eval u run a; eval_steps u run ss v
  eval u run (conditional a _ cs) = eval_conditions u run cs (eval u run a)

  -- the last condition comes first
  pub eval_conditions : {n : _} → Under → Run → Row_of-Condition n → (World → Res Val) → World → Res Val
  eval_conditions u run no_condition guarded = guarded
  eval_conditions u run (with_condition c e more) guarded = eval_conditions u run more (under_condition u.host (eval u run c) guarded (eval u run e))

  -- from first to last
  pub eval_all : {n : _} → Under → Run → Row_of-Expr n → World → Res (List Val)
  eval_all u run no_expr = Good []
  eval_all u run (expr e more) = do v ← eval u run e; vs ← eval_all u run more; Good (v ∷ vs)

  -- each key before its value
  pub eval_pairs : {n : _} → Under → Run → Row_of-Pair n → World → Res (List (Val × Val))
  eval_pairs u run no_pair = Good []
  eval_pairs u run (with_pair k v more) = do x ← eval u run k; y ← eval u run v; xs ← eval_pairs u run more; Good ((x, y) ∷ xs)

  pub eval_argument : Under → Run → Argument → World → Res Val
  eval_argument u run (plain a) = eval u run a
  eval_argument u run (spread a) = eval u run a

  pub eval_arguments : {n : _} → Under → Run → Row_of-Argument n → World → Res (List Val)
  eval_arguments u run no_argument = Good []
  eval_arguments u run (argument a more) = do v ← eval_argument u run a; vs ← eval_arguments u run more; Good (v ∷ vs)

  -- after a row of values: each row becomes a list; a spread value counts as one; the keyword
  -- arguments are part of the last row
  pub eval_lists : {n : _} → Under → Run → List Val → Row_of-Argument n → (World → Res (List Val)) → World → Res (List Val)
  eval_lists u run row no_argument by_name = do ks ← by_name; listed (row ++ ks)
  eval_lists u run row (argument (plain a) more) by_name = do v ← eval u run a; eval_lists u run (row ++ v ∷ []) more by_name
  eval_lists u run row (argument (spread a) more) by_name = do
    ls ← listed row
    v ← eval u run a
    vs ← eval_lists u run [] more by_name
    Good (ls ++ v ∷ vs)

  -- after a row of names with their values, where each name is charged: each row becomes a map; a
  -- spread value counts as one; `end` ends the last row
  pub eval_keywords : {n : _} → Under → Run → RowValues → List (Val × Val) → Row_of-Keyword n → World → Res (List Val)
  eval_keywords u run end row no_keyword = end row
  eval_keywords u run end row (keyword_and (keyword x a) more) = do
    tick
    v ← eval u run a
    eval_keywords u run end (row ++ (text x false, v) ∷ []) more
  eval_keywords u run end row (keyword_and (spread_keywords a) more) = do
    ms ← mapped row
    v ← eval u run a
    ns ← eval_keywords u run end [] more
    Good (ms ++ v ∷ ns)

  -- a step after a value; `and` and `or` charge their test, and return the operand that was
  -- evaluated last
  pub eval_step : Under → Run → Step → Val → World → Res Val
  eval_step u run (Attribute x) v = do tick; attribute u.host v x
  eval_step u run (Apply' k x _ given _ named) v = do
    vs ← passed u.host (v ∷ []) given named (eval_arguments u run given) (eval_keywords u run mapped [] named) (eval_lists u run (v ∷ []) given)
    tick
    y ← asking u run (applied u.host k x vs)
    turned u.host k y
  eval_step u run (Called _ given _ named) v = do
    vs ← passed u.host (v ∷ []) given named (eval_arguments u run given) (eval_keywords u run mapped [] named) (eval_lists u run (v ∷ []) given)
    tick
    asking u run (call_callee u.host vs)
  eval_step u run (item a) v = do k ← eval u run a; tick; item_at u.host v k
  eval_step u run (slice a b c) v = do x ← eval u run a; y ← eval u run b; z ← eval u run c; tick; slice_of u.host v x y z
  eval_step u run (binary op a) v = do y ← eval u run a; tick; applied_binary u.host op v y
  eval_step u run (compare op a _ cs) v = do y ← eval u run a; eval_links u run op cs v y
  eval_step u run (and_then a) v = do tick; b ← truth u.host v; chosen b (eval u run a) (Good v)
  eval_step u run (or_else a) v = do tick; b ← truth u.host v; chosen b (Good v) (eval u run a)

  -- Chained comparisons, from the first. Each but the last charges its test. If it is false, it is
  -- the result, and dropping its right operand is charged. After the last one, its jump is charged.
  pub eval_links : {n : _} → Under → Run → BinaryOperator → Row_of-Comparison n → Val → Val → World → Res Val
  eval_links u run op no_comparison x y = do tick; v ← applied_binary u.host op x y; tick; Good v
  eval_links u run op (with_comparison op1 a more) x y = do
    tick
    v ← operated u.host op x y
    tick
    b ← truth u.host v
    chosen b (do z ← eval u run a; eval_links u run op1 more y z) (do tick; Good v)

  pub eval_steps : {n : _} → Under → Run → Row_of-Step n → Val → World → Res Val
  eval_steps u run no_step v = Good v
  eval_steps u run (step s ss) v = do x ← eval_step u run s v; eval_steps u run ss x

-- applies filters to a value, from left to right
abbrev pub filtered : Under → Run → List Step → Val → World → Res Val
filtered u run [] v = Good v
filtered u run (f ∷ more) v = do x ← eval_step u run f v; filtered u run more x

-- ---------------------------------------------------------------- targets
abbrev pub storing : List ℕ → Val → World → Res (Unit {0})
storing x v w = Good tt (store x v w)

-- binds a name to a value, which is charged
abbrev pub give : List ℕ → Val → World → Res (Unit {0})
give x v = do tick; storing x v

abbrev mutual
  pub assign : Under → Run → AssignmentTarget → Val → World → Res (Unit {0})
  assign u run (To x) v = give x v
  assign u run (Items _ ts) v = do tick; vs ← unpacked_items (count_targets ts) v; assign_all u run ts vs
  assign u run (Member e x) v = do o ← eval u run e; tick; set_member x v o

  -- assigns each value to its target; there are as many values as targets
  pub assign_all : {n : _} → Under → Run → Row_of-AssignmentTarget n → List Val → World → Res (Unit {0})
  assign_all u run no_target vs = Good tt
  assign_all u run (target t ts) [] = Good tt
  assign_all u run (target t ts) (v ∷ vs) = do assign u run t v; assign_all u run ts vs

-- a value, and then its target
abbrev pub set_to : Under → Run → AssignmentTarget → Expr → World → Res (Unit {0})
set_to u run t e = do v ← eval u run e; assign u run t v

abbrev pub set_each : Under → Run → List Assignment → World → Res (Unit {0})
set_each u run [] = Good tt
set_each u run (a ∷ more) = do set_to u run a.target a.value; set_each u run more

-- ---------------------------------------------------------------- includes and imports
-- Runs the template that a value names in place, which is charged, with a new scope if `apart`. It
-- may be missing if `missing`.
abbrev pub include : Under → Run → Bool → Expr → Bool → List ℕ → World → Outcome
include u run apart e missing out w =
    use_it (eval u run e w) run out (λ v world1.
    use_it (tick world1) run out (λ _ world2. in_place_of u run out (enter_include u.host apart v missing world2)))

-- Runs an existing template in a new scope, which stays open, inside a capture. The result is the
-- text that is heard.
abbrev pub included : Under → Run → Expr → World → Res (List ℕ)
included u run e w =
    bind (push u.host (plain_scope (undefined false)) w) (λ _ world1.
    let o = include u run false e false [] world1 in heard_after o.ending o)

-- Assigns the module of a template to a target.
abbrev pub import : Under → Run → Expr → AssignmentTarget → World → Res (Unit {0})
import u run e t w =
    bind (included u (capturing true run) e w) (λ x world1.
    ticked world1 (λ world2. assign u run t (module_of world2 x) (pop world2)))

-- Looks up each imported name, which is charged. Then the scope is closed, and the names are bound
-- from last to first.
abbrev pub give_each : HostValue → List Imported → World → Res (Unit {0})
give_each host [] w = Good tt (pop w)
give_each host (x ∷ xs) w =
    ticked w (λ world1. bind (looked_up host x.name world1) (λ v world2.
    bind (give_each host xs world2) (λ _ world3. give x.target v world3)))

-- The text of the template is dropped.
abbrev pub import_names : Under → Run → Expr → List Imported → World → Res (Unit {0})
import_names u run e xs w =
    bind (included u (capturing false run) e w) (λ _ world1. bind (give_each u.host xs world1) (λ _ world2. tick world2))

-- ---------------------------------------------------------------- macros
-- the closure of the innermost scope
abbrev pub own : World → Res (Option ℕ)
own w = Good (own_closure w.scopes.frames) w

-- adds each of the names to the closure, which is charged
abbrev pub enclose_each : HostValue → List (List ℕ) → World → Res (Unit {0})
enclose_each host [] = Good tt
enclose_each host (x ∷ xs) = do tick; enclose host x; enclose_each host xs

-- The macro with this number as a value. The jump over its body, each name in its closure, the
-- closure and the names of its parameters are charged.
abbrev pub declared : HostValue → ℕ → MacroHead → World → Res Val
declared host n m = do
  tick
  enclose_each host m.free
  tick
  closure ← own
  tick
  make_macro n closure m.name m.parameters m.caller

-- the value of an argument, or its default if it is undefined; the test is charged
abbrev pub or_default : Under → Run → Option Expr → Val → World → Res Val
or_default u run None v = Good v
or_default u run (Some e) v = do tick; tick; chosen (is_undefined v) (eval u run e) (Good v)

abbrev pub take_parameter : Under → Run → Parameter → Val → World → Res (Unit {0})
take_parameter u run p v = do x ← or_default u run p.default v; assign u run (To p.name) x

-- Binds the parameters to the arguments, from last to first. There are as many arguments as
-- parameters.
abbrev pub take_parameters : Under → Run → List Parameter → List Val → World → Res (Unit {0})
take_parameters u run [] vs = Good tt
take_parameters u run (p ∷ ps) [] = Good tt
take_parameters u run (p ∷ ps) (v ∷ vs) = do take_parameters u run ps vs; take_parameter u run p v

-- ---------------------------------------------------------------- calls with a macro as `caller`
-- after a row of names with their values: adds the macro with this number as `caller`
abbrev pub with_caller : HostValue → ℕ → MacroHead → RowValues
with_caller host n m row = do tick; v ← declared host n m; mapped (row ++ (text (codes "caller") false, v) ∷ [])

-- The arguments of a call, above the values `before`; `end` ends the keyword arguments.
abbrev pub passed_so : {n m : _} → Under → Run → RowValues → List Val → Row_of-Argument n → Row_of-Keyword m → World → Res (List Val)
passed_so u run end before given named =
    passed u.host before given named (eval_arguments u run given) (eval_keywords u run end [] named)
    (eval_lists u run before given)

-- calls a value with the end as its only argument
abbrev pub call_alone : Under → Run → RowValues → Val → World → Res Val
call_alone u run end v = do ks ← end []; tick; asking u run (call_callee u.host (v ∷ ks))

-- If the last step of a value is a call, the end is added to its arguments; otherwise the step's
-- value is called.
abbrev pub step_call : Under → Run → RowValues → Step → Val → World → Res Val
step_call u run end (Apply' k x _ given _ named) v = do
  vs ← passed_so u run end (v ∷ []) given named
  tick
  y ← asking u run (applied u.host k x vs)
  turned u.host k y
step_call u run end (Called _ given _ named) v = do
  vs ← passed_so u run end (v ∷ []) given named
  tick
  asking u run (call_callee u.host vs)
step_call u run end s v = do x ← eval_step u run s v; call_alone u run end x

abbrev pub steps_call : {n : _} → Under → Run → RowValues → Row_of-Step n → Val → World → Res Val
steps_call u run end no_step v = call_alone u run end v
steps_call u run end (step s no_step) v = step_call u run end s v
steps_call u run end (step s (step t more)) v = do x ← eval_step u run s v; steps_call u run end (step t more) x

-- If an expression is a call, the end is added to its arguments; otherwise its value is called.
abbrev pub call : Under → Run → RowValues → Expr → World → Res Val
call u run end (Call' f _ given _ named) = do
  vs ← passed_so u run end [] given named
  tick
  asking u run (call_named u.host f vs)
call u run end (chained a _ ss) = do v ← eval u run a; steps_call u run end ss v
call u run end e = do v ← eval u run e; call_alone u run end v

-- ---------------------------------------------------------------- statements
-- Closes what was opened around a body, however it ended, except after a fault.
abbrev pub closing_by : Ending → (World → World) → Outcome → Outcome
closing_by (fault chain) close o = o
closing_by e close o = record o { world = close o.world }

abbrev pub closing : (World → World) → Outcome → Outcome
closing close o = closing_by o.ending close o

-- A capture: continues with its text. After `break` or `continue` in its body, the text is dropped,
-- and the end of the capture is charged.
abbrev pub captured_by : Ending → Outcome → Run → List ℕ → (Run → List ℕ → World → Outcome) → Outcome
captured_by (done vs) o run out f = f run o.text o.world
captured_by (fault chain) o run out f = ended (fault chain) run out o.world
captured_by e o run out f = use_it (tick o.world) run out (λ _ world1. ended e run out world1)

abbrev pub captured : Outcome → Run → List ℕ → (Run → List ℕ → World → Outcome) → Outcome
captured o run out f = captured_by o.ending o (record run { parent = o.parent }) out f

-- emits a value, which is charged
abbrev pub emit : Under → Run → List ℕ → Val → World → Outcome
emit u run out v w =
    use_it (tick w) run out (λ _ world1. use_it (emitted u.host v world1) run out (λ t world2. so_far run (say run t out) world2))

-- what happens to the text of a capture
abbrev pub use_text : Under → Run → CaptureUse → Val → List ℕ → World → Outcome
use_text u run uses.Emit v out w = emit u run out v w
use_text u run (uses.Assign t) v out w = use_it (assign u run t v w) run out (λ _ world1. so_far run out world1)

-- after the first branch of an `if` with an else part
abbrev pub after_first : Otherwise → Run → Outcome → Outcome
after_first no_else run o = o
after_first (otherwise _ body) run o =
    then_do run o (λ run1 out1 world1. use_it (tick world1) run1 out1 (λ _ world2. so_far run1 out1 world2))

-- ---------------------------------------------------------------- loops
-- the end of a round, which is charged: the loop ends, or continues
abbrev pub round_end : Ending → Run → Outcome → (Run → List ℕ → World → Outcome) → Outcome
round_end (fault chain) run o f = o
round_end leave run o f = use_it (tick o.world) run o.text (λ _ world1. so_far run o.text (leave_loop world1))
round_end e run o f = use_it (tick o.world) run o.text (λ _ world1. f run o.text world1)

-- A round for each item: taking the item is charged, the names of the scope are dropped, and the
-- body runs. The loop ends when no item is left.
abbrev pub rounds : (Val → Run → List ℕ → World → Outcome) → List Val → Run → List ℕ → World → Outcome
rounds turn [] run out w = use_it (tick w) run out (λ _ world1. so_far run out (leave_loop (next_turn world1)))
rounds turn (v ∷ vs) run out w =
    use_it (tick w) run out (λ _ world1.
    let o = turn v run out (cleared (next_turn world1)) in
    round_end o.ending (record run { parent = o.parent }) o (λ run1 out1 world2. rounds turn vs run1 out1 world2))

abbrev pub loop_over : HostValue → ℕ → Bool → (Val → Run → List ℕ → World → Outcome) → List Val → Run → List ℕ → World → Outcome
loop_over host n recursive turn vs run out w =
    use_it (open_loop host vs (for_flags recursive) n w) run out (λ _ world1. rounds turn vs run out world1)

-- A count plus one, as a value: InvalidOperation if it exceeds the largest number.
abbrev pub incremented : ℕ → Answer Val
incremented n = if nat_lt (n + 1) (2 ^ 127) then Ok (number (pos (n + 1))) else invalid

-- The count of selected items plus one, after three charges.
abbrev pub one_counted : ℕ → World → Res Val
one_counted n w =
    ticked w (λ world1. ticked world1 (λ world2. ticked world2 (λ world3. answered (incremented n) world3)))

-- Selects the items whose condition is true, with n selected already. For each item, taking it is
-- charged, the names of the scope are dropped, and the condition is tested, which is charged. A
-- selected item is counted, and the jump back is charged. The loop ends when no item is left.
abbrev pub selected : HostValue → (Val → World → Res Val) → ℕ → List Val → World → Res (List Val)
selected host condition n [] w = ticked w (λ world1. Good [] (leave_loop (next_turn world1)))
selected host condition n (v ∷ vs) w =
    ticked w (λ world1. bind (condition v (cleared (next_turn world1))) (λ c world2.
    ticked world2 (λ world3. bind (truth host c world3) (λ b world4.
    choose b
    (λ _. bind (one_counted n world4) (λ _ world5. ticked world5 (λ world6.
    bind (selected host condition (n + 1) vs world6) (λ us world7. Good (v ∷ us) world7))))
    (λ _. ticked world4 (λ world5. selected host condition n vs world5))))))

-- the items of a loop; with a condition, the items that a preceding loop without `loop` selects
abbrev pub loop_items : Under → ℕ → Run → AssignmentTarget → Expr → Option Expr → World → Res (List Val)
loop_items u at run t e None w = bind (eval u run e w) (λ v world1. items_over u.host v world1)
loop_items u at run t e (Some c) w =
    ticked w (λ world1. bind (eval u run e world1) (λ v world2. bind (items_over u.host v world2) (λ vs world3.
    bind (open_loop u.host vs pass_flags at world3) (λ _ world4.
    bind (selected u.host (λ x world5. bind (assign u run t x world5) (λ _ world6. eval u run c world6)) 0 vs world4) (λ us world5.
    ticked world5 (λ world6. Good us world6))))))

abbrev pub has_none : List Val → Bool
has_none [] = true
has_none (v ∷ vs) = false

abbrev mutual
  pub exec : Under → Numbers → Stmt → Run → List ℕ → World → Outcome
  exec u at (EmitRaw t) run out w = use_it (tick w) run out (λ _ world1. so_far run (say run t out) world1)
  exec u at (EmitExpr e) run out w = use_it (eval u run e w) run out (λ v world1. emit u run out v world1)
  exec u at (EmitLoop e) run out w =
      use_it (eval u run e w) run out (λ v world1.
      use_it (tick world1) run out (λ _ world2. in_place_of u run out (call_innermost u.host v world2)))
  exec u at (If' c _ body other) run out w =
      use_it (eval u run c w) run out (λ v world1. use_it (tick world1) run out (λ _ world2.
      use_it (truth u.host v world2) run out (λ b world3.
      choose b (λ _. after_first other run (exec_all u at body run out world3)) (λ _. exec_else u (pasts at body) other run out world3))))
  exec u at (For' t e c recursive _ body other) run out w =
      use_it (loop_items u at.loops run t e c w) run out (λ vs world1.
      then_do run
      (loop_over u.host (at.loops + passes c) recursive (λ item run1 out1 world2.
      use_it (assign u run1 t item world2) run1 out1 (λ _ world3. exec_all u (within_loop c at) body run1 out1 world3))
      vs run out world1)
      (λ run1 out1 world2. exec_after_loop u (pasts (within_loop c at) body) other (has_none vs) run1 out1 world2))
  exec u at Break run out w = ended leave run out w
  exec u at Continue run out w = ended next run out w
  exec u at (Block' b required _ body) run out w = use_it (tick w) run out (λ _ world1. block_tag u run b out world1)
  exec u at (EmitBlock b) run out w = use_it (tick w) run out (λ _ world1. block_tag u run b out world1)
  exec u at EmitSuper run out w = use_it (tick w) run out (λ _ world1. in_place_of u run out (enter_super u.host world1))
  exec u at (Extends e) run out w =
      use_it (eval u run e w) run out (λ v world1.
      use_it (load u.host v run.parent run.inside world1) run out (λ t world2. so_far (record run { parent = Some t }) out world2))
  exec u at (Set t e) run out w = use_it (set_to u run t e w) run out (λ _ world1. so_far run out world1)
  exec u at (CaptureBlock' becomes filters _ body) run out w =
      captured (exec_all u at body (capturing true run) [] w) run out (λ run1 x world1.
      use_it (tick world1) run1 out (λ _ world2.
      use_it (filtered u run1 filters (captured_text x world2) world2) run1 out (λ v world3. use_text u run1 becomes v out world3)))
  exec u at (With' given _ body) run out w =
      use_it (push u.host (plain_scope (undefined false)) w) run out (λ _ world1.
      use_it (set_each u run given world1) run out (λ _ world2. closing pop (exec_all u at body run out world2)))
  exec u at (Do e) run out w = use_it (eval u run e w) run out (λ _ world1. so_far run out world1)
  exec u at (AutoEscape' e _ body) run out w =
      use_it (eval u run e w) run out (λ v world1.
      use_it (answered (escape_for run.first v) world1) run out (λ x world2.
      closing (with_escape world2.escape) (exec_all u at body run out (with_escape x world2))))
  exec u at (Macro' x ps _ body) run out w =
      use_it (declared u.host at.macros (macro_head x ps body) w) run out (λ v world1.
      use_it (assign u run (To x) v world1) run out (λ _ world2. so_far run out world2))
  exec u at (CallBlock' e ps _ body) run out w =
      use_it (call u run (with_caller u.host at.macros (macro_head (codes "caller") ps body)) e w) run out
      (λ v world1. emit u run out v world1)
  exec u at (Include e missing) run out w = include u run true e missing out w
  exec u at (Import e t) run out w = use_it (import u run e t w) run out (λ _ world1. so_far run out world1)
  exec u at (FromImport e xs) run out w = use_it (import_names u run e xs w) run out (λ _ world1. so_far run out world1)

  pub exec_all : {n : _} → Under → Numbers → Row_of-Stmt n → Run → List ℕ → World → Outcome
  exec_all u at no_statement run out w = so_far run out w
  exec_all u at (statement s ss) run out w =
      then_do run (exec u at s run out w) (λ run1 out1 world1. exec_all u (past at s) ss run1 out1 world1)

  pub exec_else : Under → Numbers → Otherwise → Run → List ℕ → World → Outcome
  exec_else u at no_else run out w = so_far run out w
  exec_else u at (otherwise _ body) run out w = exec_all u at body run out w

  -- the else part of a loop, after its test, which is charged
  pub exec_after_loop : Under → Numbers → Otherwise → Bool → Run → List ℕ → World → Outcome
  exec_after_loop u at no_else none_taken run out w = so_far run out w
  exec_after_loop u at (otherwise _ body) none_taken run out w =
      use_it (tick w) run out (λ _ world1. choose none_taken (λ _. exec_all u at body run out world1) (λ _. so_far run out world1))
