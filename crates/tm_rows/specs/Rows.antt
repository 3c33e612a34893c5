-- Worked renders: their meaning, and the run of their code on the machine.
use Rattle.std.specs.Prelude.{◌≡◌, ℕ, ◌-◌, List, [], ◌∷◌, map as each, Option, Some, None, Bool, true, false, codes, pos, Ok}
use Rattle.tm_values.specs.Answer.{Answer}
use Rattle.tm_values.specs.Val.{Val, undefined, boolean, number, text, map, pairs_of}
use Rattle.tm_values.specs.declared.error.ErrorKind.{ErrorKind}
use Rattle.tm_values.specs.declared.error.ErrorKind.TheVariants as kind
use Rattle.tm_values.specs.declared.escape.AutoEscape.{AutoEscape}
use Rattle.tm_values.specs.declared.escape.AutoEscape.TheVariants as escapes
use Rattle.tm_values.specs.declared.undefined.UndefinedBehavior.{UndefinedBehavior}
use Rattle.tm_values.specs.declared.undefined.UndefinedBehavior.TheVariants.{Lenient}
use Rattle.tm_trees.specs.Trees.unaries
use Rattle.tm_trees.specs.Trees.binaries
use Rattle.tm_trees.specs.Trees.{Expr, Var, Const, List', Tuple', Call', no_expr, expr, no_argument, no_keyword, no_step, step, no_condition, Step}
use Rattle.tm_trees.specs.Trees.{Attribute, no_comparison, AssignmentTarget, To, Items, Member, no_target, target, Assignment, CaptureUse, Stmt}
use Rattle.tm_trees.specs.Trees.{EmitRaw, EmitExpr, If', Block', Set, CaptureBlock', With', AutoEscape', no_statement, statement, Otherwise, no_else}
use Rattle.tm_trees.specs.Trees.{otherwise}
use Rattle.tm_trees.specs.Trees.uses
use Rattle.tm_syntax.specs.Forms.{unary, chained, conditional, with_condition, with_comparison, binary, compare, and_then, or_else}
use Rattle.tm_meaning.specs.Compiled.{code_of}
use Rattle.tm_meaning.specs.declared.stream.TemplateId.TheVariants.{Own as own}
use Rattle.tm_meaning.specs.World.{Bindings, find_name, view_of, World, HostValue, Function, Named, Object, Fallback, Format}
use Rattle.tm_meaning.specs.World.{fuel_levels, Template}
use Rattle.tm_meaning.specs.Calls.{whole}
use Rattle.tm_meaning.specs.Tree.{Body, body_of, StreamTree, statements, TemplateTree, Trees, template_of, trees_of}
use Rattle.tm_meaning.specs.Runs.{rendered, first_world, chain_of}
use Rattle.tm_meaning.specs.Machine.{Program, Finished, Failed, Stuck, End, base_of}
use Rattle.tm_meaning.specs.Steps.{Final, begins, run_for}

-- ---------------------------------------------------------------- a page and its renders
pub record Page : Type 0 where
  pub name : List ℕ
  pub escape : AutoEscape
  pub root : StreamTree
  pub templates : Named TemplateTree
  pub context : Val
  pub globals : Bindings
  pub functions : List Function
  pub filters : Named Object
  pub tests : Named Object
  pub join : List ℕ → List ℕ → Answer (List ℕ)
  pub formatter : Option Format
  pub unknown_method : Option Fallback
  pub undefined : UndefinedBehavior
  pub limit : ℕ

abbrev pub page : Body → Val → Page
page body context = record {
  name = codes "page";
  escape = escapes.None;
  root = statements body;
  templates = [];
  context = context;
  globals = [];
  functions = [];
  filters = [];
  tests = [];
  join = λ x parent. Ok x;
  formatter = None;
  unknown_method = None;
  undefined = Lenient;
  limit = 500;
}

abbrev pub tree_of : Page → TemplateTree
tree_of p = record { name = p.name; escape = p.escape; root = p.root }

abbrev pub with_template : List ℕ × TemplateTree → List ℕ × Template
with_template t = (t.0, template_of t.1)

abbrev pub host_of : Page → HostValue
host_of p = record {
  own = template_of (tree_of p);
  templates = each with_template p.templates;
  globals = p.globals;
  functions = p.functions;
  filters = p.filters;
  tests = p.tests;
  join = p.join;
  formatter = p.formatter;
  unknown_method = p.unknown_method;
  undefined = p.undefined;
  limit = p.limit;
}

abbrev pub trees : Page → Trees
trees p = trees_of (tree_of p) p.templates

abbrev pub world_of : Page → Option ℕ → World
world_of p fuel = first_world (host_of p) own 0 fuel p.context

abbrev pub program_of : Page → Program
program_of p = record { host = host_of p; code = λ s. code_of (trees p s) }

-- The text that was heard, the fuel that is left, and the chain of kinds.
pub record Said : Type 0 where
  pub text : List ℕ
  pub fuel : ℕ
  pub chain : List ErrorKind

abbrev pub said : List ℕ → ℕ → List ErrorKind → Said
said t n chain = record { text = t; fuel = n; chain = chain }

-- from a world
abbrev pub meant_from : Page → World → Said
meant_from p w = let o = rendered (host_of p) (trees p) w in said o.text o.world.fuel (chain_of o)

abbrev pub meant : Page → Option ℕ → Said
meant p fuel = meant_from p (world_of p fuel)

abbrev pub said_at : List ℕ → End → Said
said_at t (Finished vs ks w) = said t w.fuel []
said_at t (Failed chain w) = said t w.fuel chain
said_at t (Stuck w) = said t w.fuel (kind.BadStream ∷ [])

abbrev pub said_by : Option Final → Said
said_by None = said [] 0 []
said_by (Some o) = said_at o.text o.end

-- how the page's code ends
abbrev pub ended_from : Page → World → Option Final
ended_from p w =
    let f = base_of true [] w in
    run_for 1000 (program_of p) f [] (begins (program_of p) f (whole w.stream) [] w)

abbrev pub ended : Page → Option ℕ → Option Final
ended p fuel = ended_from p (world_of p fuel)

abbrev pub ran : Page → Option ℕ → Said
ran p fuel = said_by (ended p fuel)

-- What the page means with this fuel, and the result of its code.
abbrev pub Says : Page → ℕ → List ℕ → ℕ → List ErrorKind → Type 0
Says p fuel t left chain = (meant p (Some fuel) ≡ said t left chain) × (ran p (Some fuel) ≡ said t left chain)

-- the fuel that pays for exactly this many charges
abbrev pub fuel_for : ℕ → ℕ
fuel_for charges = charges

-- The page pays exactly these charges and writes this text.
abbrev pub Pays : Page → ℕ → List ℕ → Type 0
Pays p charges t = Says p (fuel_for charges) t 0 []

-- The page pays these charges, writes this text, and stops because no fuel is left for the next
-- charge.
abbrev pub StopsAt : Page → ℕ → List ℕ → Type 0
StopsAt p charges t = Says p (fuel_for charges) t 0 (kind.OutOfFuel ∷ [])

-- The same for each of these numbers of charges.
abbrev pub StopsAtEach : Page → List ℕ → List ℕ → Type 0
StopsAtEach p charges t =
    (each (λ n. meant p (Some (fuel_for n))) charges ≡ each (λ n. said t 0 (kind.OutOfFuel ∷ [])) charges)
    × (each (λ n. ran p (Some (fuel_for n))) charges ≡ each (λ n. said t 0 (kind.OutOfFuel ∷ [])) charges)

-- The page writes this text and pays this many charges, with fuel to spare.
abbrev pub Charges : Page → List ℕ → ℕ → Type 0
Charges p t charges = Says p 1000 t (1000 - charges) []

-- The page fails with this chain after this text and this many charges, with fuel to spare.
abbrev pub FailsAfter : Page → List ℕ → List ErrorKind → ℕ → Type 0
FailsAfter p t chain charges = Says p 1000 t (1000 - charges) chain

abbrev pub Fails : Page → List ℕ → List ErrorKind → Type 0
Fails p t chain = ((meant p None).text ≡ t) × ((meant p None).chain ≡ chain) × ((ran p None).text ≡ t) × ((ran p None).chain ≡ chain)

-- the world after the page, by its meaning and by its code
abbrev pub left_at : End → World
left_at (Finished vs ks w) = w
left_at (Failed chain w) = w
left_at (Stuck w) = w

abbrev pub left_by : Option Final → World → World
left_by None w = w
left_by (Some o) w = left_at o.end

abbrev pub After : (World → Type 0) → Page → Type 0
After Holds p = Holds (rendered (host_of p) (trees p) (world_of p None)).world × Holds (left_by (ended p None) (world_of p None))

-- the values kept after it
abbrev pub LeavesNames : Page → Bindings → Type 0
LeavesNames p temps = After (λ w. w.temps ≡ temps) p

-- a name that isn't found after it
abbrev pub Lacks : Page → List ℕ → Type 0
Lacks p x = After (λ w. find_name (view_of (host_of p) w) x ≡ Ok None) p

-- the fuel consumed and the fuel left, of the fuel that was set
abbrev pub Spends : Page → ℕ → Option (ℕ × ℕ) → Type 0
Spends p fuel levels = fuel_levels (rendered (host_of p) (trees p) (world_of p (Some fuel))).world ≡ levels

-- the scopes, stream, block and escape after it are those before it
abbrev pub Restores : Page → Type 0
Restores p =
    let old = world_of p None in
    After (λ w. (w.scopes ≡ old.scopes) × (w.stream ≡ old.stream) × (w.block ≡ old.block) × (w.escape ≡ old.escape)) p

-- the same without a fault
abbrev pub Shows : Page → List ℕ → Type 0
Shows p t = Fails p t []

-- ---------------------------------------------------------------- contexts
abbrev pub nothing : Val
nothing = undefined false

abbrev pub with_value : List ℕ → Val → Val
with_value key value = map (pairs_of ((text key false, value) ∷ []))

-- ---------------------------------------------------------------- trees
abbrev pub raw : List ℕ → Stmt
raw t = EmitRaw t

abbrev pub named : List ℕ → Expr
named x = Var x

abbrev pub one : Stmt → Body
one s = body_of (statement s no_statement)

abbrev pub two : Stmt → Stmt → Body
two s t = body_of (statement s (statement t no_statement))

abbrev pub literal : List ℕ → Expr
literal t = Const (text t false)

abbrev pub a : Expr
a = named (codes "a")

abbrev pub b : Expr
b = named (codes "b")

-- an empty template, like `{# c #}`
abbrev pub empty : Page
empty = page (body_of no_statement) nothing

-- text alone
abbrev pub text_alone : List ℕ → Page
text_alone t = page (one (raw t)) nothing

-- {{ a }}{{ b }}
abbrev pub two_names : Page
two_names = page (two (EmitExpr a) (EmitExpr b)) (map (pairs_of ((text (codes "a") false, text (codes "A") false) ∷
    (text (codes "b") false, text (codes "B") false) ∷ [])))

-- the same with an undefined b
abbrev pub one_name : Page
one_name = page (two (EmitExpr a) (EmitExpr b)) (with_value (codes "a") (text (codes "x") false))

-- Hello {{ name }}!
abbrev pub hello : Page
hello = page (body_of (statement (raw (codes "Hello ")) (statement (EmitExpr (named (codes "name")))
    (statement (raw (codes "!")) no_statement)))) (with_value (codes "name") (text (codes "World") false))

abbrev pub else_one : Stmt → Otherwise
else_one s = otherwise (tt ∷ []) (statement s no_statement)

abbrev pub if_one : Expr → Stmt → Otherwise → Stmt
if_one c s other = If' c (tt ∷ []) (statement s no_statement) other

-- {% if a %}x{% else %}y{% endif %}
abbrev pub either_text : Val → Page
either_text context = page (one (if_one a (raw (codes "x")) (else_one (raw (codes "y"))))) context

-- {% if a %}1{% elif b %}2{% else %}3{% endif %}
abbrev pub of_three : Val → Page
of_three context = page (one (if_one a (raw (codes "1")) (else_one (if_one b (raw (codes "2")) (else_one (raw (codes "3"))))))) context

-- {% if a %}{% endif %}
abbrev pub empty_condition : Page
empty_condition = page (one (If' a [] no_statement no_else)) nothing

abbrev pub shown : Expr → Val → Page
shown e context = page (one (EmitExpr e)) context

abbrev pub and_one : Expr → Step → Expr
and_one e s = chained e (tt ∷ []) (step s no_step)

-- {{ a and b.c }}
abbrev pub a_and_b_c : Expr
a_and_b_c = and_one a (and_then (and_one b (Attribute (codes "c"))))

-- {{ a or "x" }}
abbrev pub a_or_x : Expr
a_or_x = and_one a (or_else (literal (codes "x")))

-- {{ not a == b }}
abbrev pub not_equal : Expr
not_equal = unary unaries.Not (and_one a (binary binaries.Equal b))

-- {{ a.b }}
abbrev pub a_b : Expr
a_b = and_one a (Attribute (codes "b"))

abbrev pub literal_number : ℕ → Expr
literal_number n = Const (number (pos n))

abbrev pub literal_truth : Bool → Expr
literal_truth truth = Const (boolean truth)

-- {{ x < y < z }}
abbrev pub three_in_a_row : ℕ → ℕ → ℕ → Expr
three_in_a_row x y z =
    and_one (literal_number x)
    (compare binaries.Less (literal_number y) (tt ∷ []) (with_comparison binaries.Less (literal_number z) no_comparison))

-- {{ 1 < 2 < 3 < 0 < nope.x }}
abbrev pub false_before_fault : Expr
false_before_fault =
    and_one (literal_number 1)
    (compare binaries.Less (literal_number 2) (tt ∷ tt ∷ tt ∷ [])
    (with_comparison binaries.Less (literal_number 3)
    (with_comparison binaries.Less (literal_number 0)
    (with_comparison binaries.Less (and_one (named (codes "nope")) (Attribute (codes "x"))) no_comparison))))

-- the value of an `if` without `else` whose condition is false
abbrev pub no_value : Expr
no_value = Const (undefined true)

-- {{ 1 if truth else other }}
abbrev pub one_condition : Bool → Expr → Expr
one_condition truth other =
    conditional (literal_number 1) (tt ∷ []) (with_condition (literal_truth truth) other no_condition)

-- {{ 1 if first if second else 2 }}
abbrev pub two_conditions : Bool → Bool → Expr
two_conditions first second =
    conditional (literal_number 1) (tt ∷ tt ∷ [])
    (with_condition (literal_truth first) no_value
    (with_condition (literal_truth second) (literal_number 2) no_condition))

abbrev pub given : AssignmentTarget → Expr → Assignment
given t e = record { target = t; value = e }

-- {% block b %}x{{ a }}{% endblock %}y
abbrev pub block_of_two : Stmt
block_of_two = Block' (codes "b") false (tt ∷ tt ∷ []) (statement (raw (codes "x")) (statement (EmitExpr a) no_statement))

abbrev pub in_block : ℕ → Page
in_block limit = record (page (two block_of_two (raw (codes "y"))) nothing) { limit = limit }

-- {% if a %}{% block b %}x{% endblock %}{% endif %}[
abbrev pub block_not_reached : Page
block_not_reached = page (two (if_one a (Block' (codes "b") false (tt ∷ []) (statement (raw (codes "x")) no_statement)) no_else)
    (raw (codes "["))) nothing

-- x{% block b %}{% autoescape "html" %}{% with a = 1 %}{{ nope() }}{% endwith %}{% endautoescape %}{% endblock %}
abbrev pub fault_in_block : Page
fault_in_block =
    let fault = statement (EmitExpr (Call' (codes "nope") [] no_argument [] no_keyword)) no_statement in
    let scoped = With' (given (To (codes "a")) (literal_number 1) ∷ []) (tt ∷ []) fault in
    let escaped = AutoEscape' (literal (codes "html")) (tt ∷ []) (statement scoped no_statement) in
    page (two (raw (codes "x")) (Block' (codes "b") false (tt ∷ []) (statement escaped no_statement))) nothing

-- {% with a = 1, b = a %}{{ b }}{% endwith %}{{ b }}
abbrev pub with_two : Page
with_two =
    page (two
    (With' (given (To (codes "a")) (literal_number 1) ∷ given (To (codes "b")) a ∷ []) (tt ∷ []) (statement (EmitExpr b) no_statement))
    (EmitExpr b)) nothing

-- {% with %}{% endwith %}
abbrev pub empty_with : ℕ → Page
empty_with limit = record (page (one (With' [] [] no_statement)) nothing) { limit = limit }

abbrev pub to_a_and_b : AssignmentTarget
to_a_and_b = Items (tt ∷ tt ∷ []) (target (To (codes "a")) (target (To (codes "b")) no_target))

-- {% set a, b = 1, 2 %}{{ a }}{{ b }}
abbrev pub set_two : Page
set_two =
    page (body_of
    (statement (Set to_a_and_b (Tuple' (tt ∷ tt ∷ []) (expr (literal_number 1) (expr (literal_number 2) no_expr))))
    (statement (EmitExpr a) (statement (EmitExpr b) no_statement)))) nothing

-- {% set a, b = [1] %}
abbrev pub set_two_of_one : Page
set_two_of_one = page (one (Set to_a_and_b (List' (tt ∷ []) (expr (literal_number 1) no_expr)))) nothing

-- {% set a.b = 1 %}
abbrev pub set_attribute : Page
set_attribute = page (one (Set (Member a (codes "b")) (literal_number 1))) nothing

-- ---------------------------------------------------------------- captures and escapes
abbrev pub to_x : CaptureUse
to_x = uses.Assign (To (codes "x"))

abbrev pub set_text : List ℕ → Stmt
set_text t = CaptureBlock' to_x [] (tt ∷ []) (statement (raw t) no_statement)

abbrev pub x : Expr
x = named (codes "x")

-- {% set x %}a{{ 1 }}{% endset %}{{ x }}
abbrev pub set_block : Page
set_block = page (two (CaptureBlock' to_x [] (tt ∷ tt ∷ []) (statement (raw (codes "a"))
    (statement (EmitExpr (literal_number 1)) no_statement))) (EmitExpr x)) nothing

-- {% autoescape e %}{% set x %}<{% endset %}{% endautoescape %}{% autoescape "html" %}{{ x }}{% endautoescape %}
abbrev pub set_under : Expr → Page
set_under e =
    page (two
    (AutoEscape' e (tt ∷ []) (statement (set_text (codes "<")) no_statement))
    (AutoEscape' (literal (codes "html")) (tt ∷ []) (statement (EmitExpr x) no_statement))) nothing

-- {% autoescape e %}{{ "<" }}{% endautoescape %}{{ "<" }}
abbrev pub escaped_by : Expr → Page
escaped_by e =
    page (two (AutoEscape' e (tt ∷ []) (statement (EmitExpr (literal (codes "<"))) no_statement)) (EmitExpr (literal (codes "<")))) nothing

-- b{% set x %}a{{ nope() }}{% endset %}
abbrev pub fault_in_capture : Page
fault_in_capture = page (two (raw (codes "b")) (CaptureBlock' to_x [] (tt ∷ tt ∷ [])
    (statement (raw (codes "a")) (statement (EmitExpr (Call' (codes "nope") [] no_argument [] no_keyword)) no_statement)))) nothing

-- {% set a, b %}1{% endset %}
abbrev pub set_block_of_two : Page
set_block_of_two = page (one (CaptureBlock' (uses.Assign to_a_and_b) [] (tt ∷ []) (statement (raw (codes "1")) no_statement))) nothing
