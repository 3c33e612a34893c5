-- The names that a tree reads before any open scope has assigned them, from one walk over the tree
-- in the order of its source. With `nested`, a name includes the attributes after it, such as
-- `a.b.c`.
use Rattle.std.specs.Prelude.{ℕ, List, [], ◌∷◌, ◌++◌, Option, Some, None, Bool, true, false, cond, ◌||◌, codes, is_some}
use Rattle.std.specs.List.{list_any}
use Rattle.std.specs.BTreeMap.{is_at}
use Rattle.std.specs.BTreeSet.{insert_key}
use Rattle.tm_syntax.specs.Named.{Named, find, name_cmp, put, same_name}
use Rattle.tm_syntax.specs.Forms.{unary, chained, conditional, with_condition, with_comparison, with_pair, plain, spread, keyword}
use Rattle.tm_syntax.specs.Forms.{spread_keywords, item, slice, binary, compare, and_then, or_else}
use Rattle.tm_syntax.specs.declared.tree.Application.{Application}
use Rattle.tm_syntax.specs.declared.tree.Application.TheVariants as applications
use Rattle.tm_syntax.specs.declared.tree.Expr.{Expr, Var, Const, List', Tuple', Map', Call', SelfBlock, Row_of-Expr}
use Rattle.tm_syntax.specs.declared.tree.Expr.{end_of-Expr as no_expr, more_of-Expr as expr, Row_of-Pair, end_of-Pair as no_pair}
use Rattle.tm_syntax.specs.declared.tree.Expr.{Row_of-Argument, end_of-Argument as no_argument, more_of-Argument as argument}
use Rattle.tm_syntax.specs.declared.tree.Expr.{Row_of-Keyword, end_of-Keyword as no_keyword, more_of-Keyword as keyword_and, Row_of-Step}
use Rattle.tm_syntax.specs.declared.tree.Expr.{end_of-Step as no_step, more_of-Step as step, Row_of-Condition}
use Rattle.tm_syntax.specs.declared.tree.Expr.{end_of-Condition as no_condition}
use Rattle.tm_syntax.specs.declared.tree.Argument.{Argument}
use Rattle.tm_syntax.specs.declared.tree.Keyword.{Keyword}
use Rattle.tm_syntax.specs.declared.tree.Step.{Step, Attribute, Apply', Call' as Called, Row_of-Comparison, end_of-Comparison as no_comparison}
use Rattle.tm_syntax.specs.declared.tree.AssignmentTarget.{AssignmentTarget, Name as To, Unpack' as Items, Attribute as Member}
use Rattle.tm_syntax.specs.declared.tree.AssignmentTarget.{Row_of-AssignmentTarget}
use Rattle.tm_syntax.specs.declared.tree.AssignmentTarget.{end_of-AssignmentTarget as no_target, more_of-AssignmentTarget as target}
use Rattle.tm_syntax.specs.declared.tree.Assignment.{Assignment}
use Rattle.tm_syntax.specs.declared.tree.Parameter.{Parameter}
use Rattle.tm_syntax.specs.declared.tree.Imported.{Imported}
use Rattle.tm_syntax.specs.declared.tree.CaptureUse.{CaptureUse}
use Rattle.tm_syntax.specs.declared.tree.CaptureUse.TheVariants as uses
use Rattle.tm_syntax.specs.declared.tree.Stmt.{Stmt, EmitRaw, EmitExpr, EmitLoop, EmitBlock, EmitSuper, If', For', Break, Continue, Block'}
use Rattle.tm_syntax.specs.declared.tree.Stmt.{Extends, Set, CaptureBlock', With', Do, AutoEscape', Macro', CallBlock', Row_of-Stmt}
use Rattle.tm_syntax.specs.declared.tree.Stmt.{Include, Import, FromImport}
use Rattle.tm_syntax.specs.declared.tree.Stmt.{end_of-Stmt as no_statement}
use Rattle.tm_syntax.specs.declared.tree.Stmt.{more_of-Stmt as statement, Held-Stmt-If-2 as Otherwise, None' as no_else}
use Rattle.tm_syntax.specs.declared.tree.Stmt.{Some' as otherwise}
use Rattle.tm_syntax.specs.declared.tree.Stmt.TheBlock.{hidden-the_row-Stmt-0 as row_of}
use Rattle.tm_syntax.specs.declared.tree.Tree.{Tree}
use Rattle.tm_syntax.specs.declared.tree.Tree.TheVariants as trees

-- ---------------------------------------------------------------- the state of a walk
-- the names that are assigned in a scope
abbrev pub Scope : Type 0
Scope = Named (Unit {0})

-- The open scopes, the innermost first, and the names found so far.
pub record Walk : Type 0 where
  pub assigned : List Scope
  pub found : List (List ℕ)

-- At the start, the tree's own scope is open, and nothing is found yet.
abbrev pub beginning : Walk
beginning = record { assigned = [] ∷ []; found = [] }

abbrev pub is_assigned : List ℕ → List Scope → Bool
is_assigned x [] = false
is_assigned x (scope ∷ outer) = is_some (find x scope) || is_assigned x outer

abbrev pub with_assigned : List ℕ → List Scope → List Scope
with_assigned x [] = put x tt [] ∷ []
with_assigned x (scope ∷ outer) = put x tt scope ∷ outer

-- assigns a name in the innermost scope
abbrev pub assign : List ℕ → Walk → Walk
assign x k = record k { assigned = with_assigned x k.assigned }

-- inserts a name into ordered names, unless it is there
abbrev pub with_name : List ℕ → List (List ℕ) → List (List ℕ)
with_name x names = cond (list_any (is_at (name_cmp x)) names) names (insert_key name_cmp names x)

-- Adds the text to the names that were found, unless an open scope has assigned x.
abbrev pub read_as : List ℕ → List ℕ → Walk → Walk
read_as x text k = cond (is_assigned x k.assigned) k (record k { found = with_name text k.found })

abbrev pub read : List ℕ → Walk → Walk
read x k = read_as x x k

-- Opens a scope. When it closes, its assignments are forgotten, but the names that were found stay.
abbrev pub open_scope : Walk → Walk
open_scope k = record k { assigned = [] ∷ k.assigned }

abbrev pub outer_of : List Scope → List Scope
outer_of [] = []
outer_of (scope ∷ outer) = outer

abbrev pub close_scope : Walk → Walk
close_scope k = record k { assigned = outer_of k.assigned }

-- ---------------------------------------------------------------- names in expressions
-- the function name of a call; `super` doesn't count as a name that is read
abbrev pub read_function : List ℕ → Walk → Walk
read_function f k = cond (same_name f (codes "super")) k (read f k)

abbrev pub name_of : Expr → Option (List ℕ)
name_of (Var x) = Some x
name_of _ = None

abbrev pub attribute_of : Step → Option (List ℕ)
attribute_of (Attribute x) = Some x
attribute_of _ = None

abbrev pub is_method : Application → Bool
is_method applications.Method = true
is_method applications.Filter = false
is_method applications.Test = false
is_method applications.NegatedTest = false

abbrev pub method_of : Step → Option (List ℕ)
method_of (Apply' kind x _ given _ named) = cond (is_method kind) (Some x) None
method_of _ = None

-- a name and an attribute of it
abbrev pub dot : List ℕ → List ℕ → List ℕ
dot x a = x ++ codes "." ++ a

abbrev pub with_member : Option (List ℕ) → List ℕ → List ℕ
with_member None x = x
with_member (Some a) x = dot x a

-- an attribute extends the name, and a method ends it
abbrev pub dotted_on : Option (List ℕ) → Option (List ℕ) → List ℕ → (List ℕ → List ℕ) → List ℕ
dotted_on (Some a) last x rest = rest (dot x a)
dotted_on None last x rest = with_member last x

-- a name with the attributes directly after it, and a method directly after these
abbrev pub dotted : {n : _} → List ℕ → Row_of-Step n → List ℕ
dotted x no_step = x
dotted x (step s more) = dotted_on (attribute_of s) (method_of s) x (λ y. dotted y more)

-- a name and the steps after it
abbrev pub read_chain : {n : _} → Bool → List ℕ → Row_of-Step n → Walk → Walk
read_chain nested x ss k = read_as x (cond nested (dotted x ss) x) k

-- the start of a chain: a name, or another expression, which was walked already
abbrev pub read_first : {n : _} → Bool → Option (List ℕ) → Row_of-Step n → Walk → Walk → Walk
read_first nested (Some x) ss k walked = read_chain nested x ss k
read_first nested None ss k walked = walked

abbrev mutual
  pub walk_expr : Bool → Expr → Walk → Walk
  walk_expr nested (Var x) k = read x k
  walk_expr nested (Const v) k = k
  walk_expr nested (List' _ es) k = walk_exprs nested es k
  walk_expr nested (Tuple' _ es) k = walk_exprs nested es k
  walk_expr nested (Map' _ ps) k = walk_pairs nested ps k
  walk_expr nested (Call' f _ given _ named) k = walk_keywords nested named (walk_arguments nested given (read_function f k))
  walk_expr nested (SelfBlock x) k = k
  walk_expr nested (unary op a) k = walk_expr nested a k
  walk_expr nested (chained a _ ss) k = walk_steps nested ss (read_first nested (name_of a) ss k (walk_expr nested a k))
  walk_expr nested (conditional a _ cs) k = walk_conditions nested cs (walk_expr nested a k)

  pub walk_exprs : {n : _} → Bool → Row_of-Expr n → Walk → Walk
  walk_exprs nested no_expr k = k
  walk_exprs nested (expr e more) k = walk_exprs nested more (walk_expr nested e k)

  pub walk_pairs : {n : _} → Bool → Row_of-Pair n → Walk → Walk
  walk_pairs nested no_pair k = k
  walk_pairs nested (with_pair a b more) k = walk_pairs nested more (walk_expr nested b (walk_expr nested a k))

  pub walk_argument : Bool → Argument → Walk → Walk
  walk_argument nested (plain a) k = walk_expr nested a k
  walk_argument nested (spread a) k = walk_expr nested a k

  pub walk_arguments : {n : _} → Bool → Row_of-Argument n → Walk → Walk
  walk_arguments nested no_argument k = k
  walk_arguments nested (argument a more) k = walk_arguments nested more (walk_argument nested a k)

  -- the name of an argument isn't read
  pub walk_keyword : Bool → Keyword → Walk → Walk
  walk_keyword nested (keyword x a) k = walk_expr nested a k
  walk_keyword nested (spread_keywords a) k = walk_expr nested a k

  pub walk_keywords : {n : _} → Bool → Row_of-Keyword n → Walk → Walk
  walk_keywords nested no_keyword k = k
  walk_keywords nested (keyword_and a more) k = walk_keywords nested more (walk_keyword nested a k)

  pub walk_conditions : {n : _} → Bool → Row_of-Condition n → Walk → Walk
  walk_conditions nested no_condition k = k
  walk_conditions nested (with_condition c e more) k = walk_conditions nested more (walk_expr nested e (walk_expr nested c k))

  pub walk_comparisons : {n : _} → Bool → Row_of-Comparison n → Walk → Walk
  walk_comparisons nested no_comparison k = k
  walk_comparisons nested (with_comparison op a more) k = walk_comparisons nested more (walk_expr nested a k)

  -- the names of attributes, methods, filters and tests aren't read
  pub walk_step : Bool → Step → Walk → Walk
  walk_step nested (Attribute x) k = k
  walk_step nested (item a) k = walk_expr nested a k
  walk_step nested (Apply' kind x _ given _ named) k = walk_keywords nested named (walk_arguments nested given k)
  walk_step nested (Called _ given _ named) k = walk_keywords nested named (walk_arguments nested given k)
  walk_step nested (slice a b c) k = walk_expr nested c (walk_expr nested b (walk_expr nested a k))
  walk_step nested (binary op a) k = walk_expr nested a k
  walk_step nested (compare op a _ cs) k = walk_comparisons nested cs (walk_expr nested a k)
  walk_step nested (and_then a) k = walk_expr nested a k
  walk_step nested (or_else a) k = walk_expr nested a k

  pub walk_steps : {n : _} → Bool → Row_of-Step n → Walk → Walk
  walk_steps nested no_step k = k
  walk_steps nested (step s more) k = walk_steps nested more (walk_step nested s k)

-- the filters of a block
abbrev pub walk_filters : Bool → List Step → Walk → Walk
walk_filters nested [] k = k
walk_filters nested (f ∷ more) k = walk_filters nested more (walk_step nested f k)

-- ---------------------------------------------------------------- assigned names
abbrev mutual
  pub walk_target : Bool → AssignmentTarget → Walk → Walk
  walk_target nested (To x) k = assign x k
  walk_target nested (Items _ ts) k = walk_targets nested ts k
  walk_target nested (Member e x) k = walk_expr nested e k

  pub walk_targets : {n : _} → Bool → Row_of-AssignmentTarget n → Walk → Walk
  walk_targets nested no_target k = k
  walk_targets nested (target t more) k = walk_targets nested more (walk_target nested t k)

-- a target, and then its value
abbrev pub walk_set : Bool → AssignmentTarget → Expr → Walk → Walk
walk_set nested t e k = walk_expr nested e (walk_target nested t k)

abbrev pub walk_assignments : Bool → List Assignment → Walk → Walk
walk_assignments nested [] k = k
walk_assignments nested (a ∷ more) k = walk_assignments nested more (walk_set nested a.target a.value k)

-- the target of a set block
abbrev pub walk_use : Bool → CaptureUse → Walk → Walk
walk_use nested uses.Emit k = k
walk_use nested (uses.Assign t) k = walk_target nested t k

-- ---------------------------------------------------------------- statements
-- an expression, if there is one
abbrev pub walk_condition : Bool → Option Expr → Walk → Walk
walk_condition nested None k = k
walk_condition nested (Some c) k = walk_expr nested c k

-- the parameters of a macro, each before its default
abbrev pub walk_parameters : Bool → List Parameter → Walk → Walk
walk_parameters nested [] k = k
walk_parameters nested (p ∷ more) k = walk_parameters nested more (walk_condition nested p.default (assign p.name k))

-- the imported names aren't read
abbrev pub walk_imports : List Imported → Walk → Walk
walk_imports [] k = k
walk_imports (x ∷ xs) k = walk_imports xs (assign x.target k)

-- the head of a loop, in the scope of the loop
abbrev pub walk_head : Bool → AssignmentTarget → Option Expr → Walk → Walk
walk_head nested t c k = assign (codes "loop") (walk_condition nested c (walk_target nested t k))

-- a statement, a list of statements, and an else part
abbrev mutual
  pub walk : Bool → Stmt → Walk → Walk
  walk nested (EmitRaw t) k = k
  walk nested (EmitExpr e) k = walk_expr nested e k
  walk nested (EmitLoop e) k = walk_expr nested e (read (codes "loop") k)
  walk nested (EmitBlock x) k = k
  walk nested EmitSuper k = k
  walk nested (If' c _ body other) k = walk_else nested other (walk_all nested body (walk_expr nested c k))
  walk nested (For' t e c recursive _ body other) k = walk_else nested other
      (close_scope (walk_all nested body (walk_head nested t c (open_scope (walk_expr nested e k)))))
  walk nested Break k = k
  walk nested Continue k = k
  walk nested (Block' x required _ body) k = close_scope (walk_all nested body (open_scope k))
  walk nested (Extends e) k = walk_expr nested e k
  walk nested (Set t e) k = walk_set nested t e k
  walk nested (CaptureBlock' u filters _ body) k = walk_all nested body (walk_filters nested filters (walk_use nested u k))
  walk nested (With' given _ body) k = close_scope (walk_all nested body (walk_assignments nested given (open_scope k)))
  walk nested (Do e) k = walk_expr nested e k
  walk nested (AutoEscape' e _ body) k = walk_all nested body (walk_expr nested e k)
  walk nested (Macro' x ps _ body) k = close_scope
      (walk_all nested body (walk_parameters nested ps (assign (codes "caller") (open_scope (assign x k)))))
  walk nested (CallBlock' e ps _ body) k = close_scope
      (walk_all nested body (walk_parameters nested ps (assign (codes "caller") (open_scope (walk_expr nested e k)))))
  walk nested (Include e missing) k = walk_expr nested e k
  walk nested (Import e t) k = walk_target nested t (walk_expr nested e k)
  walk nested (FromImport e xs) k = walk_imports xs (walk_expr nested e k)

  pub walk_all : {n : _} → Bool → Row_of-Stmt n → Walk → Walk
  walk_all nested no_statement k = k
  walk_all nested (statement s ss) k = walk_all nested ss (walk nested s k)

  pub walk_else : Bool → Otherwise → Walk → Walk
  walk_else nested no_else k = k
  walk_else nested (otherwise _ body) k = walk_all nested body k

-- the names that a stream's statements read, in order
abbrev pub undeclared : {n : _} → Bool → Row_of-Stmt n → List (List ℕ)
undeclared nested ss = (walk_all nested ss beginning).found

-- the names that a source's tree reads
abbrev pub undeclared_in : Bool → Tree → List (List ℕ)
undeclared_in nested (trees.Statements ss) = undeclared nested (row_of ss)
undeclared_in nested (trees.Expression e) = (walk_expr nested e beginning).found

-- ---------------------------------------------------------------- the names of a macro
-- the names that a macro reads, if it is walked alone
abbrev pub read_by : {n : _} → List Parameter → Row_of-Stmt n → List (List ℕ)
read_by ps body = (walk_all false body (walk_parameters false ps beginning)).found

abbrev pub is_among : List ℕ → List (List ℕ) → Bool
is_among x [] = false
is_among x (y ∷ ys) = same_name x y || is_among x ys

abbrev pub without : List ℕ → List (List ℕ) → List (List ℕ)
without x [] = []
without x (y ∷ ys) = cond (same_name x y) (without x ys) (y ∷ without x ys)

abbrev pub parameter_names : List Parameter → List (List ℕ)
parameter_names [] = []
parameter_names (p ∷ ps) = p.name ∷ parameter_names ps

-- The names in the closure of a macro: those that it reads, except `caller`.
abbrev pub free_names : {n : _} → List Parameter → Row_of-Stmt n → List (List ℕ)
free_names ps body = without (codes "caller") (read_by ps body)

-- A macro takes `caller` if it reads it, or has a parameter of that name.
abbrev pub takes_caller : {n : _} → List Parameter → Row_of-Stmt n → Bool
takes_caller ps body = is_among (codes "caller") (read_by ps body) || is_among (codes "caller") (parameter_names ps)
