-- What a walk assigns it assigns in the innermost scope, so that when that closes the scopes are open that were.
use Rattle.std.proofs.Common.{◌≡◌, ◌∙◌, ℕ, List, [], ◌∷◌, refl, ap}
use Rattle.std.specs.Prelude.{Option, Some, None, Bool, true, false, cond, codes}
use Rattle.tm_syntax.specs.Forms.{unary, chained, conditional, with_condition, with_comparison, with_pair, plain, spread, keyword}
use Rattle.tm_syntax.specs.Forms.{spread_keywords, item, slice, binary, compare, and_then, or_else}
use Rattle.tm_trees.specs.Trees.{Expr, Var, Const, List', Tuple', Map', Call', SelfBlock, Row_of-Expr, no_expr, expr, Row_of-Pair, no_pair}
use Rattle.tm_trees.specs.Trees.{Row_of-Argument, no_argument, argument, Row_of-Keyword, no_keyword, keyword_and, Row_of-Step, no_step, step}
use Rattle.tm_trees.specs.Trees.{Row_of-Condition, no_condition, Argument, Keyword, Step, Attribute, Apply', Called, Row_of-Comparison}
use Rattle.tm_trees.specs.Trees.{no_comparison, AssignmentTarget, To, Items, Member, Row_of-AssignmentTarget, no_target, target, Assignment}
use Rattle.tm_trees.specs.Trees.{Parameter, Imported, CaptureUse, Stmt, EmitLoop, If', For'}
use Rattle.tm_trees.specs.Trees.{Block', Set, CaptureBlock', With', AutoEscape', Macro', CallBlock', Row_of-Stmt}
use Rattle.tm_trees.specs.Trees.{Import, FromImport, no_statement, statement, Otherwise, no_else, otherwise}
use Rattle.tm_trees.specs.Trees.uses
use Rattle.tm_syntax.specs.Names.{Walk, Scope, assign, close_scope, name_of, open_scope, outer_of, read_as, read_chain, read_first}
use Rattle.tm_syntax.specs.Names.{dotted, is_assigned, with_assigned, with_name, read_function}
use Rattle.tm_syntax.specs.Names.{walk, walk_all, walk_argument, walk_arguments, walk_assignments, walk_comparisons, walk_condition}
use Rattle.tm_syntax.specs.Names.{walk_conditions, walk_else, walk_expr, walk_exprs, walk_filters, walk_head, walk_imports, walk_keyword}
use Rattle.tm_syntax.specs.Names.{walk_keywords}
use Rattle.tm_syntax.specs.Names.{walk_pairs, walk_parameters, walk_step, walk_steps, walk_target, walk_targets, walk_use}

-- ---------------------------------------------------------------- expressions assign nothing
either_stays : (b : Bool) (k j l : Walk) → j.assigned ≡ k.assigned → l.assigned ≡ k.assigned → (cond b j l).assigned ≡ k.assigned
either_stays true k j l p q = p
either_stays false k j l p q = q

read_stays : (x text : List ℕ) (k : Walk) → (read_as x text k).assigned ≡ k.assigned
read_stays x text k = either_stays (is_assigned x k.assigned) k k (record k { found = with_name text k.found }) refl refl

chain_stays : {n : _} → (d : Bool) (x : List ℕ) (ss : Row_of-Step n) (k : Walk) → (read_chain d x ss k).assigned ≡ k.assigned
chain_stays d x ss k = read_stays x (cond d (dotted x ss) x) k

function_stays : (f : List ℕ) (k : Walk) → (read_function f k).assigned ≡ k.assigned
function_stays f k = either_stays _ k k _ refl (read_stays f f k)

first_stays : {n : _} → (d : Bool) (o : Option (List ℕ)) (ss : Row_of-Step n) (k j : Walk) → j.assigned ≡ k.assigned →
    (read_first d o ss k j).assigned ≡ k.assigned
first_stays d (Some x) ss k j p = chain_stays d x ss k
first_stays d None ss k j p = p

mutual
  expr_stays : (d : Bool) (e : Expr) (k : Walk) → (walk_expr d e k).assigned ≡ k.assigned
  expr_stays d (Var x) k = read_stays x x k
  expr_stays d (Const v) k = refl
  expr_stays d (List' _ es) k = exprs_stay d es k
  expr_stays d (Tuple' _ es) k = exprs_stay d es k
  expr_stays d (Map' _ ps) k = pairs_stay d ps k
  expr_stays d (Call' f _ given _ named) k = keywords_stay d named _ ∙ arguments_stay d given _ ∙ function_stays f k
  expr_stays d (SelfBlock x) k = refl
  expr_stays d (unary op a) k = expr_stays d a k
  expr_stays d (chained a _ ss) k =
      steps_stay d ss _ ∙ first_stays d (name_of a) ss k (walk_expr d a k) (expr_stays d a k)
  expr_stays d (conditional a _ cs) k = conditions_stay d cs _ ∙ expr_stays d a k

  exprs_stay : {n : _} → (d : Bool) (es : Row_of-Expr n) (k : Walk) → (walk_exprs d es k).assigned ≡ k.assigned
  exprs_stay d no_expr k = refl
  exprs_stay d (expr e more) k = exprs_stay d more _ ∙ expr_stays d e k

  pairs_stay : {n : _} → (d : Bool) (ps : Row_of-Pair n) (k : Walk) → (walk_pairs d ps k).assigned ≡ k.assigned
  pairs_stay d no_pair k = refl
  pairs_stay d (with_pair a b more) k = pairs_stay d more _ ∙ expr_stays d b _ ∙ expr_stays d a k

  argument_stays : (d : Bool) (a : Argument) (k : Walk) → (walk_argument d a k).assigned ≡ k.assigned
  argument_stays d (plain a) k = expr_stays d a k
  argument_stays d (spread a) k = expr_stays d a k

  arguments_stay : {n : _} → (d : Bool) (es : Row_of-Argument n) (k : Walk) → (walk_arguments d es k).assigned ≡ k.assigned
  arguments_stay d no_argument k = refl
  arguments_stay d (argument a more) k = arguments_stay d more _ ∙ argument_stays d a k

  keyword_stays : (d : Bool) (a : Keyword) (k : Walk) → (walk_keyword d a k).assigned ≡ k.assigned
  keyword_stays d (keyword x a) k = expr_stays d a k
  keyword_stays d (spread_keywords a) k = expr_stays d a k

  keywords_stay : {n : _} → (d : Bool) (es : Row_of-Keyword n) (k : Walk) → (walk_keywords d es k).assigned ≡ k.assigned
  keywords_stay d no_keyword k = refl
  keywords_stay d (keyword_and a more) k = keywords_stay d more _ ∙ keyword_stays d a k

  conditions_stay : {n : _} → (d : Bool) (cs : Row_of-Condition n) (k : Walk) → (walk_conditions d cs k).assigned ≡ k.assigned
  conditions_stay d no_condition k = refl
  conditions_stay d (with_condition c e more) k = conditions_stay d more _ ∙ expr_stays d e _ ∙ expr_stays d c k

  comparisons_stay : {n : _} → (d : Bool) (cs : Row_of-Comparison n) (k : Walk) → (walk_comparisons d cs k).assigned ≡ k.assigned
  comparisons_stay d no_comparison k = refl
  comparisons_stay d (with_comparison op a more) k = comparisons_stay d more _ ∙ expr_stays d a k

  step_stays : (d : Bool) (s : Step) (k : Walk) → (walk_step d s k).assigned ≡ k.assigned
  step_stays d (Attribute x) k = refl
  step_stays d (item a) k = expr_stays d a k
  step_stays d (Apply' kind x _ given _ named) k = keywords_stay d named _ ∙ arguments_stay d given k
  step_stays d (Called _ given _ named) k = keywords_stay d named _ ∙ arguments_stay d given k
  step_stays d (slice a b c) k = expr_stays d c _ ∙ expr_stays d b _ ∙ expr_stays d a k
  step_stays d (binary op a) k = expr_stays d a k
  step_stays d (compare op a _ cs) k = comparisons_stay d cs _ ∙ expr_stays d a k
  step_stays d (and_then a) k = expr_stays d a k
  step_stays d (or_else a) k = expr_stays d a k

  steps_stay : {n : _} → (d : Bool) (ss : Row_of-Step n) (k : Walk) → (walk_steps d ss k).assigned ≡ k.assigned
  steps_stay d no_step k = refl
  steps_stay d (step s more) k = steps_stay d more _ ∙ step_stays d s k

filters_stay : (d : Bool) (fs : List Step) (k : Walk) → (walk_filters d fs k).assigned ≡ k.assigned
filters_stay d [] k = refl
filters_stay d (f ∷ more) k = filters_stay d more _ ∙ step_stays d f k

-- ---------------------------------------------------------------- targets and statements assign in the innermost scope
abbrev outer : Walk → List Scope
outer k = outer_of k.assigned

expr_within : (d : Bool) (e : Expr) (k : Walk) → outer (walk_expr d e k) ≡ outer k
expr_within d e k = ap outer_of (expr_stays d e k)

innermost : (x : List ℕ) (scopes : List Scope) → outer_of (with_assigned x scopes) ≡ outer_of scopes
innermost x [] = refl
innermost x (scope ∷ more) = refl

assign_within : (x : List ℕ) (k : Walk) → outer (assign x k) ≡ outer k
assign_within x k = innermost x k.assigned

mutual
  target_within : (d : Bool) (t : AssignmentTarget) (k : Walk) → outer (walk_target d t k) ≡ outer k
  target_within d (To x) k = assign_within x k
  target_within d (Items _ ts) k = targets_within d ts k
  target_within d (Member e x) k = expr_within d e k

  targets_within : {n : _} → (d : Bool) (ts : Row_of-AssignmentTarget n) (k : Walk) → outer (walk_targets d ts k) ≡ outer k
  targets_within d no_target k = refl
  targets_within d (target t more) k = targets_within d more _ ∙ target_within d t k

assignments_within : (d : Bool) (given : List Assignment) (k : Walk) → outer (walk_assignments d given k) ≡ outer k
assignments_within d [] k = refl
assignments_within d (a ∷ more) k = assignments_within d more _ ∙ expr_within d a.value _ ∙ target_within d a.target k

use_within : (d : Bool) (u : CaptureUse) (k : Walk) → outer (walk_use d u k) ≡ outer k
use_within d uses.Emit k = refl
use_within d (uses.Assign t) k = target_within d t k

condition_within : (d : Bool) (c : Option Expr) (k : Walk) → outer (walk_condition d c k) ≡ outer k
condition_within d None k = refl
condition_within d (Some c) k = expr_within d c k

parameters_within : (d : Bool) (ps : List Parameter) (k : Walk) → outer (walk_parameters d ps k) ≡ outer k
parameters_within d [] k = refl
parameters_within d (p ∷ more) k = parameters_within d more _ ∙ condition_within d p.default _ ∙ assign_within p.name k

imports_within : (xs : List Imported) (k : Walk) → outer (walk_imports xs k) ≡ outer k
imports_within [] k = refl
imports_within (x ∷ more) k = imports_within more _ ∙ assign_within x.target k

head_within : (d : Bool) (t : AssignmentTarget) (c : Option Expr) (k : Walk) → outer (walk_head d t c k) ≡ outer k
head_within d t c k =
    let first = walk_target d t k in
    assign_within (codes "loop") (walk_condition d c first) ∙ condition_within d c first ∙ target_within d t k

mutual
  walk_within : (d : Bool) (s : Stmt) (k : Walk) → outer (walk d s k) ≡ outer k
  walk_within d (EmitLoop e) k = expr_within d e _ ∙ ap outer_of (read_stays (codes "loop") (codes "loop") k)
  walk_within d (If' c _ body other) k = else_within d other _ ∙ all_within d body _ ∙ expr_within d c k
  walk_within d (For' t e c recursive _ body other) k =
      else_within d other _ ∙ ap outer_of (all_within d body _ ∙ head_within d t c _) ∙ expr_within d e k
  walk_within d (Block' x required _ body) k = ap outer_of (all_within d body (open_scope k))
  walk_within d (Set t e) k = expr_within d e _ ∙ target_within d t k
  walk_within d (CaptureBlock' u filters _ body) k =
      all_within d body _ ∙ ap outer_of (filters_stay d filters _) ∙ use_within d u k
  walk_within d (With' given _ body) k = ap outer_of (all_within d body _ ∙ assignments_within d given (open_scope k))
  walk_within d (AutoEscape' e _ body) k = all_within d body _ ∙ expr_within d e k
  walk_within d (Macro' x ps _ body) k = ap outer_of (all_within d body _ ∙ parameters_within d ps _
      ∙ assign_within (codes "caller") (open_scope (assign x k))) ∙ assign_within x k
  walk_within d (CallBlock' e ps _ body) k = ap outer_of (all_within d body _ ∙ parameters_within d ps _
      ∙ assign_within (codes "caller") (open_scope (walk_expr d e k))) ∙ expr_within d e k
  walk_within d (Import e t) k = target_within d t _ ∙ expr_within d e k
  walk_within d (FromImport e xs) k = imports_within xs _ ∙ expr_within d e k
  walk_within d _ k = search (expr_within, refl)

  all_within : {n : _} → (d : Bool) (ss : Row_of-Stmt n) (k : Walk) → outer (walk_all d ss k) ≡ outer k
  all_within d no_statement k = refl
  all_within d (statement s ss) k = all_within d ss _ ∙ walk_within d s k

  else_within : (d : Bool) (other : Otherwise) (k : Walk) → outer (walk_else d other k) ≡ outer k
  else_within d no_else k = refl
  else_within d (otherwise _ body) k = all_within d body k

-- after statements in a scope of their own the scopes are open that were
pub scope_forgets : {n : _} → (d : Bool) (ss : Row_of-Stmt n) (k : Walk) →
    (close_scope (walk_all d ss (open_scope k))).assigned ≡ k.assigned
scope_forgets d ss k = all_within d ss (open_scope k)
