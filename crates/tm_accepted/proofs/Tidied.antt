-- The code of trees is tidy.
use Rattle.std.proofs.Common.{◌≡◌, ℕ, zero, suc, ◌+◌, List, [], ◌∷◌, Option, Some, None, Bool, true, false, refl}
use Rattle.std.specs.Prelude.{pos, codes}
use Rattle.tm_values.specs.Val.{number, text}
use Rattle.tm_trees.specs.Trees.{UnaryOperator, BinaryOperator, Application, Expr, Var, Const, List', Tuple', Map', Call', SelfBlock, Row_of-Expr}
use Rattle.tm_trees.specs.Trees.{no_expr, expr, Row_of-Pair, no_pair, Row_of-Argument, no_argument, argument, Row_of-Keyword, no_keyword}
use Rattle.tm_trees.specs.Trees.{keyword_and, Row_of-Step, no_step, step, Row_of-Condition, no_condition, Argument, Keyword, Step, Attribute, Apply'}
use Rattle.tm_trees.specs.Trees.{Called, Row_of-Comparison, no_comparison, AssignmentTarget, To, Items, Member, Row_of-AssignmentTarget, no_target}
use Rattle.tm_trees.specs.Trees.{target, Assignment, Parameter, Imported, CaptureUse, Stmt, EmitRaw, EmitExpr, EmitLoop, EmitBlock, EmitSuper, If'}
use Rattle.tm_trees.specs.Trees.{For', Break, Continue, Block', Extends, Set, CaptureBlock', With', Do, AutoEscape', Macro', CallBlock', Row_of-Stmt}
use Rattle.tm_trees.specs.Trees.{Include, Import, FromImport, no_statement, statement, Otherwise, no_else, otherwise}
use Rattle.tm_trees.specs.Trees.unaries
use Rattle.tm_trees.specs.Trees.binaries
use Rattle.tm_trees.specs.Trees.applications
use Rattle.tm_trees.specs.Trees.uses
use Rattle.tm_trees.specs.Instructions.{Instruction}
use Rattle.tm_trees.specs.Instructions.instructions as i
use Rattle.tm_trees.specs.Instructions.modes.{Capture, Discard}
use Rattle.tm_syntax.specs.declared.opened.Opened.{Opened}
use Rattle.tm_syntax.specs.declared.opened.Opened.TheVariants.{Scope as a_scope, Escape as an_escape, Capture as a_capture}
use Rattle.tm_syntax.specs.Forms.{unary, chained, conditional, with_condition, with_comparison, with_pair, plain, spread, keyword}
use Rattle.tm_syntax.specs.Forms.{spread_keywords, item, slice, binary, compare, and_then, or_else}
use Rattle.tm_syntax.specs.Code.{unary_code, binary_code, application_code, list_of_row, map_of_row, row_after, count_lists}
use Rattle.tm_syntax.specs.Code.{has_spread, has_spread_keyword, keywords_after, RowEnd, row_end, caller_end, count_maps, merged_code, together}
use Rattle.tm_syntax.specs.Code.{passed_count, merging, passing_by, passing, count_exprs, count_pairs, expr_code, conditions_code}
use Rattle.tm_syntax.specs.Code.{exprs_code, pairs_code, argument_code, arguments_code}
use Rattle.tm_syntax.specs.Code.{listed_code, lists_code, keyword_code, keywords_code, step_code}
use Rattle.tm_syntax.specs.Code.{links_code, steps_code, passing_code, called_alone, step_call_code, steps_call_code, call_code, count_targets}
use Rattle.tm_syntax.specs.Code.{target_code, targets_code, set_code, assignments_code}
use Rattle.tm_syntax.specs.Code.{filters_code, use_code, included_code, lookups_code, stores_code}
use Rattle.tm_syntax.specs.Code.{close_all, iterable_code, default_code, parameters_code, macro_head, statement_code}
use Rattle.tm_syntax.specs.Code.{statements_code, branches_code, after_loop_code}
use Rattle.tm_syntax.specs.Fragments.{Fragment, straight, ◌⨾◌, either, declares}
use Rattle.tm_syntax.specs.Blocks.{StreamTree, statements, expression, fragment_of}
use Rattle.tm_accepted.proofs.Chunks.{Tidy, TidyBy, all_plain, plain_chunks, drops_tidy, joins_tidy}

-- The code of an expression is tidy also where no macro may be declared.
module _ (macros : Bool) where
  -- one plain instruction
  one : (x : Instruction) → all_plain (x ∷ []) ≡ true → TidyBy macros (straight (x ∷ []))
  one x h = plain_chunks (x ∷ []) h

  no_code : TidyBy macros (straight [])
  no_code = plain_chunks [] refl

  application_plain : (k : Application) (x : List ℕ) (n : Option ℕ) → all_plain (application_code k x n) ≡ true
  application_plain applications.Method x n = refl
  application_plain applications.Filter x n = refl
  application_plain applications.Test x n = refl
  application_plain applications.NegatedTest x n = refl

  application_tidy : (k : Application) (x : List ℕ) (n : Option ℕ) → TidyBy macros (straight (application_code k x n))
  application_tidy k x n = plain_chunks (application_code k x n) (application_plain k x n)

  unary_tidy : (op : UnaryOperator) → TidyBy macros (straight (unary_code op ∷ []))
  unary_tidy unaries.Not = one i.Not refl
  unary_tidy unaries.Negate = one i.Neg refl

  binary_plain : (op : BinaryOperator) → all_plain (binary_code op) ≡ true
  binary_plain binaries.NotIn = refl
  binary_plain _ = refl

  binary_tidy : (op : BinaryOperator) → TidyBy macros (straight (binary_code op))
  binary_tidy op = plain_chunks (binary_code op) (binary_plain op)

  list_tidy : (n : ℕ) → TidyBy macros (straight (list_of_row n))
  list_tidy zero = no_code
  list_tidy (suc n) = one (i.BuildList (Some (suc n))) refl

  map_tidy : (n : ℕ) → TidyBy macros (straight (map_of_row n))
  map_tidy zero = no_code
  map_tidy (suc n) = one (i.BuildKwargs (suc n)) refl

  merged_tidy : (b : Bool) (n : ℕ) → TidyBy macros (straight (merged_code b n))
  merged_tidy false n = no_code
  merged_tidy true n = one (i.MergeKwargs n) refl

  -- How a row of arguments by their names ends.
  abbrev Ends : RowEnd → Type 0
  Ends end = (n : ℕ) → TidyBy macros (end.code n)

  row_ends : Ends row_end
  row_ends n = map_tidy n

  merging_tidy : {n : _} (end : RowEnd) (ks : Row_of-Keyword n) (c : Fragment) → TidyBy macros c → TidyBy macros (merging end ks c)
  merging_tidy end ks c h = (h, merged_tidy (has_spread_keyword ks) (count_maps end 0 ks))

  passed_by : {n m : _} (end : RowEnd) (b : Bool) (before : ℕ) (given : Row_of-Argument n) (named : Row_of-Keyword m) (by_place by_name : Fragment)
      (lists : Fragment → Fragment) → TidyBy macros by_place → TidyBy macros by_name → TidyBy macros (lists by_name) →
      TidyBy macros (passing_by end b before given named by_place by_name lists)
  passed_by end false before given named by_place by_name lists h k l = (h, k)
  passed_by end true before given named by_place by_name lists h k l =
      (l, one (i.UnpackLists (count_lists before given (together end named))) refl)

  passed : {n m : _} (end : RowEnd) (before : ℕ) (given : Row_of-Argument n) (named : Row_of-Keyword m) → TidyBy macros (arguments_code given) →
      TidyBy macros (keywords_code end 0 named) →
      ((more : ℕ) (by_name : Fragment) → TidyBy macros by_name → TidyBy macros (lists_code before given more by_name)) →
      TidyBy macros (passing end before given named (arguments_code given) (keywords_code end 0 named)
      (λ by_name. lists_code before given (together end named) by_name))
  passed end before given named h k l =
      let by_name = merging end named (keywords_code end 0 named) in
      let tidy = merging_tidy end named (keywords_code end 0 named) k in
      passed_by end (has_spread given) before given named (arguments_code given) by_name
      (λ by_name. lists_code before given (together end named) by_name) h tidy (l (together end named) by_name tidy)

  mutual
    pub expr_tidy : (x : Expr) → TidyBy macros (expr_code x)
    expr_tidy (Var x) = one (i.Lookup x) refl
    expr_tidy (Const v) = one (i.LoadConst v) refl
    expr_tidy (List' _ es) = (exprs_tidy es, one (i.BuildList (Some (count_exprs es))) refl)
    expr_tidy (Tuple' _ es) = (exprs_tidy es, one (i.BuildTuple (count_exprs es)) refl)
    expr_tidy (Map' _ ps) = (pairs_tidy ps, one (i.BuildMap (count_pairs ps)) refl)
    expr_tidy (Call' f _ given _ named) = (
      passed row_end 0 given named (arguments_tidy given) (keywords_tidy row_end row_ends 0 named) (λ more c h. lists_tidy 0 given more c h),
      one (i.CallFunction f (passed_count row_end 0 given named)) refl,
    )
    expr_tidy (SelfBlock x) = plain_chunks (i.BeginCapture Capture ∷ i.CallBlock x ∷ i.EndCapture ∷ []) refl
    expr_tidy (unary op a) = (expr_tidy a, unary_tidy op)
    expr_tidy (chained a _ ss) = (expr_tidy a, steps_tidy ss)
    expr_tidy (conditional a _ cs) = conditions_tidy cs (expr_code a) (expr_tidy a)

    conditions_tidy : {n : _} (cs : Row_of-Condition n) (c : Fragment) → TidyBy macros c → TidyBy macros (conditions_code cs c)
    conditions_tidy no_condition c h = h
    conditions_tidy (with_condition x y more) c h =
        conditions_tidy more (expr_code x ⨾ either c (expr_code y)) (expr_tidy x, ((tt, h), expr_tidy y))

    exprs_tidy : {n : _} (es : Row_of-Expr n) → TidyBy macros (exprs_code es)
    exprs_tidy no_expr = no_code
    exprs_tidy (expr x more) = (expr_tidy x, exprs_tidy more)

    pairs_tidy : {n : _} (ps : Row_of-Pair n) → TidyBy macros (pairs_code ps)
    pairs_tidy no_pair = no_code
    pairs_tidy (with_pair x y more) = (expr_tidy x, (expr_tidy y, pairs_tidy more))

    argument_tidy : (a : Argument) → TidyBy macros (argument_code a)
    argument_tidy (plain a) = expr_tidy a
    argument_tidy (spread a) = expr_tidy a

    arguments_tidy : {n : _} (given : Row_of-Argument n) → TidyBy macros (arguments_code given)
    arguments_tidy no_argument = no_code
    arguments_tidy (argument a more) = (argument_tidy a, arguments_tidy more)

    listed_tidy : (before : ℕ) (a : Argument) → TidyBy macros (listed_code before a)
    listed_tidy before (plain a) = expr_tidy a
    listed_tidy before (spread a) = (list_tidy before, expr_tidy a)

    lists_tidy : {n : _} (before : ℕ) (given : Row_of-Argument n) (more : ℕ) (by_name : Fragment) → TidyBy macros by_name →
        TidyBy macros (lists_code before given more by_name)
    lists_tidy before no_argument more by_name h = (h, list_tidy (before + more))
    lists_tidy before (argument a rest) more by_name h = (listed_tidy before a, lists_tidy (row_after before a) rest more by_name h)

    keyword_tidy : (before : ℕ) (k : Keyword) → TidyBy macros (keyword_code before k)
    keyword_tidy before (keyword x a) = (one (i.LoadConst (text x false)) refl, expr_tidy a)
    keyword_tidy before (spread_keywords a) = (map_tidy before, expr_tidy a)

    keywords_tidy : {n : _} (end : RowEnd) → Ends end → (before : ℕ) (named : Row_of-Keyword n) → TidyBy macros (keywords_code end before named)
    keywords_tidy end h before no_keyword = h before
    keywords_tidy end h before (keyword_and k more) = (keyword_tidy before k, keywords_tidy end h (keywords_after before k) more)

    links_tidy : {n : _} (op : BinaryOperator) (cs : Row_of-Comparison n) → TidyBy macros (links_code op cs)
    links_tidy op no_comparison = binary_tidy op
    links_tidy op (with_comparison op1 a more) = (one (i.CompareAndPreserve op) refl, (tt, (expr_tidy a, links_tidy op1 more)))

    steps_tidy : {n : _} (ss : Row_of-Step n) → TidyBy macros (steps_code ss)
    steps_tidy no_step = no_code
    steps_tidy (step x more) = (step_tidy x, steps_tidy more)

    step_tidy : (x : Step) → TidyBy macros (step_code x)
    step_tidy (Attribute x) = one (i.GetAttr x) refl
    step_tidy (item a) = (expr_tidy a, one i.GetItem refl)
    step_tidy (Apply' k x _ given _ named) = (
      passed row_end 1 given named (arguments_tidy given) (keywords_tidy row_end row_ends 0 named) (λ more c h. lists_tidy 1 given more c h),
      application_tidy k x (passed_count row_end 1 given named),
    )
    step_tidy (Called _ given _ named) = (
      passed row_end 1 given named (arguments_tidy given) (keywords_tidy row_end row_ends 0 named) (λ more c h. lists_tidy 1 given more c h),
      one (i.CallObject (passed_count row_end 1 given named)) refl,
    )
    step_tidy (slice a b c) = (expr_tidy a, (expr_tidy b, (expr_tidy c, one i.Slice refl)))
    step_tidy (binary op a) = (expr_tidy a, binary_tidy op)
    step_tidy (compare op a _ cs) = (expr_tidy a, (links_tidy op cs, drops_tidy))
    step_tidy (and_then a) = (tt, expr_tidy a)
    step_tidy (or_else a) = (tt, expr_tidy a)

-- ---------------------------------------------------------------- targets
mutual
  target_tidy : (t : AssignmentTarget) → Tidy (target_code t)
  target_tidy (To x) = one true (i.StoreLocal x) refl
  target_tidy (Items _ ts) = (one true (i.UnpackList (count_targets ts)) refl, targets_tidy ts)
  target_tidy (Member x name) = (expr_tidy true x, one true (i.SetAttr name) refl)

  targets_tidy : {n : _} (ts : Row_of-AssignmentTarget n) → Tidy (targets_code ts)
  targets_tidy no_target = no_code true
  targets_tidy (target t ts) = (target_tidy t, targets_tidy ts)

set_tidy : (t : AssignmentTarget) (x : Expr) → Tidy (set_code t x)
set_tidy t x = (expr_tidy true x, target_tidy t)

assignments_tidy : (given : List Assignment) → Tidy (assignments_code given)
assignments_tidy [] = no_code true
assignments_tidy (a ∷ more) = (set_tidy a.target a.value, assignments_tidy more)

filters_tidy : (fs : List Step) → Tidy (filters_code fs)
filters_tidy [] = no_code true
filters_tidy (f ∷ more) = (step_tidy true f, filters_tidy more)

use_tidy : (u : CaptureUse) → Tidy (use_code u)
use_tidy uses.Emit = one true i.Emit refl
use_tidy (uses.Assign t) = target_tidy t

-- ---------------------------------------------------------------- templates that run here
included_tidy : (x : Expr) → Tidy (included_code x)
included_tidy x = (one true i.PushWith refl, (expr_tidy true x, one true i.IncludeModule refl))

lookups_tidy : (xs : List Imported) → Tidy (lookups_code xs)
lookups_tidy [] = no_code true
lookups_tidy (x ∷ xs) = (one true (i.Lookup x.name) refl, lookups_tidy xs)

stores_tidy : (xs : List Imported) → Tidy (stores_code xs)
stores_tidy [] = no_code true
stores_tidy (x ∷ xs) = (stores_tidy xs, one true (i.StoreLocal x.target) refl)

-- ---------------------------------------------------------------- loops and macros
close_plain : (os : List Opened) → all_plain (close_all os) ≡ true
close_plain [] = refl
close_plain (a_scope ∷ os) = close_plain os
close_plain (an_escape ∷ os) = close_plain os
close_plain (a_capture ∷ os) = close_plain os

close_tidy : (os : List Opened) → Tidy (straight (close_all os))
close_tidy os = plain_chunks (close_all os) (close_plain os)

items_tidy : (t : AssignmentTarget) (x : Expr) (c : Option Expr) → Tidy (iterable_code t x c)
items_tidy t x None = expr_tidy true x
items_tidy t x (Some c) = (
  one true (i.LoadConst (number (pos 0))) refl,
  (
    expr_tidy true x,
    (
      (one true i.DupTop refl, (target_tidy t, (expr_tidy true c, ((tt, (joins_tidy, tt)), one true i.DiscardTop refl)))),
      plain_chunks (i.PopLoopFrame ∷ i.BuildList None ∷ []) refl,
    ),
  ),
)

default_tidy : (o : Option Expr) → Tidy (default_code o)
default_tidy None = no_code true
default_tidy (Some x) = (plain_chunks (i.DupTop ∷ i.IsUndefined ∷ []) refl, (tt, (one true i.DiscardTop refl, expr_tidy true x)))

parameters_tidy : (ps : List Parameter) → Tidy (parameters_code ps)
parameters_tidy [] = no_code true
parameters_tidy (p ∷ ps) = (parameters_tidy ps, (default_tidy p.default, one true (i.StoreLocal p.name) refl))

-- ---------------------------------------------------------------- call tags
caller_ends : (c : Fragment) → Tidy c → Ends true (caller_end c)
caller_ends c h n = (one true (i.LoadConst (text (codes "caller") false)) refl, (h, map_tidy true (suc n)))

module _ (end : RowEnd) (h : Ends true end) where
  alone_tidy : Tidy (called_alone end)
  alone_tidy = (h 0, one true (i.CallObject (Some (end.maps 0 + 1))) refl)

  called_tidy : {n m : _} (before : ℕ) (given : Row_of-Argument n) (named : Row_of-Keyword m) → Tidy (passing_code end before given named)
  called_tidy before given named =
      passed true end before given named (arguments_tidy true given) (keywords_tidy true end h 0 named)
      (λ more c k. lists_tidy true before given more c k)

  step_call_tidy : (x : Step) → Tidy (step_call_code end x)
  step_call_tidy (Apply' k x _ given _ named) = (called_tidy 1 given named, application_tidy true k x (passed_count end 1 given named))
  step_call_tidy (Called _ given _ named) = (called_tidy 1 given named, one true (i.CallObject (passed_count end 1 given named)) refl)
  step_call_tidy x = (step_tidy true x, alone_tidy)

  steps_call_tidy : {n : _} (ss : Row_of-Step n) → Tidy (steps_call_code end ss)
  steps_call_tidy no_step = alone_tidy
  steps_call_tidy (step x no_step) = step_call_tidy x
  steps_call_tidy (step x (step y more)) = (step_tidy true x, steps_call_tidy (step y more))

  call_tidy : (x : Expr) → Tidy (call_code end x)
  call_tidy (Call' f _ given _ named) = (called_tidy 0 given named, one true (i.CallFunction f (passed_count end 0 given named)) refl)
  call_tidy (chained a _ ss) = (expr_tidy true a, steps_call_tidy ss)
  call_tidy x = (expr_tidy true x, alone_tidy)

-- ---------------------------------------------------------------- statements
mutual
  statement_tidy : (os : List Opened) (x : Stmt) → Tidy (statement_code os x)
  statement_tidy os (EmitRaw t) = one true (i.EmitRaw t) refl
  statement_tidy os (EmitExpr x) = (expr_tidy true x, one true i.Emit refl)
  statement_tidy os (EmitLoop x) = (expr_tidy true x, one true i.FastRecurse refl)
  statement_tidy os (EmitBlock x) = one true (i.CallBlock x) refl
  statement_tidy os EmitSuper = one true i.FastSuper refl
  statement_tidy os (If' c _ body other) = (expr_tidy true c, branches_tidy os (statements_code os body) other (statements_tidy os body))
  statement_tidy os (For' t x c recursive _ body other) =
      (items_tidy t x c, ((target_tidy t, statements_tidy [] body), after_tidy os other))
  statement_tidy os Break = (close_tidy os, tt)
  statement_tidy os Continue = (close_tidy os, tt)
  statement_tidy os (Block' x required _ body) = one true (i.CallBlock x) refl
  statement_tidy os (Extends x) = (expr_tidy true x, one true i.LoadBlocks refl)
  statement_tidy os (Set t x) = set_tidy t x
  statement_tidy os (CaptureBlock' u filters _ body) = (
    one true (i.BeginCapture Capture) refl,
    (statements_tidy (a_capture ∷ os) body, (one true i.EndCapture refl, (filters_tidy filters, use_tidy u))),
  )
  statement_tidy os (With' given _ body) =
      (one true i.PushWith refl, (assignments_tidy given, (statements_tidy (a_scope ∷ os) body, one true i.PopFrame refl)))
  statement_tidy os (Do x) = (expr_tidy true x, one true i.DiscardTop refl)
  statement_tidy os (AutoEscape' x _ body) =
      (expr_tidy true x, (one true i.PushAutoEscape refl, (statements_tidy (an_escape ∷ os) body, one true i.PopAutoEscape refl)))
  statement_tidy os (Macro' x ps _ body) = ((refl, (parameters_tidy ps, statements_tidy [] body)), one true (i.StoreLocal x) refl)
  statement_tidy os (CallBlock' x ps _ body) =
      let c = declares (macro_head (codes "caller") ps body) (parameters_code ps ⨾ statements_code [] body) in
      (call_tidy (caller_end c) (caller_ends c (refl, (parameters_tidy ps, statements_tidy [] body))) x, one true i.Emit refl)
  statement_tidy os (Include x missing) = (expr_tidy true x, one true (i.Include missing) refl)
  statement_tidy os (Import x t) = (
    one true (i.BeginCapture Capture) refl,
    (included_tidy x, (plain_chunks (i.EndCapture ∷ i.ExportLocals ∷ i.PopFrame ∷ []) refl, target_tidy t)),
  )
  statement_tidy os (FromImport x xs) = (
    one true (i.BeginCapture Discard) refl,
    (
      included_tidy x,
      (lookups_tidy xs, (one true i.PopFrame refl, (stores_tidy xs, plain_chunks (i.EndCapture ∷ i.DiscardTop ∷ []) refl))),
    ),
  )

  statements_tidy : {n : _} (os : List Opened) (ss : Row_of-Stmt n) → Tidy (statements_code os ss)
  statements_tidy os no_statement = no_code true
  statements_tidy os (statement x more) = (statement_tidy os x, statements_tidy os more)

  branches_tidy : (os : List Opened) (first : Fragment) (other : Otherwise) → Tidy first → Tidy (branches_code os first other)
  branches_tidy os first no_else h = (tt, h)
  branches_tidy os first (otherwise _ body) h = ((tt, h), statements_tidy os body)

  after_tidy : (os : List Opened) (other : Otherwise) → Tidy (after_loop_code os other)
  after_tidy os no_else = one true i.PopLoopFrame refl
  after_tidy os (otherwise _ body) =
      (plain_chunks (i.PushDidNotIterate ∷ i.PopLoopFrame ∷ []) refl, (tt, statements_tidy os body))

-- The code of a stream's tree is tidy.
pub tree_tidy : (tree : StreamTree) → Tidy (fragment_of tree)
tree_tidy (statements body) = statements_tidy [] body.row
tree_tidy (expression x) = expr_tidy true x
