-- The code of a tree.
use Rattle.std.specs.Prelude.{ℕ, zero, suc, ◌+◌, ◌||◌, pos, List, [], ◌∷◌, ◌++◌, Option, Some, None, Bool, true, false, codes}
use Rattle.tm_values.specs.Val.{number, text}
use Rattle.tm_syntax.specs.declared.tree.UnaryOperator.{UnaryOperator}
use Rattle.tm_syntax.specs.declared.tree.UnaryOperator.TheVariants as unaries
use Rattle.tm_syntax.specs.declared.tree.BinaryOperator.{BinaryOperator}
use Rattle.tm_syntax.specs.declared.tree.BinaryOperator.TheVariants as binaries
use Rattle.tm_syntax.specs.declared.tree.Expr.{Expr, Var, Const, List', Tuple', Map', Call', SelfBlock, Row_of-Expr}
use Rattle.tm_syntax.specs.declared.tree.Expr.{end_of-Expr as no_expr, more_of-Expr as expr, Row_of-Pair, end_of-Pair as no_pair}
use Rattle.tm_syntax.specs.declared.tree.Expr.{Row_of-Argument, end_of-Argument as no_argument, more_of-Argument as argument}
use Rattle.tm_syntax.specs.declared.tree.Expr.{Row_of-Keyword, end_of-Keyword as no_keyword, more_of-Keyword as keyword_and, Row_of-Step}
use Rattle.tm_syntax.specs.declared.tree.Expr.{end_of-Step as no_step, more_of-Step as step, Row_of-Condition}
use Rattle.tm_syntax.specs.declared.tree.Expr.{end_of-Condition as no_condition}
use Rattle.tm_syntax.specs.declared.tree.Argument.{Argument}
use Rattle.tm_syntax.specs.declared.tree.Keyword.{Keyword}
use Rattle.tm_syntax.specs.declared.tree.Application.{Application}
use Rattle.tm_syntax.specs.declared.tree.Application.TheVariants as applications
use Rattle.tm_syntax.specs.declared.tree.Step.{Step, Attribute, Apply', Call' as Called, Row_of-Comparison, end_of-Comparison as no_comparison}
use Rattle.tm_syntax.specs.declared.tree.AssignmentTarget.{AssignmentTarget, Name as To, Unpack' as Items, Attribute as Member}
use Rattle.tm_syntax.specs.declared.tree.AssignmentTarget.{Row_of-AssignmentTarget}
use Rattle.tm_syntax.specs.declared.tree.AssignmentTarget.{end_of-AssignmentTarget as no_target, more_of-AssignmentTarget as target}
use Rattle.tm_syntax.specs.declared.tree.Assignment.{Assignment}
use Rattle.tm_syntax.specs.declared.tree.Parameter.{Parameter}
use Rattle.tm_syntax.specs.declared.tree.Imported.{Imported}
use Rattle.tm_syntax.specs.declared.tree.CaptureUse.{CaptureUse}
use Rattle.tm_syntax.specs.declared.tree.CaptureUse.TheVariants as uses
use Rattle.tm_syntax.specs.declared.tree.Stmt.{Stmt, EmitRaw, EmitExpr, EmitLoop, EmitBlock, EmitSuper, If', For', Break, Continue, Block'}
use Rattle.tm_syntax.specs.declared.tree.Stmt.{Extends, Set, CaptureBlock', With', Do, AutoEscape', Macro', CallBlock', Row_of-Stmt}
use Rattle.tm_syntax.specs.declared.tree.Stmt.{Include, Import, FromImport}
use Rattle.tm_syntax.specs.declared.tree.Stmt.{end_of-Stmt as no_statement}
use Rattle.tm_syntax.specs.declared.tree.Stmt.{more_of-Stmt as statement, Held-Stmt-If-2 as Otherwise, None' as no_else}
use Rattle.tm_syntax.specs.declared.tree.Stmt.{Some' as otherwise}
use Rattle.tm_syntax.specs.declared.instruction.CaptureMode.TheVariants.{Capture, Discard}
use Rattle.tm_syntax.specs.declared.instruction.LoopFlags.{LoopFlags}
use Rattle.tm_syntax.specs.declared.instruction.Instruction.{Instruction}
use Rattle.tm_syntax.specs.declared.instruction.Instruction.TheVariants as i
use Rattle.tm_syntax.specs.declared.opened.Opened.{Opened}
use Rattle.tm_syntax.specs.declared.opened.Opened.TheVariants.{Scope as a_scope, Escape as an_escape, Capture as a_capture}
use Rattle.tm_syntax.specs.Forms.{unary, chained, conditional, with_condition, with_comparison, with_pair, plain, spread, keyword}
use Rattle.tm_syntax.specs.Forms.{spread_keywords, item, slice, binary, compare, and_then, or_else}
use Rattle.tm_syntax.specs.declared.jump.JumpKind.TheVariants.{IfFalse, IfFalseOrPop, IfTrueOrPop}
use Rattle.tm_syntax.specs.CacheNumbers.{no_cache, numbered}
use Rattle.tm_syntax.specs.Fragments.{Fragment, straight, ◌⨾◌, jump_out, fork, looped, break_loop, next_round, over, either, assembled}
use Rattle.tm_syntax.specs.Fragments.{MacroHead, declares}
use Rattle.tm_syntax.specs.Names.{free_names, takes_caller, parameter_names}

abbrev pub unary_code : UnaryOperator → Instruction
unary_code unaries.Not = i.Not
unary_code unaries.Negate = i.Neg

abbrev pub binary_code : BinaryOperator → List Instruction
binary_code binaries.Equal = i.Eq ∷ []
binary_code binaries.NotEqual = i.Ne ∷ []
binary_code binaries.Less = i.Lt ∷ []
binary_code binaries.LessOrEqual = i.Lte ∷ []
binary_code binaries.Greater = i.Gt ∷ []
binary_code binaries.GreaterOrEqual = i.Gte ∷ []
binary_code binaries.In = i.In ∷ []
binary_code binaries.NotIn = i.In ∷ i.Not ∷ []
binary_code binaries.Add = i.Add ∷ []
binary_code binaries.Subtract = i.Sub ∷ []
binary_code binaries.Concatenate = i.StringConcat ∷ []
binary_code binaries.Multiply = i.Mul ∷ []
binary_code binaries.Divide = i.Div ∷ []
binary_code binaries.FloorDivide = i.IntDiv ∷ []
binary_code binaries.Remainder = i.Rem ∷ []
binary_code binaries.Power = i.Pow ∷ []

-- the application of a name to n values; filters and tests have no cache numbers yet
abbrev pub application_code : Application → List ℕ → Option ℕ → List Instruction
application_code applications.Method x n = i.CallMethod x n ∷ []
application_code applications.Filter x n = i.ApplyFilter x n no_cache ∷ []
application_code applications.Test x n = i.PerformTest x n no_cache ∷ []
application_code applications.NegatedTest x n = i.PerformTest x n no_cache ∷ i.Not ∷ []

-- ---------------------------------------------------------------- arguments
-- A row of n values becomes one value, unless it is empty.
abbrev pub rows_of : ℕ → ℕ
rows_of zero = 0
rows_of (suc n) = 1

abbrev pub list_of_row : ℕ → List Instruction
list_of_row zero = []
list_of_row (suc n) = i.BuildList (Some (suc n)) ∷ []

abbrev pub map_of_row : ℕ → List Instruction
map_of_row zero = []
map_of_row (suc n) = i.BuildKwargs (suc n) ∷ []

-- the number of positional arguments
abbrev pub count : {n : _} → Row_of-Argument n → ℕ
count no_argument = 0
count (argument a more) = count more + 1

abbrev pub is_spread : Argument → Bool
is_spread (plain a) = false
is_spread (spread a) = true

abbrev pub has_spread : {n : _} → Row_of-Argument n → Bool
has_spread no_argument = false
has_spread (argument a more) = is_spread a || has_spread more

-- If some arguments are spread, each row of plain arguments becomes a list: the length of the
-- pending row after an argument, and the number of lists that the argument adds.
abbrev pub row_after : ℕ → Argument → ℕ
row_after n (plain a) = n + 1
row_after n (spread a) = 0

abbrev pub lists_at : ℕ → Argument → ℕ
lists_at n (plain a) = 0
lists_at n (spread a) = rows_of n + 1

-- the number of lists, with `more` further values at the end
abbrev pub count_lists : {n : _} → ℕ → Row_of-Argument n → ℕ → ℕ
count_lists before no_argument more = rows_of (before + more)
count_lists before (argument a rest) more = lists_at before a + count_lists (row_after before a) rest more

abbrev pub is_spread_keyword : Keyword → Bool
is_spread_keyword (keyword x a) = false
is_spread_keyword (spread_keywords a) = true

abbrev pub has_spread_keyword : {n : _} → Row_of-Keyword n → Bool
has_spread_keyword no_keyword = false
has_spread_keyword (keyword_and k more) = is_spread_keyword k || has_spread_keyword more

-- the same for keyword arguments, each row of which becomes a map
abbrev pub keywords_after : ℕ → Keyword → ℕ
keywords_after n (keyword x a) = n + 1
keywords_after n (spread_keywords a) = 0

abbrev pub maps_at : ℕ → Keyword → ℕ
maps_at n (keyword x a) = 0
maps_at n (spread_keywords a) = rows_of n + 1

-- The end of the keyword arguments, after a row of the given length: how many maps it adds, and its
-- code.
pub record RowEnd : Type 0 where
  pub maps : ℕ → ℕ
  pub code : ℕ → Fragment

-- the row becomes a map, unless it is empty
abbrev pub row_end : RowEnd
row_end = record { maps = rows_of; code = λ n. straight (map_of_row n) }

-- `caller` follows the row; the code c pushes its value
abbrev pub caller_end : Fragment → RowEnd
caller_end c = record {
  maps = λ n. rows_of (suc n);
  code = λ n. straight (i.LoadConst (text (codes "caller") false) ∷ []) ⨾ c ⨾ straight (map_of_row (suc n));
}

abbrev pub count_maps : {n : _} → RowEnd → ℕ → Row_of-Keyword n → ℕ
count_maps end before no_keyword = end.maps before
count_maps end before (keyword_and k rest) = maps_at before k + count_maps end (keywords_after before k) rest

-- if a map is spread, all maps are merged
abbrev pub merged_code : Bool → ℕ → List Instruction
merged_code false n = []
merged_code true n = i.MergeKwargs n ∷ []

abbrev pub merged_count : Bool → ℕ → ℕ
merged_count false n = n
merged_count true n = 1

-- the number of values that the keyword arguments become
abbrev pub together : {n : _} → RowEnd → Row_of-Keyword n → ℕ
together end ks = merged_count (has_spread_keyword ks) (count_maps end 0 ks)

-- if an argument is spread, the count of a call is on top of the stack
abbrev pub count_by : Bool → ℕ → Option ℕ
count_by false n = Some n
count_by true n = None

-- the number of values that a call gets, including `before` values under its arguments
abbrev pub passed_count : {n m : _} → RowEnd → ℕ → Row_of-Argument n → Row_of-Keyword m → Option ℕ
passed_count end before given named = count_by (has_spread given) (count given + together end named + before)

-- the maps of the keyword arguments become one keyword map, unless there are none
abbrev pub merging : {n : _} → RowEnd → Row_of-Keyword n → Fragment → Fragment
merging end ks maps = maps ⨾ straight (merged_code (has_spread_keyword ks) (count_maps end 0 ks))

-- The values of a call, above `before` values: the positional arguments and the keyword map, or, if
-- some are spread, the items of all lists.
abbrev pub passing_by : {n m : _} → RowEnd → Bool → ℕ → Row_of-Argument n → Row_of-Keyword m → Fragment → Fragment →
    (Fragment → Fragment) → Fragment
passing_by end false before given named by_place by_name lists = by_place ⨾ by_name
passing_by end true before given named by_place by_name lists = lists by_name ⨾ straight
    (i.UnpackLists (count_lists before given (together end named)) ∷ [])

abbrev pub passing : {n m : _} → RowEnd → ℕ → Row_of-Argument n → Row_of-Keyword m → Fragment → Fragment → (Fragment → Fragment) →
    Fragment
passing end before given named by_place maps lists =
    passing_by end (has_spread given) before given named by_place (merging end named maps) lists

abbrev pub count_exprs : {n : _} → Row_of-Expr n → ℕ
count_exprs no_expr = 0
count_exprs (expr e more) = count_exprs more + 1

abbrev pub count_pairs : {n : _} → Row_of-Pair n → ℕ
count_pairs no_pair = 0
count_pairs (with_pair k v more) = count_pairs more + 1

-- if a comparison in a chain is false, its right operand is dropped
abbrev pub drop_right : Fragment
drop_right = straight (i.Swap ∷ i.DiscardTop ∷ [])

abbrev mutual
  pub expr_code : Expr → Fragment
  expr_code (Var x) = straight (i.Lookup x ∷ [])
  expr_code (Const v) = straight (i.LoadConst v ∷ [])
  expr_code (List' _ es) = exprs_code es ⨾ straight (i.BuildList (Some (count_exprs es)) ∷ [])
  expr_code (Tuple' _ es) = exprs_code es ⨾ straight (i.BuildTuple (count_exprs es) ∷ [])
  expr_code (Map' _ ps) = pairs_code ps ⨾ straight (i.BuildMap (count_pairs ps) ∷ [])
  expr_code (Call' f _ given _ named) = passing row_end 0 given named (arguments_code given) (keywords_code row_end 0 named)
      (λ by_name. lists_code 0 given (together row_end named) by_name) ⨾ straight
      (i.CallFunction f (passed_count row_end 0 given named) ∷ [])
  expr_code (SelfBlock x) = straight (i.BeginCapture Capture ∷ i.CallBlock x ∷ i.EndCapture ∷ [])
  expr_code (unary op a) = expr_code a ⨾ straight (unary_code op ∷ [])
  expr_code (chained a _ ss) = expr_code a ⨾ steps_code ss
  expr_code (conditional a _ cs) = conditions_code cs (expr_code a)

  -- The last condition comes first. Each condition is before the code of the value, and its
  -- alternative after it.
  pub conditions_code : {n : _} → Row_of-Condition n → Fragment → Fragment
  conditions_code no_condition value = value
  conditions_code (with_condition c e more) value = conditions_code more (expr_code c ⨾ either value (expr_code e))

  pub exprs_code : {n : _} → Row_of-Expr n → Fragment
  exprs_code no_expr = straight []
  exprs_code (expr e more) = expr_code e ⨾ exprs_code more

  pub pairs_code : {n : _} → Row_of-Pair n → Fragment
  pairs_code no_pair = straight []
  pairs_code (with_pair k v more) = expr_code k ⨾ expr_code v ⨾ pairs_code more

  pub argument_code : Argument → Fragment
  argument_code (plain a) = expr_code a
  argument_code (spread a) = expr_code a

  pub arguments_code : {n : _} → Row_of-Argument n → Fragment
  arguments_code no_argument = straight []
  arguments_code (argument a more) = argument_code a ⨾ arguments_code more

  -- an argument after a row of length `before`; a spread argument ends the row
  pub listed_code : ℕ → Argument → Fragment
  listed_code before (plain a) = expr_code a
  listed_code before (spread a) = straight (list_of_row before) ⨾ expr_code a

  -- after a row of length `before`, the lists of all arguments; the last one includes `more`
  -- keyword values
  pub lists_code : {n : _} → ℕ → Row_of-Argument n → ℕ → Fragment → Fragment
  lists_code before no_argument more by_name = by_name ⨾ straight (list_of_row (before + more))
  lists_code before (argument a rest) more by_name = listed_code before a ⨾ lists_code (row_after before a) rest more by_name

  -- a name and its value, after a row of length `before`; a spread map ends the row
  pub keyword_code : ℕ → Keyword → Fragment
  keyword_code before (keyword x a) = straight (i.LoadConst (text x false) ∷ []) ⨾ expr_code a
  keyword_code before (spread_keywords a) = straight (map_of_row before) ⨾ expr_code a

  pub keywords_code : {n : _} → RowEnd → ℕ → Row_of-Keyword n → Fragment
  keywords_code end before no_keyword = end.code before
  keywords_code end before (keyword_and k more) = keyword_code before k ⨾ keywords_code end (keywords_after before k) more

  pub step_code : Step → Fragment
  step_code (Attribute x) = straight (i.GetAttr x ∷ [])
  step_code (item a) = expr_code a ⨾ straight (i.GetItem ∷ [])
  step_code (Apply' k x _ given _ named) = passing row_end 1 given named (arguments_code given) (keywords_code row_end 0 named)
      (λ by_name. lists_code 1 given (together row_end named) by_name) ⨾ straight
      (application_code k x (passed_count row_end 1 given named))
  step_code (Called _ given _ named) = passing row_end 1 given named (arguments_code given) (keywords_code row_end 0 named)
      (λ by_name. lists_code 1 given (together row_end named) by_name) ⨾ straight
      (i.CallObject (passed_count row_end 1 given named) ∷ [])
  step_code (slice a b c) = expr_code a ⨾ expr_code b ⨾ expr_code c ⨾ straight (i.Slice ∷ [])
  step_code (binary op a) = expr_code a ⨾ straight (binary_code op)
  step_code (compare op a _ cs) = expr_code a ⨾ fork (links_code op cs) drop_right
  step_code (and_then a) = over IfFalseOrPop (expr_code a)
  step_code (or_else a) = over IfTrueOrPop (expr_code a)

  -- A comparison and those after it: each but the last leaves its right operand below its result,
  -- and jumps out if the result is false.
  pub links_code : {n : _} → BinaryOperator → Row_of-Comparison n → Fragment
  links_code op no_comparison = straight (binary_code op)
  links_code op (with_comparison op1 a more) = straight
      (i.CompareAndPreserve op ∷ []) ⨾ jump_out IfFalseOrPop ⨾ expr_code a ⨾ links_code op1 more

  pub steps_code : {n : _} → Row_of-Step n → Fragment
  steps_code no_step = straight []
  steps_code (step s ss) = step_code s ⨾ steps_code ss

-- the keyword arguments as one value, if there are any
abbrev pub named_code : {n : _} → Row_of-Keyword n → Fragment
named_code ks = merging row_end ks (keywords_code row_end 0 ks)

-- the values of a call, above `before` values
abbrev pub passing_code : {n m : _} → RowEnd → ℕ → Row_of-Argument n → Row_of-Keyword m → Fragment
passing_code end before given named =
    passing end before given named (arguments_code given) (keywords_code end 0 named)
    (λ by_name. lists_code before given (together end named) by_name)

-- ---------------------------------------------------------------- calls with a given end
-- a call of the value on top, with the end as its only argument
abbrev pub called_alone : RowEnd → Fragment
called_alone end = end.code 0 ⨾ straight (i.CallObject (Some (end.maps 0 + 1)) ∷ [])

-- If the last step of a value is a call, the end is added to its arguments; otherwise the step's
-- value is called.
abbrev pub step_call_code : RowEnd → Step → Fragment
step_call_code end (Apply' k x _ given _ named) = passing_code end 1 given named ⨾ straight
    (application_code k x (passed_count end 1 given named))
step_call_code end (Called _ given _ named) = passing_code end 1 given named ⨾ straight
    (i.CallObject (passed_count end 1 given named) ∷ [])
step_call_code end s = step_code s ⨾ called_alone end

abbrev pub steps_call_code : {n : _} → RowEnd → Row_of-Step n → Fragment
steps_call_code end no_step = called_alone end
steps_call_code end (step s no_step) = step_call_code end s
steps_call_code end (step s (step t more)) = step_code s ⨾ steps_call_code end (step t more)

-- If an expression is a call, the end is added to its arguments; otherwise its value is called.
abbrev pub call_code : RowEnd → Expr → Fragment
call_code end (Call' f _ given _ named) = passing_code end 0 given named ⨾ straight
    (i.CallFunction f (passed_count end 0 given named) ∷ [])
call_code end (chained a _ ss) = expr_code a ⨾ steps_call_code end ss
call_code end e = expr_code e ⨾ called_alone end

-- chained comparisons, after the right operand of the first
abbrev pub row_code : {n : _} → BinaryOperator → Row_of-Comparison n → Fragment
row_code op cs = fork (links_code op cs) drop_right

abbrev pub count_targets : {n : _} → Row_of-AssignmentTarget n → ℕ
count_targets no_target = 0
count_targets (target t more) = count_targets more + 1

abbrev mutual
  pub target_code : AssignmentTarget → Fragment
  target_code (To x) = straight (i.StoreLocal x ∷ [])
  target_code (Items _ ts) = straight (i.UnpackList (count_targets ts) ∷ []) ⨾ targets_code ts
  target_code (Member e x) = expr_code e ⨾ straight (i.SetAttr x ∷ [])

  pub targets_code : {n : _} → Row_of-AssignmentTarget n → Fragment
  targets_code no_target = straight []
  targets_code (target t ts) = target_code t ⨾ targets_code ts

-- a value and its assignment
abbrev pub set_code : AssignmentTarget → Expr → Fragment
set_code t e = expr_code e ⨾ target_code t

abbrev pub assignments_code : List Assignment → Fragment
assignments_code [] = straight []
assignments_code (a ∷ more) = set_code a.target a.value ⨾ assignments_code more

-- filters of the value on top, from left to right
abbrev pub filters_code : List Step → Fragment
filters_code [] = straight []
filters_code (f ∷ more) = step_code f ⨾ filters_code more

-- what happens to the text of a capture, which is on top
abbrev pub use_code : CaptureUse → Fragment
use_code uses.Emit = straight (i.Emit ∷ [])
use_code (uses.Assign t) = target_code t

-- ---------------------------------------------------------------- includes and imports
-- runs a template in a new scope
abbrev pub included_code : Expr → Fragment
included_code e = straight (i.PushWith ∷ []) ⨾ expr_code e ⨾ straight (i.IncludeModule ∷ [])

-- looks up the imported names
abbrev pub lookups_code : List Imported → Fragment
lookups_code [] = straight []
lookups_code (x ∷ xs) = straight (i.Lookup x.name ∷ []) ⨾ lookups_code xs

-- binds their values, from the last to the first
abbrev pub stores_code : List Imported → Fragment
stores_code [] = straight []
stores_code (x ∷ xs) = stores_code xs ⨾ straight (i.StoreLocal x.target ∷ [])

-- ---------------------------------------------------------------- statements
abbrev pub close : Opened → List Instruction
close a_scope = i.PopFrame ∷ []
close an_escape = i.PopAutoEscape ∷ []
close a_capture = i.EndCapture ∷ i.DiscardTop ∷ []

abbrev pub close_all : List Opened → List Instruction
close_all [] = []
close_all (o ∷ os) = close o ++ close_all os

abbrev pub for_flags : Bool → LoopFlags
for_flags recursive = record { variable = true; recursive = recursive }

-- for the loop that selects the items whose condition is true
abbrev pub pass_flags : LoopFlags
pass_flags = record { variable = false; recursive = false }

-- if the condition is true, the item stays below the count, which grows by one
abbrev pub take_item : Fragment
take_item = over IfFalse (straight (i.Swap ∷ i.LoadConst (number (pos 1)) ∷ i.Add ∷ []) ⨾ next_round)

-- a round of that loop: keeps the item if the condition is true, and drops it otherwise
abbrev pub pass_round : AssignmentTarget → Expr → Fragment
pass_round t c = straight (i.DupTop ∷ []) ⨾ target_code t ⨾ expr_code c ⨾ take_item ⨾ straight (i.DiscardTop ∷ [])

-- the value that is iterated over; with a condition, the selected items
abbrev pub iterable_code : AssignmentTarget → Expr → Option Expr → Fragment
iterable_code t e None = expr_code e
iterable_code t e (Some c) =
    straight (i.LoadConst (number (pos 0)) ∷ []) ⨾ expr_code e ⨾ looped pass_flags (pass_round t c)
    (straight (i.PopLoopFrame ∷ i.BuildList None ∷ []))

-- ---------------------------------------------------------------- macros
-- the default of the value on top, if that is undefined
abbrev pub default_code : Option Expr → Fragment
default_code None = straight []
default_code (Some e) = straight (i.DupTop ∷ i.IsUndefined ∷ []) ⨾ over IfFalse (straight (i.DiscardTop ∷ []) ⨾ expr_code e)

abbrev pub parameter_code : Parameter → Fragment
parameter_code p = default_code p.default ⨾ straight (i.StoreLocal p.name ∷ [])

-- binds the arguments, from the last to the first
abbrev pub parameters_code : List Parameter → Fragment
parameters_code [] = straight []
parameters_code (p ∷ ps) = parameters_code ps ⨾ parameter_code p

abbrev pub macro_head : {n : _} → List ℕ → List Parameter → Row_of-Stmt n → MacroHead
macro_head x ps body = record {
  name = x;
  parameters = parameter_names ps;
  free = free_names ps body;
  caller = takes_caller ps body;
}

-- ---------------------------------------------------------------- statements
-- in the body of a loop; os was opened since the body began, innermost first
abbrev mutual
  pub statement_code : List Opened → Stmt → Fragment
  statement_code os (EmitRaw t) = straight (i.EmitRaw t ∷ [])
  statement_code os (EmitExpr e) = expr_code e ⨾ straight (i.Emit ∷ [])
  statement_code os (EmitLoop e) = expr_code e ⨾ straight (i.FastRecurse ∷ [])
  statement_code os (EmitBlock x) = straight (i.CallBlock x ∷ [])
  statement_code os EmitSuper = straight (i.FastSuper ∷ [])
  statement_code os (If' c _ body other) = expr_code c ⨾ branches_code os (statements_code os body) other
  statement_code os (For' t e c recursive _ body other) =
      iterable_code t e c ⨾ looped (for_flags recursive) (target_code t ⨾ statements_code [] body) (after_loop_code os other)
  statement_code os Break = straight (close_all os) ⨾ break_loop
  statement_code os Continue = straight (close_all os) ⨾ next_round
  statement_code os (Block' x required _ body) = straight (i.CallBlock x ∷ [])
  statement_code os (Extends e) = expr_code e ⨾ straight (i.LoadBlocks ∷ [])
  statement_code os (Set t e) = set_code t e
  statement_code os (CaptureBlock' u filters _ body) = straight (i.BeginCapture Capture ∷ []) ⨾ statements_code (a_capture ∷ os) body
      ⨾ straight (i.EndCapture ∷ []) ⨾ filters_code filters ⨾ use_code u
  statement_code os (With' given _ body) = straight (i.PushWith ∷ []) ⨾ assignments_code given ⨾ statements_code
      (a_scope ∷ os) body ⨾ straight (i.PopFrame ∷ [])
  statement_code os (Do e) = expr_code e ⨾ straight (i.DiscardTop ∷ [])
  statement_code os (AutoEscape' e _ body) = expr_code e ⨾ straight (i.PushAutoEscape ∷ []) ⨾ statements_code
      (an_escape ∷ os) body ⨾ straight (i.PopAutoEscape ∷ [])
  statement_code os (Macro' x ps _ body) =
      declares (macro_head x ps body) (parameters_code ps ⨾ statements_code [] body) ⨾ straight (i.StoreLocal x ∷ [])
  statement_code os (CallBlock' e ps _ body) =
      call_code (caller_end (declares (macro_head (codes "caller") ps body) (parameters_code ps ⨾ statements_code [] body))) e
      ⨾ straight (i.Emit ∷ [])
  statement_code os (Include e missing) = expr_code e ⨾ straight (i.Include missing ∷ [])
  statement_code os (Import e t) = straight (i.BeginCapture Capture ∷ []) ⨾ included_code e
      ⨾ straight (i.EndCapture ∷ i.ExportLocals ∷ i.PopFrame ∷ []) ⨾ target_code t
  statement_code os (FromImport e xs) = straight (i.BeginCapture Discard ∷ []) ⨾ included_code e
      ⨾ lookups_code xs ⨾ straight (i.PopFrame ∷ []) ⨾ stores_code xs ⨾ straight (i.EndCapture ∷ i.DiscardTop ∷ [])

  pub statements_code : {n : _} → List Opened → Row_of-Stmt n → Fragment
  statements_code os no_statement = straight []
  statements_code os (statement s ss) = statement_code os s ⨾ statements_code os ss

  -- the code that runs if a condition is true, and the else part
  pub branches_code : List Opened → Fragment → Otherwise → Fragment
  branches_code os first no_else = over IfFalse first
  branches_code os first (otherwise _ body) = either first (statements_code os body)

  -- after the rounds of a loop
  pub after_loop_code : List Opened → Otherwise → Fragment
  after_loop_code os no_else = straight (i.PopLoopFrame ∷ [])
  after_loop_code os (otherwise _ body) = straight (i.PushDidNotIterate ∷ i.PopLoopFrame ∷ []) ⨾ over IfFalse (statements_code os body)

-- a stream's statements, before names get cache numbers
abbrev pub unnumbered_code : {n : _} → Row_of-Stmt n → List Instruction
unnumbered_code ss = assembled (statements_code [] ss)

-- a stream's statements
abbrev pub stream_code : {n : _} → Row_of-Stmt n → List Instruction
stream_code ss = numbered (unnumbered_code ss)
