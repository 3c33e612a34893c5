-- The loops and macros of a tree stand in its code, each at its number.
use Rattle.std.proofs.Common.{◌≡◌, ℕ, zero, suc, ◌+◌, ◌⊎◌, inl, inr, List, [], ◌∷◌, Option, Some, None, Bool, true, false, ◌++◌}
use Rattle.std.proofs.Common.{refl, sym, ap, subst, length}
use Rattle.std.proofs.Common.{arith, rules}
use Rattle.std.proofs.lemmas.List.{append-nil}
use Rattle.tm_trees.specs.Instructions.{Instruction}
use Rattle.tm_trees.specs.Instructions.instructions as i
use Rattle.tm_trees.specs.Trees.{UnaryOperator, BinaryOperator, Expr, Var, Const, List', Tuple', Map', Call', SelfBlock, Row_of-Expr, no_expr, expr}
use Rattle.tm_trees.specs.Trees.{Row_of-Pair, no_pair, Row_of-Argument, no_argument, argument, Row_of-Keyword, no_keyword, keyword_and, Row_of-Step}
use Rattle.tm_trees.specs.Trees.{no_step, step, Row_of-Condition, no_condition, Argument, Keyword, Application, Step, Attribute, Apply', Called}
use Rattle.tm_trees.specs.Trees.{Row_of-Comparison, no_comparison, AssignmentTarget, To, Items, Member, Row_of-AssignmentTarget, no_target, target}
use Rattle.tm_trees.specs.Trees.{Assignment, Parameter, Imported, CaptureUse, Stmt, If', For'}
use Rattle.tm_trees.specs.Trees.{Set, CaptureBlock', With', AutoEscape', Macro', CallBlock', Row_of-Stmt}
use Rattle.tm_trees.specs.Trees.{Import, FromImport, no_statement, statement, Otherwise, no_else, otherwise}
use Rattle.tm_trees.specs.Trees.unaries
use Rattle.tm_trees.specs.Trees.binaries
use Rattle.tm_trees.specs.Trees.applications
use Rattle.tm_trees.specs.Trees.uses
use Rattle.tm_syntax.specs.declared.opened.Opened.{Opened}
use Rattle.tm_syntax.specs.declared.opened.Opened.TheVariants.{Scope as a_scope, Escape as an_escape, Capture as a_capture}
use Rattle.tm_syntax.specs.Forms.{unary, chained, conditional, with_condition, with_comparison, with_pair, plain, spread, keyword}
use Rattle.tm_syntax.specs.Forms.{spread_keywords, item, slice, binary, compare, and_then, or_else}
use Rattle.tm_syntax.specs.Code.{unary_code, binary_code, application_code, passed_count, merging, passing_by, close_all, for_flags}
use Rattle.tm_syntax.specs.Code.{row_end, caller_end, passing_code, step_call_code, steps_call_code, call_code, called_alone}
use Rattle.tm_syntax.specs.Code.{together}
use Rattle.tm_syntax.specs.Code.{list_of_row, map_of_row, merged_code, has_spread, has_spread_keyword, row_after, keywords_after}
use Rattle.tm_syntax.specs.Blocks.{body_of}
use Rattle.tm_syntax.specs.Loops.{Numbers, FoundLoop, FoundMacro, with_pass, within_loop, within_macro, passes, past, pasts, past_else}
use Rattle.tm_syntax.specs.Loops.{loops_of, loops_in, loops_else, macros_of, macros_in, macros_else}
use Rattle.tm_syntax.specs.Fragments.{Fragment, straight, ◌⨾◌, looped, Labels, beyond}
use Rattle.tm_syntax.specs.Names.{parameter_names}
use Rattle.tm_syntax.specs.declared.jump.JumpKind.TheVariants.{IfFalse}
use Rattle.tm_syntax.specs.Code.{expr_code, conditions_code, exprs_code, pairs_code, argument_code}
use Rattle.tm_syntax.specs.Code.{arguments_code, listed_code, lists_code, keyword_code, keywords_code, step_code, links_code}
use Rattle.tm_syntax.specs.Code.{steps_code, target_code}
use Rattle.tm_syntax.specs.Code.{targets_code, set_code, assignments_code, iterable_code, pass_round, statement_code, statements_code}
use Rattle.tm_syntax.specs.Code.{included_code, lookups_code, stores_code}
use Rattle.tm_syntax.specs.Code.{branches_code, after_loop_code, filters_code, use_code, default_code, parameters_code, macro_head}
use Rattle.tm_syntax.proofs.Standing.{HasAt, At}
use Rattle.std.specs.Prelude.{codes}
use Rattle.tm_simulation.proofs.Counts.{NoneBegins, Loopless, one_loop_more, counted_none, Has, it, front, back}
use Rattle.tm_simulation.proofs.Entries.{Counts}
use Rattle.tm_simulation.proofs.Begins.{Begins, IsLoop, IsMacro, both_begin, loop_begins, macro_begins, none_begin, after_none}
use Rattle.tm_simulation.proofs.Begins.{before_none, over_begins, either_begins, one_part_begins}

-- ---------------------------------------------------------------- expressions begin none
unary_loopless : (op : UnaryOperator) → NoneBegins (unary_code op ∷ [])
unary_loopless unaries.Not = (refl, tt)
unary_loopless _ = (refl, tt)

application_loopless : (k : Application) (x : List ℕ) (n : Option ℕ) → NoneBegins (application_code k x n)
application_loopless applications.NegatedTest x n = (refl, (refl, tt))
application_loopless applications.Method x n = (refl, tt)
application_loopless applications.Filter x n = (refl, tt)
application_loopless applications.Test x n = (refl, tt)

binary_loopless : (op : BinaryOperator) → NoneBegins (binary_code op)
binary_loopless binaries.NotIn = (refl, (refl, tt))
binary_loopless _ = (refl, tt)

-- ---------------------------------------------------------------- nor do arguments
list_loopless : (n : ℕ) → NoneBegins (list_of_row n)
list_loopless zero = tt
list_loopless (suc n) = (refl, tt)

map_loopless : (n : ℕ) → NoneBegins (map_of_row n)
map_loopless zero = tt
map_loopless (suc n) = (refl, tt)

merged_loopless : (b : Bool) (n : ℕ) → NoneBegins (merged_code b n)
merged_loopless false n = tt
merged_loopless true n = (refl, tt)

passing_loopless : {n m : _} → (b : Bool) (before : ℕ) (given : Row_of-Argument n) (named : Row_of-Keyword m) (by_place by_name : Fragment)
    (lists : Fragment → Fragment) → Loopless by_place → Loopless by_name → Loopless (lists by_name) →
    Loopless (passing_by row_end b before given named by_place by_name lists)
passing_loopless false before given named by_place by_name lists h k m = (h, k)
passing_loopless true before given named by_place by_name lists h k m = (m, (refl, tt))

mutual
  pub expr_loopless : (e : Expr) → Loopless (expr_code e)
  expr_loopless (Var x) = (refl, tt)
  expr_loopless (Const v) = (refl, tt)
  expr_loopless (List' _ es) = (exprs_loopless es, (refl, tt))
  expr_loopless (Tuple' _ es) = (exprs_loopless es, (refl, tt))
  expr_loopless (Map' _ ps) = (pairs_loopless ps, (refl, tt))
  expr_loopless (Call' f _ given _ named) =
      let by_name : Loopless (merging row_end named (keywords_code row_end 0 named)) = (keywords_loopless 0 named, merged_loopless (has_spread_keyword named) _) in (
        passing_loopless (has_spread given) 0 given named _ _ _ (arguments_loopless given) by_name
            (lists_loopless 0 given _ _ by_name),
        (refl, tt),
      )
  expr_loopless (SelfBlock x) = (refl, (refl, (refl, tt)))
  expr_loopless (unary op a) = (expr_loopless a, unary_loopless op)
  expr_loopless (chained a _ ss) = (expr_loopless a, steps_loopless ss)
  expr_loopless (conditional a _ cs) = conditions_loopless cs (expr_code a) (expr_loopless a)

  conditions_loopless : {n : _} → (cs : Row_of-Condition n) (value : Fragment) → Loopless value → Loopless (conditions_code cs value)
  conditions_loopless no_condition value h = h
  conditions_loopless (with_condition c e more) value h = conditions_loopless more _ (expr_loopless c, ((tt, h), expr_loopless e))

  exprs_loopless : {n : _} → (es : Row_of-Expr n) → Loopless (exprs_code es)
  exprs_loopless no_expr = tt
  exprs_loopless (expr e more) = (expr_loopless e, exprs_loopless more)

  pairs_loopless : {n : _} → (ps : Row_of-Pair n) → Loopless (pairs_code ps)
  pairs_loopless no_pair = tt
  pairs_loopless (with_pair k v more) = (expr_loopless k, (expr_loopless v, pairs_loopless more))

  argument_loopless : (a : Argument) → Loopless (argument_code a)
  argument_loopless (plain a) = expr_loopless a
  argument_loopless (spread a) = expr_loopless a

  pub arguments_loopless : {n : _} → (given : Row_of-Argument n) → Loopless (arguments_code given)
  arguments_loopless no_argument = tt
  arguments_loopless (argument a more) = (argument_loopless a, arguments_loopless more)

  listed_loopless : (n : ℕ) (a : Argument) → Loopless (listed_code n a)
  listed_loopless n (plain a) = expr_loopless a
  listed_loopless n (spread a) = (list_loopless n, expr_loopless a)

  lists_loopless : {n : _} → (before : ℕ) (given : Row_of-Argument n) (more : ℕ) (by_name : Fragment) → Loopless by_name →
      Loopless (lists_code before given more by_name)
  lists_loopless before no_argument more by_name h = (h, list_loopless (before + more))
  lists_loopless before (argument a rest) more by_name h =
      (listed_loopless before a, lists_loopless (row_after before a) rest more by_name h)

  keyword_loopless : (n : ℕ) (k : Keyword) → Loopless (keyword_code n k)
  keyword_loopless n (keyword x a) = ((refl, tt), expr_loopless a)
  keyword_loopless n (spread_keywords a) = (map_loopless n, expr_loopless a)

  keywords_loopless : {n : _} → (before : ℕ) (ks : Row_of-Keyword n) → Loopless (keywords_code row_end before ks)
  keywords_loopless before no_keyword = map_loopless before
  keywords_loopless before (keyword_and k more) = (keyword_loopless before k, keywords_loopless (keywords_after before k) more)

  pub step_loopless : (s : Step) → Loopless (step_code s)
  step_loopless (Attribute x) = (refl, tt)
  step_loopless (item a) = (expr_loopless a, (refl, tt))
  step_loopless (Apply' k x _ given _ named) =
      let by_name : Loopless (merging row_end named (keywords_code row_end 0 named)) = (keywords_loopless 0 named, merged_loopless (has_spread_keyword named) _) in (
        passing_loopless (has_spread given) 1 given named _ _ _ (arguments_loopless given) by_name
            (lists_loopless 1 given _ _ by_name),
        application_loopless k x (passed_count row_end 1 given named),
      )
  step_loopless (Called _ given _ named) =
      let by_name : Loopless (merging row_end named (keywords_code row_end 0 named)) = (keywords_loopless 0 named, merged_loopless (has_spread_keyword named) _) in (
        passing_loopless (has_spread given) 1 given named _ _ _ (arguments_loopless given) by_name
            (lists_loopless 1 given _ _ by_name),
        (refl, tt),
      )
  step_loopless (slice a b c) = (expr_loopless a, (expr_loopless b, (expr_loopless c, (refl, tt))))
  step_loopless (binary op a) = (expr_loopless a, binary_loopless op)
  step_loopless (compare op a _ cs) = (expr_loopless a, (links_loopless op cs, (refl, (refl, tt))))
  step_loopless (and_then a) = (tt, expr_loopless a)
  step_loopless (or_else a) = (tt, expr_loopless a)

  links_loopless : {n : _} → (op : BinaryOperator) (cs : Row_of-Comparison n) → Loopless (links_code op cs)
  links_loopless op no_comparison = binary_loopless op
  links_loopless op (with_comparison op1 a more) = ((refl, tt), (tt, (expr_loopless a, links_loopless op1 more)))

  steps_loopless : {n : _} → (ss : Row_of-Step n) → Loopless (steps_code ss)
  steps_loopless no_step = tt
  steps_loopless (step s ss) = (step_loopless s, steps_loopless ss)

-- ---------------------------------------------------------------- nor do targets
mutual
  pub target_loopless : (t : AssignmentTarget) → Loopless (target_code t)
  target_loopless (To x) = (refl, tt)
  target_loopless (Items _ ts) = ((refl, tt), targets_loopless ts)
  target_loopless (Member e x) = (expr_loopless e, (refl, tt))

  targets_loopless : {n : _} → (ts : Row_of-AssignmentTarget n) → Loopless (targets_code ts)
  targets_loopless no_target = tt
  targets_loopless (target t ts) = (target_loopless t, targets_loopless ts)

pub assignments_loopless : (given : List Assignment) → Loopless (assignments_code given)
assignments_loopless [] = tt
assignments_loopless (a ∷ more) = ((expr_loopless a.value, target_loopless a.target), assignments_loopless more)

filters_loopless : (filters : List Step) → Loopless (filters_code filters)
filters_loopless [] = tt
filters_loopless (f ∷ more) = (step_loopless f, filters_loopless more)

use_loopless : (u : CaptureUse) → Loopless (use_code u)
use_loopless uses.Emit = (refl, tt)
use_loopless (uses.Assign t) = target_loopless t

-- ---------------------------------------------------------------- statements begin their loops
closed_loopless : (os : List Opened) → NoneBegins (close_all os)
closed_loopless [] = tt
closed_loopless (a_scope ∷ os) = (refl, closed_loopless os)
closed_loopless (an_escape ∷ os) = (refl, closed_loopless os)
closed_loopless (a_capture ∷ os) = (refl, (refl, closed_loopless os))

-- what stands after the rounds of a loop that is called
after_exit : (all : List Instruction) (l : Labels) (end : ℕ) (os : List Opened) (other : Otherwise) →
    At all l end (after_loop_code os other) → HasAt all end (i.PopLoopFrame ∷ []) ⊎ HasAt all end
    (i.PushDidNotIterate ∷ i.PopLoopFrame ∷ [])
after_exit all l end os no_else h = inl h
after_exit all l end os (otherwise _ body) h = inr h.0

-- ---------------------------------------------------------------- nor do imports
included_loopless : (e : Expr) → Loopless (included_code e)
included_loopless e = ((refl, tt), (expr_loopless e, (refl, tt)))

lookups_loopless : (xs : List Imported) → Loopless (lookups_code xs)
lookups_loopless [] = tt
lookups_loopless (x ∷ xs) = ((refl, tt), lookups_loopless xs)

stores_loopless : (xs : List Imported) → Loopless (stores_code xs)
stores_loopless [] = tt
stores_loopless (x ∷ xs) = (stores_loopless xs, (refl, tt))

-- ---------------------------------------------------------------- nor do the parameters of macros
default_loopless : (default : Option Expr) → Loopless (default_code default)
default_loopless None = tt
default_loopless (Some e) = ((refl, (refl, tt)), (tt, ((refl, tt), expr_loopless e)))

pub parameters_loopless : (ps : List Parameter) → Loopless (parameters_code ps)
parameters_loopless [] = tt
parameters_loopless (p ∷ ps) = (parameters_loopless ps, (default_loopless p.default, (refl, tt)))

pub names_as_many : (ps : List Parameter) → length (parameter_names ps) ≡ length ps
names_as_many [] = refl
names_as_many (p ∷ ps) = ap suc (names_as_many ps)

-- ---------------------------------------------------------------- calls have the macro that they are given
module _ (x : Fragment) where
  -- the value of `caller` among the arguments by their names
  end_has : (n : ℕ) → Has x ((caller_end x).code n)
  end_has n = back (refl, tt) (front it (refl, tt))

  keywords_have : {n : _} → (before : ℕ) (ks : Row_of-Keyword n) → Has x (keywords_code (caller_end x) before ks)
  keywords_have before no_keyword = end_has before
  keywords_have before (keyword_and k more) = back (keyword_loopless before k) (keywords_have (keywords_after before k) more)

  lists_have : {n : _} → (before : ℕ) (given : Row_of-Argument n) (more : ℕ) (by_name : Fragment) → Has x by_name →
      Has x (lists_code before given more by_name)
  lists_have before no_argument more by_name h = front h (list_loopless (before + more))
  lists_have before (argument a rest) more by_name h =
      back (listed_loopless before a) (lists_have (row_after before a) rest more by_name h)

  passing_has_by : {n m : _} → (b : Bool) (before : ℕ) (given : Row_of-Argument n) (named : Row_of-Keyword m) (by_place by_name : Fragment)
      (lists : Fragment → Fragment) → Loopless by_place → Has x by_name → Has x (lists by_name) →
      Has x (passing_by (caller_end x) b before given named by_place by_name lists)
  passing_has_by false before given named by_place by_name lists h k m = back h k
  passing_has_by true before given named by_place by_name lists h k m = front m (refl, tt)

  passing_has : {n m : _} → (before : ℕ) (given : Row_of-Argument n) (named : Row_of-Keyword m) →
      Has x (passing_code (caller_end x) before given named)
  passing_has before given named =
      let by_name = front (keywords_have 0 named) (merged_loopless (has_spread_keyword named) _) in
      passing_has_by (has_spread given) before given named (arguments_code given) _ _ (arguments_loopless given) by_name
      (lists_have before given (together (caller_end x) named) _ by_name)

  alone_has : Has x (called_alone (caller_end x))
  alone_has = front (end_has 0) (refl, tt)

  step_call_has : (s : Step) → Has x (step_call_code (caller_end x) s)
  step_call_has (Apply' k f _ given _ named) =
      front (passing_has 1 given named) (application_loopless k f (passed_count (caller_end x) 1 given named))
  step_call_has (Called _ given _ named) = front (passing_has 1 given named) (refl, tt)
  step_call_has s = back (step_loopless s) alone_has

  steps_call_have : {n : _} → (ss : Row_of-Step n) → Has x (steps_call_code (caller_end x) ss)
  steps_call_have no_step = alone_has
  steps_call_have (step s no_step) = step_call_has s
  steps_call_have (step s (step t more)) = back (step_loopless s) (steps_call_have (step t more))

  pub call_has : (e : Expr) → Has x (call_code (caller_end x) e)
  call_has (Call' f _ given _ named) = front (passing_has 0 given named) (refl, tt)
  call_has (chained a _ ss) = back (expr_loopless a) (steps_call_have ss)
  call_has e = back (expr_loopless e) alone_has

-- ---------------------------------------------------------------- loops and macros that are found
abbrev pub found : {n : _} → Numbers → Option Expr → Bool → AssignmentTarget → Row_of-Stmt n → FoundLoop
found at c r t body = record { recursive = r; target = t; body = body_of body; at = within_loop c at }

-- after the pass of a condition
abbrev pub after_pass : Option Expr → Numbers → Numbers
after_pass c at = record at { loops = at.loops + passes c }

is_loop : {n : _} → (os : List Opened) (at : Numbers) (c : Option Expr) (r : Bool) (t : AssignmentTarget) (body : Row_of-Stmt n)
    (other : Otherwise) →
    IsLoop (found at c r t body) (after_pass c at) (for_flags r) (target_code t ⨾ statements_code [] body) (after_loop_code os other)
is_loop os at c r t body other all l pc is n = (
  refl,
  λ yes. (
    ap for_flags yes,
    record {
      labels = l;
      after = after_loop_code os other;
      code = subst (λ b. At all l pc (looped (for_flags b) (target_code t ⨾ statements_code [] body) (after_loop_code os other))) yes is;
      exit = after_exit all l _ os other is.4;
      numbered =
          subst (λ m. Counts all m (beyond (pc + 1 + 1) (target_code t)) (statements_code [] body))
          (counted_none (within_loop c at) (target_code t) (target_loopless t)) n.1;
    },
  ),
)

is_macro : {n : _} → (at : Numbers) (x : List ℕ) (ps : List Parameter) (body : Row_of-Stmt n) →
    IsMacro (record { parameters = ps; body = body_of body; at = within_macro at }) at (macro_head x ps body)
    (parameters_code ps ⨾ statements_code [] body)
is_macro at x ps body all pc is exit n = (
  names_as_many ps,
  record {
    code = is;
    exit = exit;
    numbered =
        subst (λ m. Counts all m (beyond (pc + 1) (parameters_code ps)) (statements_code [] body))
        (counted_none (within_macro at) (parameters_code ps) (parameters_loopless ps)) n.1;
  },
)

pass_loopless : (t : AssignmentTarget) (c : Expr) → Loopless (pass_round t c)
pass_loopless t c = ((refl, tt), (target_loopless t, (expr_loopless c, ((tt, ((refl, (refl, (refl, tt))), tt)), (refl, tt)))))

-- the pass of a condition
abbrev pass_of : Option Expr → FoundLoop → List FoundLoop
pass_of None l = []
pass_of (Some c) l = record l { recursive = false } ∷ []

pub iterable_begins : (at : Numbers) (t : AssignmentTarget) (e : Expr) (c : Option Expr) (l : FoundLoop) →
    Begins at (iterable_code t e c) (pass_of c l) [] (after_pass c at)
iterable_begins at t e None l =
    let none : at.loops ≡ at.loops + 0 = omega arith in
    subst (λ n. Begins at (expr_code e) [] [] (record at { loops = n })) none (none_begin at (expr_code e) (expr_loopless e))
iterable_begins at t e (Some c) l =
    after_none (straight _) (refl, tt) (after_none (expr_code e) (expr_loopless e)
    (loop_begins {f = record l { recursive = false }} (λ all k pc is first. (refl, λ never. absurd (cc never)))
    (none_begin (one_loop_more at) (pass_round t c) (pass_loopless t c)) (none_begin (one_loop_more at) (straight _) (refl, (refl, tt)))))

with_pass_is : (c : Option Expr) (l : FoundLoop) (ls : List FoundLoop) → pass_of c l ++ l ∷ ls ≡ with_pass c l ls
with_pass_is None l ls = refl
with_pass_is (Some c) l ls = refl

mutual
  pub statement_begins : (os : List Opened) (at : Numbers) (s : Stmt) →
      Begins at (statement_code os s) (loops_of at s) (macros_of at s) (past at s)
  statement_begins os at (If' c _ body other) = after_none (expr_code c) (expr_loopless c)
      (branches_begin os at (statements_code os body) (loops_in at body) (macros_in at body) (pasts at body) (statements_begin os at body)
      other)
  statement_begins os at (Set t e) = none_begin at (set_code t e) (expr_loopless e, target_loopless t)
  statement_begins os at (CaptureBlock' u filters _ body) =
      after_none (straight _) (refl, tt) (before_none (straight (i.EndCapture ∷ []) ⨾ filters_code filters ⨾ use_code u)
      ((refl, tt), (filters_loopless filters, use_loopless u)) (statements_begin (a_capture ∷ os) at body))
  statement_begins os at (With' given _ body) =
      after_none (straight _) (refl, tt) (after_none (assignments_code given) (assignments_loopless given)
      (before_none (straight (i.PopFrame ∷ [])) (refl, tt) (statements_begin (a_scope ∷ os) at body)))
  statement_begins os at (AutoEscape' e _ body) =
      after_none (expr_code e) (expr_loopless e) (after_none (straight _) (refl, tt)
      (before_none (straight (i.PopAutoEscape ∷ [])) (refl, tt) (statements_begin (an_escape ∷ os) at body)))
  statement_begins os at (For' t e c r n body other) =
      let l = found at c r t body in
      let m = within_loop c at in
      let rounds = after_none (target_code t) (target_loopless t) (statements_begin [] m body) in
      subst (λ ls. Begins at (statement_code os (For' t e c r n body other)) ls (macros_of at (For' t e c r n body other))
      (past at (For' t e c r n body other)))
      (with_pass_is c l (loops_in m body ++ loops_else (pasts m body) other))
      (both_begin (iterable_begins at t e c l) (loop_begins (is_loop os at c r t body other) rounds
      (after_loop_begins os (pasts m body) other)))
  statement_begins os at (Macro' x ps _ body) =
      let inner = after_none (parameters_code ps) (parameters_loopless ps) (statements_begin [] (within_macro at) body) in
      before_none (straight (i.StoreLocal x ∷ [])) (refl, tt) (macro_begins (is_macro at x ps body) inner)
  statement_begins os at (CallBlock' e ps _ body) =
      let inner = after_none (parameters_code ps) (parameters_loopless ps) (statements_begin [] (within_macro at) body) in
      before_none (straight (i.Emit ∷ [])) (refl, tt)
      (one_part_begins (call_has _ e) (macro_begins (is_macro at (codes "caller") ps body) inner))
  statement_begins os at (Import e t) =
      none_begin at (statement_code os (Import e t)) ((refl, tt), (included_loopless e, ((refl, (refl, (refl, tt))), target_loopless t)))
  statement_begins os at (FromImport e xs) =
      none_begin at (statement_code os (FromImport e xs))
      ((refl, tt), (included_loopless e, (lookups_loopless xs, ((refl, tt), (stores_loopless xs, (refl, (refl, tt)))))))
  statement_begins os at _ = none_begin at _ (search (rules, expr_loopless, closed_loopless))

  pub statements_begin : {n : _} → (os : List Opened) (at : Numbers) (ss : Row_of-Stmt n) →
      Begins at (statements_code os ss) (loops_in at ss) (macros_in at ss) (pasts at ss)
  statements_begin os at no_statement = none_begin at (straight []) tt
  statements_begin os at (statement s ss) = both_begin (statement_begins os at s) (statements_begin os (past at s) ss)

  branches_begin : (os : List Opened) (at : Numbers) (first : Fragment) (ls : List FoundLoop) (ms : List FoundMacro) (m : Numbers) →
      Begins at first ls ms m → (other : Otherwise) →
      Begins at (branches_code os first other) (ls ++ loops_else m other) (ms ++ macros_else m other) (past_else m other)
  branches_begin os at first ls ms m f no_else =
      subst (λ ks. Begins at (branches_code os first no_else) ks (ms ++ []) m) (sym (append-nil ls))
      (subst (λ ns. Begins at (branches_code os first no_else) ls ns m) (sym (append-nil ms)) (over_begins IfFalse f))
  branches_begin os at first ls ms m f (otherwise _ eb) = either_begins f (statements_begin os m eb)

  after_loop_begins : (os : List Opened) (at : Numbers) (other : Otherwise) →
      Begins at (after_loop_code os other) (loops_else at other) (macros_else at other) (past_else at other)
  after_loop_begins os at no_else = none_begin at (straight (i.PopLoopFrame ∷ [])) (refl, tt)
  after_loop_begins os at (otherwise _ body) = after_none (straight _) (refl, (refl, tt))
      (over_begins IfFalse (statements_begin os at body))
