-- What each form of an expression weighs as the program holds it, and lists that are joined.
use Rattle.std.proofs.Common.{arith, ◌≡◌, ◌+◌, ◌++◌, ℕ, suc, List, [], ◌∷◌, refl, ap, length, slice_get, slice_set, Some, ◌<◌, ◌≤◌, zero}
use denote.Hole.Carrier.{hidden}
use Rattle.tm_syntax.specs.declared.tree.UnaryOperator.{UnaryOperator}
use Rattle.tm_syntax.specs.declared.tree.BinaryOperator.{BinaryOperator}
use Rattle.tm_syntax.specs.declared.tree.Argument.{Argument}
use Rattle.tm_syntax.specs.declared.tree.Argument.TheVariants as a
use Rattle.tm_syntax.specs.declared.tree.Argument.TheBlock.{hidden-the_row-Expr-0}
use Rattle.tm_syntax.specs.declared.tree.Argument.TheBlock.{hidden-the_row-Expr-1 as exprs, shape-the_row-Expr-1}
use Rattle.tm_syntax.specs.declared.tree.Argument.TheBlock.{hidden-the_row-Pair-2 as pairs, shape-the_row-Pair-2}
use Rattle.tm_syntax.specs.declared.tree.Argument.TheBlock.{hidden-the_row-Argument-3 as arguments, shape-the_row-Argument-3}
use Rattle.tm_syntax.specs.declared.tree.Argument.TheBlock.{hidden-the_row-Keyword-4 as keywords, shape-the_row-Keyword-4}
use Rattle.tm_syntax.specs.declared.tree.Argument.TheBlock.{hidden-the_row-Step-5 as steps, shape-the_row-Step-5}
use Rattle.tm_syntax.specs.declared.tree.Argument.TheBlock.{hidden-the_row-Condition-6 as conditions, shape-the_row-Condition-6}
use Rattle.tm_syntax.specs.declared.tree.Argument.TheBlock.{hidden-the_row-Comparison-7 as comparisons, shape-the_row-Comparison-7}
use Rattle.tm_syntax.specs.declared.tree.Comparison.{Comparison}
use Rattle.tm_syntax.specs.declared.tree.Condition.{Condition}
use Rattle.tm_syntax.specs.declared.tree.Expr.{Expr}
use Rattle.tm_syntax.specs.declared.tree.Expr.TheVariants as e
use Rattle.tm_syntax.specs.declared.tree.Keyword.{Keyword}
use Rattle.tm_syntax.specs.declared.tree.Keyword.TheVariants as k
use Rattle.tm_syntax.specs.declared.tree.Pair.{Pair}
use Rattle.tm_syntax.specs.declared.tree.Step.{Step}
use Rattle.tm_syntax.specs.declared.tree.Step.TheVariants as s
use Rattle.tm_syntax.specs.Dropping.{weight, exprs_row, pairs_row, argument_weight, arguments_row, keyword_weight, keywords_row}
use Rattle.tm_syntax.specs.Dropping.{conditions_row, step_weight, steps_row, comparisons_row}
use Rattle.tm_syntax.specs.Dropping.{pair_weight, condition_weight, comparison_weight, total}

pub joined : {X : Type 0} (μ : X → ℕ) (xs ys : List X) → total μ (xs ++ ys) ≡ total μ xs + total μ ys
joined μ [] ys = omega arith
joined μ (x ∷ xs) ys = omega (arith, joined μ xs ys)

-- An item weighs less than its list. The first part is trivially true: it gives a tactic the list's weight to match.
pub item_weighs : {X : Type 0} (μ : X → ℕ) (xs : List X) (i : ℕ) (x : X) → slice_get xs i ≡ Some x → (total μ xs ≡ total μ xs) × (μ x < total μ xs)
item_weighs μ [] i x h = absurd (cc)
item_weighs μ (z ∷ xs) zero x h = let e : z ≡ x = cc in (refl, omega (arith, ap μ e))
item_weighs μ (z ∷ xs) (suc i) x h = (refl, omega (arith, (item_weighs μ xs i x h).1))

-- an item of a list is another one
pub set_weighs : {X : Type 0} (μ : X → ℕ) (xs : List X) (i : ℕ) (x y : X) → slice_get xs i ≡ Some x →
    total μ (slice_set xs i y) + μ x ≡ total μ xs + μ y
set_weighs μ [] i x y h = absurd (cc)
set_weighs μ (z ∷ xs) zero x y h = let e : z ≡ x = cc in omega (arith, ap μ e)
set_weighs μ (z ∷ xs) (suc i) x y h = omega (arith, set_weighs μ xs i x y h)

-- A list is no longer than it weighs. The first part is trivially true: it gives a tactic the list's weight to match.
pub no_longer : {X : Type 0} (μ : X → ℕ) (xs : List X) → (total μ xs ≡ total μ xs) × (length xs ≤ total μ xs)
no_longer μ [] = (refl, omega arith)
no_longer μ (x ∷ xs) = (refl, omega (arith, (no_longer μ xs).1))

-- ---------------------------------------------------------------- rows
pub exprs_are : (xs : List Expr) → exprs_row (exprs xs) ≡ total weight xs
unfolding hidden exprs shape-the_row-Expr-1
exprs_are [] = refl
exprs_are (x ∷ xs) = omega (arith, exprs_are xs)

pub pairs_are : (xs : List Pair) → pairs_row (pairs xs) ≡ total pair_weight xs
unfolding hidden pairs shape-the_row-Pair-2
pairs_are [] = refl
pairs_are (x ∷ xs) = omega (arith, pairs_are xs)

pub arguments_are : (xs : List Argument) → arguments_row (arguments xs) ≡ total argument_weight xs
unfolding hidden arguments shape-the_row-Argument-3
arguments_are [] = refl
arguments_are (x ∷ xs) = omega (arith, arguments_are xs)

pub keywords_are : (xs : List Keyword) → keywords_row (keywords xs) ≡ total keyword_weight xs
unfolding hidden keywords shape-the_row-Keyword-4
keywords_are [] = refl
keywords_are (x ∷ xs) = omega (arith, keywords_are xs)

steps_are : (xs : List Step) → steps_row (steps xs) ≡ total step_weight xs
unfolding hidden steps shape-the_row-Step-5
steps_are [] = refl
steps_are (x ∷ xs) = omega (arith, steps_are xs)

conditions_are : (xs : List Condition) → conditions_row (conditions xs) ≡ total condition_weight xs
unfolding hidden conditions shape-the_row-Condition-6
conditions_are [] = refl
conditions_are (x ∷ xs) = omega (arith, conditions_are xs)

comparisons_are : (xs : List Comparison) → comparisons_row (comparisons xs) ≡ total comparison_weight xs
unfolding hidden comparisons shape-the_row-Comparison-7
comparisons_are [] = refl
comparisons_are (x ∷ xs) = omega (arith, comparisons_are xs)

-- ---------------------------------------------------------------- expressions
pub of_unary : (op : UnaryOperator) (x : Expr) → weight (e.Unary op x) ≡ suc (weight x)
unfolding hidden hidden-the_row-Expr-0
of_unary op x = refl

pub of_chain : (x : Expr) (ss : List Step) → weight (e.Chain x ss) ≡ suc (weight x + total step_weight ss)
unfolding hidden hidden-the_row-Expr-0
of_chain x ss = omega (arith, steps_are ss)

pub of_conditional : (x : Expr) (cs : List Condition) → weight (e.Conditional x cs) ≡ suc (weight x + total condition_weight cs)
unfolding hidden hidden-the_row-Expr-0
of_conditional x cs = omega (arith, conditions_are cs)

-- ---------------------------------------------------------------- what stands in them
pub of_plain : (x : Expr) → argument_weight (a.Plain x) ≡ weight x
unfolding hidden hidden-the_row-Expr-0
of_plain x = refl

pub of_spread : (x : Expr) → argument_weight (a.Spread x) ≡ weight x
unfolding hidden hidden-the_row-Expr-0
of_spread x = refl

pub of_named : (name : List ℕ) (x : Expr) → keyword_weight (k.Named name x) ≡ weight x
unfolding hidden hidden-the_row-Expr-0
of_named name x = refl

pub of_spread_keywords : (x : Expr) → keyword_weight (k.Spread x) ≡ weight x
unfolding hidden hidden-the_row-Expr-0
of_spread_keywords x = refl

-- ---------------------------------------------------------------- steps
pub of_item : (x : Expr) → step_weight (s.Item x) ≡ weight x
unfolding hidden hidden-the_row-Expr-0
of_item x = refl

pub of_slice : (x y z : Expr) → step_weight (s.Slice x y z) ≡ weight x + weight y + weight z
unfolding hidden hidden-the_row-Expr-0
of_slice x y z = refl

pub of_binary : (op : BinaryOperator) (x : Expr) → step_weight (s.Binary op x) ≡ weight x
unfolding hidden hidden-the_row-Expr-0
of_binary op x = refl

pub of_compare : (op : BinaryOperator) (x : Expr) (cs : List Comparison) →
    step_weight (s.Compare op x cs) ≡ weight x + total comparison_weight cs
unfolding hidden hidden-the_row-Expr-0
of_compare op x cs = omega (arith, comparisons_are cs)

pub of_and : (x : Expr) → step_weight (s.And x) ≡ weight x
unfolding hidden hidden-the_row-Expr-0
of_and x = refl

pub of_or : (x : Expr) → step_weight (s.Or x) ≡ weight x
unfolding hidden hidden-the_row-Expr-0
of_or x = refl

pub ruleset passed = (arguments_are, keywords_are)

pub ruleset of_expr = (exprs_are, pairs_are, passed, of_unary, of_chain, of_conditional)

pub ruleset of_part = (of_plain, of_spread, of_named, of_spread_keywords)

pub ruleset of_step = (passed, of_item, of_slice, of_binary, of_compare, of_and, of_or)

pub ruleset in_lists = (joined, item_weighs, set_weighs)
