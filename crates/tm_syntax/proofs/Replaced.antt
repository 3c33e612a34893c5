-- What lists of parts weigh once an item is another one. The first part of each is trivially true: it gives a tactic the list to match.
use Rattle.std.proofs.Common.{arith, ap, ◌≡◌, ◌+◌, ◌++◌, ℕ, suc, zero, List, [], ◌∷◌, refl, length, slice_get, slice_set, Some, length-append}
use Rattle.std.proofs.Math.ListN.{length-set}
use Rattle.tm_syntax.specs.declared.tree.Argument.{Argument}
use Rattle.tm_syntax.specs.declared.tree.Comparison.{Comparison}
use Rattle.tm_syntax.specs.declared.tree.Condition.{Condition}
use Rattle.tm_syntax.specs.declared.tree.Expr.{Expr}
use Rattle.tm_syntax.specs.declared.tree.Keyword.{Keyword}
use Rattle.tm_syntax.specs.declared.tree.Pair.{Pair}
use Rattle.tm_syntax.specs.declared.tree.Step.{Step}
use Rattle.tm_syntax.specs.Dropping.{weight, pair_weight, argument_weight, keyword_weight, condition_weight, comparison_weight, step_weight, total}
use Rattle.tm_syntax.proofs.Dropping.{set_weighs}

-- the last item of a list in which that is another one
pub is_last : {X : Type 0} (xs ys : List X) (i : ℕ) (x y : X) → i + 1 ≡ length xs → slice_set xs i y ≡ ys ++ x ∷ [] → x ≡ y
is_last [] ys i x y n e = absurd (omega arith)
is_last (z ∷ xs) [] zero x y n e = cc
is_last (z ∷ xs) (w ∷ ws) zero x y n e = let tail : xs ≡ ws ++ x ∷ [] = cc in absurd (omega (arith, ap length tail, length-append ws (x ∷ [])))
is_last (z ∷ xs) [] (suc i) x y n e = let tail : slice_set xs i y ≡ [] = cc in absurd (omega (arith, ap length tail, length-set xs i y))
is_last (z ∷ xs) (w ∷ ws) (suc i) x y n e = is_last xs ws i x y (omega arith) (cc)

pub exprs : (xs : List Expr) (i : ℕ) (x y : Expr) → slice_get xs i ≡ Some x →
    (slice_set xs i y ≡ slice_set xs i y) × (total weight (slice_set xs i y) + weight x ≡ total weight xs + weight y)
exprs xs i x y h = (refl, set_weighs weight xs i x y h)

pub pairs : (xs : List Pair) (i : ℕ) (x y : Pair) → slice_get xs i ≡ Some x →
    (slice_set xs i y ≡ slice_set xs i y) × (total pair_weight (slice_set xs i y) + pair_weight x ≡ total pair_weight xs + pair_weight y)
pairs xs i x y h = (refl, set_weighs pair_weight xs i x y h)

pub arguments : (xs : List Argument) (i : ℕ) (x y : Argument) → slice_get xs i ≡ Some x →
    (slice_set xs i y ≡ slice_set xs i y) × (total argument_weight (slice_set xs i y) + argument_weight x ≡ total argument_weight xs + argument_weight y)
arguments xs i x y h = (refl, set_weighs argument_weight xs i x y h)

pub keywords : (xs : List Keyword) (i : ℕ) (x y : Keyword) → slice_get xs i ≡ Some x →
    (slice_set xs i y ≡ slice_set xs i y) × (total keyword_weight (slice_set xs i y) + keyword_weight x ≡ total keyword_weight xs + keyword_weight y)
keywords xs i x y h = (refl, set_weighs keyword_weight xs i x y h)

pub conditions : (xs : List Condition) (i : ℕ) (x y : Condition) → slice_get xs i ≡ Some x →
    (slice_set xs i y ≡ slice_set xs i y) × (total condition_weight (slice_set xs i y) + condition_weight x ≡ total condition_weight xs + condition_weight y)
conditions xs i x y h = (refl, set_weighs condition_weight xs i x y h)

pub comparisons : (xs : List Comparison) (i : ℕ) (x y : Comparison) → slice_get xs i ≡ Some x →
    (slice_set xs i y ≡ slice_set xs i y) × (total comparison_weight (slice_set xs i y) + comparison_weight x ≡ total comparison_weight xs + comparison_weight y)
comparisons xs i x y h = (refl, set_weighs comparison_weight xs i x y h)

pub steps : (xs : List Step) (i : ℕ) (x y : Step) → slice_get xs i ≡ Some x →
    (slice_set xs i y ≡ slice_set xs i y) × (total step_weight (slice_set xs i y) + step_weight x ≡ total step_weight xs + step_weight y)
steps xs i x y h = (refl, set_weighs step_weight xs i x y h)
