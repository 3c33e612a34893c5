-- The weight of an expression, and how it changes when a part is exchanged.
use Rattle.std.specs.Prelude.{ℕ, suc, ◌+◌, ◌<◌, ◌≤◌, ◌≡◌, Bool, true, false, List, [], ◌∷◌}
use Rattle.tm_syntax.specs.Forms.{unary, chained, conditional, with_condition, with_comparison, with_pair, plain, spread, keyword}
use Rattle.tm_syntax.specs.Forms.{spread_keywords, item, slice, binary, compare, and_then, or_else}
use Rattle.tm_syntax.specs.declared.tree.Expr.{Expr, Var, Const, List', Tuple', Map', Call', SelfBlock, Row_of-Expr}
use Rattle.tm_syntax.specs.declared.tree.Expr.{end_of-Expr as no_expr, more_of-Expr as expr, Row_of-Pair, end_of-Pair as no_pair}
use Rattle.tm_syntax.specs.declared.tree.Expr.{Row_of-Argument, end_of-Argument as no_argument, more_of-Argument as argument}
use Rattle.tm_syntax.specs.declared.tree.Expr.{Row_of-Keyword, end_of-Keyword as no_keyword, more_of-Keyword as keyword_and, Row_of-Step}
use Rattle.tm_syntax.specs.declared.tree.Expr.{end_of-Step as no_step, more_of-Step as step, Row_of-Condition}
use Rattle.tm_syntax.specs.declared.tree.Expr.{end_of-Condition as no_condition}
use Rattle.tm_syntax.specs.declared.tree.Argument.{Argument}
use Rattle.tm_syntax.specs.declared.tree.Comparison.{Comparison}
use Rattle.tm_syntax.specs.declared.tree.Condition.{Condition}
use Rattle.tm_syntax.specs.declared.tree.Keyword.{Keyword}
use Rattle.tm_syntax.specs.declared.tree.Pair.{Pair}
use Rattle.tm_syntax.specs.declared.tree.Step.{Step, Attribute, Apply', Call' as Called, Row_of-Comparison, end_of-Comparison as no_comparison}

-- each expression that may hold others counts one, and so does each item of a row: leaves weigh
-- nothing
abbrev mutual
  pub weight : Expr → ℕ
  weight (Var x) = 0
  weight (Const c) = 0
  weight (List' n all) = suc (exprs_row all)
  weight (Tuple' n all) = suc (exprs_row all)
  weight (Map' n all) = suc (pairs_row all)
  weight (Call' f n given m named) = suc (arguments_row given + keywords_row named)
  weight (SelfBlock x) = 0
  weight (unary op a) = suc (weight a)
  weight (chained a n ss) = suc (weight a + steps_row ss)
  weight (conditional a n cs) = suc (weight a + conditions_row cs)

  pub exprs_row : {n : _} → Row_of-Expr n → ℕ
  exprs_row no_expr = 0
  exprs_row (expr a more) = suc (weight a + exprs_row more)

  pub pairs_row : {n : _} → Row_of-Pair n → ℕ
  pairs_row no_pair = 0
  pairs_row (with_pair k v more) = suc (weight k + weight v + pairs_row more)

  pub argument_weight : Argument → ℕ
  argument_weight (plain a) = weight a
  argument_weight (spread a) = weight a

  pub arguments_row : {n : _} → Row_of-Argument n → ℕ
  arguments_row no_argument = 0
  arguments_row (argument a more) = suc (argument_weight a + arguments_row more)

  pub keyword_weight : Keyword → ℕ
  keyword_weight (keyword x a) = weight a
  keyword_weight (spread_keywords a) = weight a

  pub keywords_row : {n : _} → Row_of-Keyword n → ℕ
  keywords_row no_keyword = 0
  keywords_row (keyword_and k more) = suc (keyword_weight k + keywords_row more)

  pub conditions_row : {n : _} → Row_of-Condition n → ℕ
  conditions_row no_condition = 0
  conditions_row (with_condition c e more) = suc (weight c + weight e + conditions_row more)

  pub step_weight : Step → ℕ
  step_weight (Attribute x) = 0
  step_weight (item a) = weight a
  step_weight (Apply' how x n given m named) = arguments_row given + keywords_row named
  step_weight (Called n given m named) = arguments_row given + keywords_row named
  step_weight (slice a b c) = weight a + weight b + weight c
  step_weight (binary op a) = weight a
  step_weight (compare op a n cs) = weight a + comparisons_row cs
  step_weight (and_then a) = weight a
  step_weight (or_else a) = weight a

  pub steps_row : {n : _} → Row_of-Step n → ℕ
  steps_row no_step = 0
  steps_row (step s more) = suc (step_weight s + steps_row more)

  pub comparisons_row : {n : _} → Row_of-Comparison n → ℕ
  comparisons_row no_comparison = 0
  comparisons_row (with_comparison op a more) = suc (weight a + comparisons_row more)

abbrev pub pair_weight : Pair → ℕ
pair_weight p = weight p.key + weight p.value

abbrev pub condition_weight : Condition → ℕ
condition_weight c = weight c.test + weight c.otherwise

abbrev pub comparison_weight : Comparison → ℕ
comparison_weight c = weight c.right

abbrev pub total : {X : Type 0} → (X → ℕ) → List X → ℕ
total μ [] = 0
total μ (x ∷ xs) = suc (μ x + total μ xs)

-- Whether a part of an expression was exchanged, with the weights of the whole and of the other
-- expression before and after. A part that was taken may hold others. If none was taken, the whole
-- contains only leaves.
abbrev pub Exchanged : Bool → ℕ → ℕ → Expr → Expr → Type 0
Exchanged was whole whole' other other' = record {
  no_more : whole' + weight other' ≤ whole + weight other;
  taken : was ≡ true → (0 < weight other') × (weight other' ≤ whole);
  left : was ≡ false → (whole' ≡ 0) × (other' ≡ other);
}
