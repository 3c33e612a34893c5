-- One nesting less, and what stands after a value or a comparison.
use Rattle.std.proofs.Common.{◌≡◌, ℕ, zero, suc, ◌-◌, true, false, List, [], ◌∷◌, None, refl, sym, ap, arith}
use Rattle.tm_syntax.specs.declared.token.Token.{Token}
use Rattle.tm_trees.specs.Trees.{Expr, BinaryOperator, Comparison, Condition, Step}
use Rattle.tm_trees.specs.Trees.expr_forms as exprs
use Rattle.tm_trees.specs.Trees.step_forms as steps
use Rattle.tm_grammar.specs.Meanings.{got}
use Rattle.tm_expressions.specs.Grammar.{inside, expr, operand, chained, compared, conditional, are_none}

pub suc-sub-one : (n : ℕ) → suc n - 1 ≡ n
suc-sub-one n = omega arith

pub no_room : (depth : ℕ) (ts : List Token) → depth ≡ 0 → (inside depth).room.reads ts ≡ None
unfolding inside
no_room depth ts h = ap (λ k. (inside k).room.reads ts) h

pub some_room : (depth : ℕ) (ts : List Token) → ¬ (depth ≡ 0) → (inside depth).room.reads ts ≡ got tt ts
unfolding inside
some_room zero ts h = absurd (h refl)
some_room (suc depth) ts h = refl

pub no_expr : (depth : ℕ) (ts : List Token) → depth ≡ 0 → (inside depth).expr.reads ts ≡ None
unfolding inside
no_expr depth ts h = ap (λ k. (inside k).expr.reads ts) h

pub inner_expr : (depth : ℕ) (ts : List Token) → ¬ (depth ≡ 0) → (inside depth).expr.reads ts ≡ (expr (inside (depth - 1))).reads ts
unfolding inside
inner_expr zero ts h = absurd (h refl)
inner_expr (suc depth) ts h = ap (λ k. (expr (inside k)).reads ts) (sym (suc-sub-one depth))

pub no_operand : (depth level : ℕ) (ts : List Token) → depth ≡ 0 → ((inside depth).operand level).reads ts ≡ None
unfolding inside
no_operand depth level ts h = ap (λ k. ((inside k).operand level).reads ts) h

pub inner_operand : (depth level : ℕ) (ts : List Token) → ¬ (depth ≡ 0) → ((inside depth).operand level).reads ts ≡
    (operand (inside (depth - 1)) level).reads ts
unfolding inside
inner_operand zero level ts h = absurd (h refl)
inner_operand (suc depth) level ts h = ap (λ k. (operand (inside k) level).reads ts) (sym (suc-sub-one depth))

pub ruleset expressions = (no_room, some_room, no_expr, inner_expr, no_operand, inner_operand)

pub no_steps : (x : Expr) (ss : List Step) → ss ≡ [] → chained x ss ≡ x
no_steps x ss h = ap (chained x) h

pub some_steps : (x : Expr) (ss : List Step) → ¬ (ss ≡ []) → chained x ss ≡ exprs.Chain x ss
some_steps x [] h = absurd (h refl)
some_steps x (s ∷ ss) h = refl

pub ruleset chains = (no_steps, some_steps)

pub no_comparisons : (op : BinaryOperator) (y : Expr) (cs : List Comparison) → cs ≡ [] → compared op y cs ≡ steps.Binary op y
no_comparisons op y cs h = ap (compared op y) h

pub some_comparisons : (op : BinaryOperator) (y : Expr) (cs : List Comparison) → ¬ (cs ≡ []) → compared op y cs ≡ steps.Compare op y cs
some_comparisons op y [] h = absurd (h refl)
some_comparisons op y (c ∷ cs) h = refl

pub ruleset comparisons = (no_comparisons, some_comparisons)

pub no_conditions : (x : Expr) (cs : List Condition) → cs ≡ [] → conditional x cs ≡ x
no_conditions x cs h = ap (conditional x) h

pub some_conditions : (x : Expr) (cs : List Condition) → ¬ (cs ≡ []) → conditional x cs ≡ exprs.Conditional x cs
some_conditions x [] h = absurd (h refl)
some_conditions x (c ∷ cs) h = refl

pub ruleset conditions = (no_conditions, some_conditions)

pub no_names : {A : Type 0} (xs : List A) → xs ≡ [] → are_none xs ≡ true
no_names xs h = ap are_none h

pub some_names : {A : Type 0} (xs : List A) → ¬ (xs ≡ []) → are_none xs ≡ false
some_names [] h = absurd (h refl)
some_names (x ∷ xs) h = refl

pub ruleset names = (no_names, some_names)
