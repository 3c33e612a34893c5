-- Levels of operators, parsed in one go.
use Rattle.std.specs.Prelude.{◌≡◌, ℕ, zero, suc, ◌-◌, ◌<◌, ◌≤◌, List, [], Option, Some, None, nat_le, nat_lt, ◌&&◌, if◌then◌else◌}
use Rattle.tm_syntax.specs.declared.token.Token.{Token}
use Rattle.tm_syntax.specs.declared.token.Token.TheVariants as tokens
use Rattle.tm_trees.specs.Trees.{UnaryOperator, Expr}
use Rattle.tm_trees.specs.Trees.expr_forms as exprs
use Rattle.tm_expressions.specs.declared.expressions.OperandStart.{OperandStart}
use Rattle.tm_grammar.specs.Combinators.{first, branch, pure, ◌>>=◌}
use Rattle.tm_expressions.specs.Grammar.{Rule, Inside, primary, operand, steps_from, chained, conditions_from, conditional}
use Rattle.tm_expressions.specs.Tokens.{postfix_level, prefix_of, link}

abbrev pub up_to : {A : Type 0} → ℕ → Option (ℕ × A) → Option (ℕ × A)
up_to level None = None
up_to level (Some x) = if nat_lt postfix_level x.0 && nat_le x.0 level then Some x else None

-- a prefix whose operand is of at most this level: the level of the operand, and the operator
abbrev pub prefix_up_to : ℕ → Token → Option (ℕ × UnaryOperator)
prefix_up_to level (tokens.Sign s) = up_to level (prefix_of s)
prefix_up_to level _ = None

-- the start of an operand of a level, and the level whose operand it is
unfoldable pub operand_start : Inside → ℕ → Rule OperandStart
operand_start i level = branch (first (prefix_up_to level))
    (λ p. do
      x ← i.operand p.0
      pure (record { value = exprs.Unary p.1 x; level = p.0 }))
    (do
      x ← primary i
      pure (record { value = x; level = postfix_level }))

-- an operand, and the steps of n levels after it, from its own level on
unfoldable pub climbed : Inside → ℕ → ℕ → Expr → Rule Expr
climbed i zero level x = pure x
climbed i (suc n) level x = do
  ss ← steps_from i (operand i level) level []
  climbed i n (suc level) (chained x ss)

-- an operand, and the steps of all levels after it, from its own on up to `end`
abbrev pub levels : Inside → ℕ → ℕ → Expr → Rule Expr
levels i level end x = climbed i (end - level) level x

-- a value and the conditions after it
abbrev pub conditioned : Inside → Expr → Rule Expr
conditioned i x = do
  cs ← conditions_from i []
  pure (conditional x cs)

-- a value with the steps of the tightest level after it
abbrev pub postfixed : Inside → Expr → Rule Expr
postfixed i x = do
  ss ← steps_from i (operand i postfix_level) postfix_level []
  pure (chained x ss)

-- Nothing continues a value here at any level from `from` on and before `end`.
abbrev pub EndsBefore : ℕ → ℕ → List Token → Type 0
EndsBefore from end ts = (level : ℕ) → from ≤ level → level < end → (link level).sees ts ≡ None

-- the first level, from `from` on and before `end`, at which something may continue a value
abbrev pub GoesOnAt : Option ℕ → ℕ → ℕ → List Token → Type 0
GoesOnAt None from end ts = EndsBefore from end ts
GoesOnAt (Some found) from end ts = from ≤ found × found < end × EndsBefore from found ts
