-- Operators that wait for their right operand, and what is parsed after it.
use Rattle.std.specs.Prelude.{ℕ, ◌+◌, ◌*◌, ◌-◌, ◌<◌, List, [], ◌∷◌, ◌++◌, length, Option, Some, None, option_map}
use Rattle.tm_syntax.specs.declared.token.Token.{Token}
use Rattle.tm_trees.specs.Trees.{Expr, Step}
use Rattle.tm_trees.specs.Trees.step_forms as steps
use Rattle.tm_expressions.specs.declared.tables.Link.{Link}
use Rattle.tm_expressions.specs.declared.tables.Link.TheVariants as links
use Rattle.tm_expressions.specs.declared.operators.Reached.{Reached}
use Rattle.tm_expressions.specs.declared.operators.Reading.{Reading}
use Rattle.tm_expressions.specs.declared.operators.Role.{Role}
use Rattle.tm_expressions.specs.declared.operators.Role.TheVariants as roles
use Rattle.tm_expressions.specs.declared.operators.Waiting.{Waiting}
use Rattle.tm_expressions.specs.declared.operators.Made.{Made}
use Rattle.tm_expressions.specs.declared.operators.Made.TheVariants as makes
use Rattle.tm_expressions.specs.declared.operators.Turn.{Turn}
use Rattle.tm_expressions.specs.declared.operators.Turn.TheVariants as turns
use Rattle.tm_grammar.specs.Combinators.{pure, ◌>>=◌}
use Rattle.tm_expressions.specs.Grammar.{Rule, Inside, operand, steps_from, comparisons_from, compared, chained}
use Rattle.tm_expressions.specs.Tokens.{postfix_level}
use Rattle.tm_expressions.specs.Levels.{levels, postfixed}

-- What the right operand after a link belongs to. None if the link has no right operand.
abbrev pub role_of : Link → Option Role
role_of (links.Operator op) = Some (roles.Operator op)
role_of (links.Comparison op) = Some (roles.Comparison op)
role_of links.And = Some roles.And
role_of links.Or = Some roles.Or
role_of _ = None

-- What a right operand completes.
abbrev pub made : Role → Expr → Made
made (roles.Operator op) y = makes.Step (steps.Binary op y)
made (roles.Comparison op) y = makes.Row (record { operator = op; right = y; after = [] })
made (roles.After row op) y = makes.Row (record {
  operator = row.operator;
  right = row.right;
  after = row.after ++ record { operator = op; right = y } ∷ [];
})
made roles.And y = makes.Step (steps.And y)
made roles.Or y = makes.Step (steps.Or y)

-- the completed step, if no other comparison follows
abbrev pub step_of : Made → Step
step_of (makes.Step s) = s
step_of (makes.Row row) = compared row.operator row.right row.after

-- The waiting operator after a completed right operand and another link of its level. None if the
-- link isn't allowed there.
abbrev pub again : Reading → Made → Link → Option Waiting
again r (makes.Step s) k = option_map (λ role. record { before = record r { steps = r.steps ++ s ∷ [] }; role = role }) (role_of k)
again r (makes.Row row) (links.Comparison op) = Some (record { before = r; role = roles.After row op })
again r (makes.Row row) _ = None

-- a step, or comparisons and the chained ones after them
abbrev pub completed : Inside → ℕ → Made → Rule Step
completed i level (makes.Step s) = pure s
completed i level (makes.Row row) = do
  cs ← comparisons_from (operand i level) level row.after
  pure (compared row.operator row.right cs)

-- after steps of a level: the other steps of it, and the levels after it
abbrev pub gone_on : Inside → Reading → List Step → Rule Expr
gone_on i r ss = do
  all ← steps_from i (operand i r.level) r.level ss
  levels i r.next r.end (chained r.value all)

-- the same after a completed right operand
abbrev pub after_made : Inside → Reading → Made → Rule Expr
after_made i r m = do
  s ← completed i r.level m
  gone_on i r (r.steps ++ s ∷ [])

-- after a right operand
abbrev pub resumed : Inside → Waiting → Expr → Rule Expr
resumed i w y = after_made i w.before (made w.role y)

-- after the right operand of the last waiting operator: everything up to the whole expression
abbrev pub resumed_all : Inside → List Waiting → Expr → Rule Expr
resumed_all i [] y = pure y
resumed_all i (w ∷ ws) y = do
  x ← resumed_all i ws y
  resumed i w x

-- after a value, with these operators waiting
abbrev pub reached_from : Inside → List Waiting → Reached → Rule Expr
reached_from i ws r = levels i r.level r.end r.value >>= resumed_all i ws

-- a value with its steps of the tightest level, and the levels after that one
abbrev pub after_postfix : Inside → Expr → ℕ → Rule Expr
after_postfix i x end = do
  y ← postfixed i x
  levels i (postfix_level + 1) end y

-- what is left to parse
abbrev pub left : Inside → List Waiting → Turn → Rule Expr
left i ws (turns.After r) = reached_from i ws r
left i ws (turns.Postfix x end) = after_postfix i x end >>= resumed_all i ws
left i ws (turns.Operand level) = operand i level >>= resumed_all i ws
left i ws (turns.Whole x) = pure x

-- No waiting operator is of the tightest level.
abbrev pub AllAbove : List Waiting → Type 0
AllAbove [] = Unit {0}
AllAbove (w ∷ ws) = (postfix_level < w.before.level) × AllAbove ws

-- The size of what is left at a turn: tokens, waiting operators, and levels.
abbrev pub size : List Token → List Waiting → ℕ → ℕ
size ts ws level = 1024 * length ts + 512 * length ws + (256 - level)

-- Unless the turn is the last one, less is left after it.
abbrev pub IsLess : Turn → List Token → List Waiting → ℕ → Type 0
IsLess (turns.After r) ts ws n = size ts ws r.level < n
IsLess (turns.Postfix x end) ts ws n = size ts ws (postfix_level + 1) < n
IsLess (turns.Operand level) ts ws n = size ts ws postfix_level < n
IsLess (turns.Whole x) ts ws n = Unit {0}
