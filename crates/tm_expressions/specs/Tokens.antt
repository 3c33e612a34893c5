-- Tables of signs, and looks at one or two tokens.
use Rattle.std.specs.Prelude.{ℕ, List, true, false, Bool, Option, Some, None, option_map, if◌then◌else◌, nat_eq, ◌||◌, codes}
use Rattle.std.specs.Cmp.Lexicographic.{pointwise}
use denote.Enum.Bare.{sameb}
use Rattle.tm_values.specs.Val as value
use Rattle.tm_values.specs.Val.{Val}
use Rattle.tm_syntax.specs.contracts.token.Sign.{the_type}
use Rattle.tm_syntax.specs.declared.token.Sign.{Sign}
use Rattle.tm_syntax.specs.declared.token.Sign.TheVariants as sign
use Rattle.tm_syntax.specs.declared.token.Token.{Token}
use Rattle.tm_syntax.specs.declared.token.Token.TheVariants as tokens
use Rattle.tm_trees.specs.Trees.{UnaryOperator, Expr}
use Rattle.tm_trees.specs.Trees.unaries
use Rattle.tm_trees.specs.Trees.binaries
use Rattle.tm_trees.specs.Trees.expr_forms as exprs
use Rattle.tm_expressions.specs.declared.tables.Link.{Link}
use Rattle.tm_expressions.specs.declared.tables.Link.TheVariants as links
use Rattle.tm_grammar.specs.Rule.{Look}
use Rattle.tm_grammar.specs.Combinators.{first}
use Rattle.tm_expressions.specs.Looks.{or_else, before}

-- this sign
abbrev pub is : Sign → Token → Option (Unit {0})
is s (tokens.Sign t) = if sameb the_type t s then Some tt else None
is s _ = None

abbrev pub a_name : Token → Option (List ℕ)
a_name (tokens.Name name) = Some name
a_name _ = None

-- the value of a reserved word
abbrev pub constant_of : Sign → Option Val
constant_of sign.True = Some (value.boolean true)
constant_of sign.False = Some (value.boolean false)
constant_of sign.None = Some value.none
constant_of _ = None

abbrev pub a_constant : Token → Option Val
a_constant (tokens.Literal v) = Some v
a_constant (tokens.Sign s) = constant_of s
a_constant _ = None

-- The levels, from the tightest: steps after a value, powers, products, `~`, sums, comparisons,
-- `and`, `or`.
abbrev pub postfix_level : ℕ
postfix_level = 0

abbrev pub power_level : ℕ
power_level = 1

abbrev pub product_level : ℕ
product_level = 2

abbrev pub concatenation_level : ℕ
concatenation_level = 3

abbrev pub sum_level : ℕ
sum_level = 4

abbrev pub comparison_level : ℕ
comparison_level = 5

abbrev pub and_level : ℕ
and_level = 6

abbrev pub or_level : ℕ
or_level = 7

-- Each sign that continues a value: its level, and how.
abbrev pub link_of : Sign → Option (ℕ × Link)
link_of sign.Dot = Some (postfix_level, links.Member)
link_of sign.OpenSquare = Some (postfix_level, links.Item)
link_of sign.OpenRound = Some (postfix_level, links.Call)
link_of sign.Bar = Some (postfix_level, links.Filter)
link_of sign.Is = Some (postfix_level, links.Test)
link_of sign.DoubleStar = Some (power_level, links.Operator binaries.Power)
link_of sign.Star = Some (product_level, links.Operator binaries.Multiply)
link_of sign.Slash = Some (product_level, links.Operator binaries.Divide)
link_of sign.DoubleSlash = Some (product_level, links.Operator binaries.FloorDivide)
link_of sign.Percent = Some (product_level, links.Operator binaries.Remainder)
link_of sign.Tilde = Some (concatenation_level, links.Operator binaries.Concatenate)
link_of sign.Plus = Some (sum_level, links.Operator binaries.Add)
link_of sign.Minus = Some (sum_level, links.Operator binaries.Subtract)
link_of sign.Equal = Some (comparison_level, links.Comparison binaries.Equal)
link_of sign.NotEqual = Some (comparison_level, links.Comparison binaries.NotEqual)
link_of sign.Less = Some (comparison_level, links.Comparison binaries.Less)
link_of sign.LessOrEqual = Some (comparison_level, links.Comparison binaries.LessOrEqual)
link_of sign.Greater = Some (comparison_level, links.Comparison binaries.Greater)
link_of sign.GreaterOrEqual = Some (comparison_level, links.Comparison binaries.GreaterOrEqual)
link_of sign.In = Some (comparison_level, links.Comparison binaries.In)
link_of sign.And = Some (and_level, links.And)
link_of sign.Or = Some (or_level, links.Or)
link_of _ = None

-- Each sign that continues a value after `not`.
abbrev pub negated_link_of : Sign → Option (ℕ × Link)
negated_link_of sign.In = Some (comparison_level, links.Comparison binaries.NotIn)
negated_link_of _ = None

-- Each prefix sign: the level of its operand, and the operator.
abbrev pub prefix_of : Sign → Option (ℕ × UnaryOperator)
prefix_of sign.Minus = Some (power_level, unaries.Negate)
prefix_of sign.Not = Some (and_level, unaries.Not)
prefix_of _ = None

abbrev pub at_level : {A : Type 0} → ℕ → Option (ℕ × A) → Option A
at_level level None = None
at_level level (Some x) = if nat_eq x.0 level then Some x.1 else None

-- the entry of a sign in a table, if it is at this level
abbrev pub sign_at : {A : Type 0} → (Sign → Option (ℕ × A)) → ℕ → Token → Option A
sign_at table level (tokens.Sign s) = at_level level (table s)
sign_at table level _ = None

-- what continues a value at a level: a sign, or `not` and a sign
abbrev pub link : ℕ → Look Token Link
link level = or_else (first (sign_at link_of level)) (before (first (is sign.Not)) (first (sign_at negated_link_of level)))

abbrev pub prefix : ℕ → Look Token UnaryOperator
prefix level = first (sign_at prefix_of level)

-- what follows a part of a slice
abbrev pub ends_part : Token → Bool
ends_part (tokens.Sign sign.Colon) = true
ends_part (tokens.Sign sign.CloseSquare) = true
ends_part _ = false

-- the reserved words as names of tests
abbrev pub test_word : Sign → Option (List ℕ)
test_word sign.And = Some (codes "and")
test_word sign.Or = Some (codes "or")
test_word sign.Not = Some (codes "not")
test_word sign.If = Some (codes "if")
test_word sign.Else = Some (codes "else")
test_word sign.In = Some (codes "in")
test_word sign.Is = Some (codes "is")
test_word sign.True = Some (codes "true")
test_word sign.False = Some (codes "false")
test_word sign.None = Some (codes "none")
test_word _ = None

abbrev pub a_test_word : Token → Option (List ℕ)
a_test_word (tokens.Sign s) = test_word s
a_test_word _ = None

-- the words that may follow a value in a tag
abbrev pub is_kept : List ℕ → Bool
is_kept name =
    pointwise nat_eq name (codes "recursive") || pointwise nat_eq name (codes "ignore") || pointwise nat_eq name (codes "as")
    || pointwise nat_eq name (codes "import")

-- the argument of a test without brackets: a literal, or a name that isn't such a word
abbrev pub bare : Token → Option Expr
bare (tokens.Name name) = if is_kept name then None else Some (exprs.Var name)
bare (tokens.Literal v) = Some (exprs.Const v)
bare (tokens.Sign s) = option_map exprs.Const (constant_of s)
bare _ = None

-- Each sign that continues a target. A bar ends a target: the filters of a set block follow it.
abbrev pub target_link : Sign → Option Link
target_link sign.Dot = Some links.Member
target_link sign.OpenSquare = Some links.Item
target_link sign.OpenRound = Some links.Call
target_link sign.Is = Some links.Test
target_link _ = None

abbrev pub a_target_link : Token → Option Link
a_target_link (tokens.Sign s) = target_link s
a_target_link _ = None

-- what follows a target
abbrev pub ends_target : Token → Option (Unit {0})
ends_target (tokens.Sign sign.Assign) = Some tt
ends_target (tokens.Sign sign.In) = Some tt
ends_target (tokens.Sign sign.CloseRound) = Some tt
ends_target (tokens.Sign sign.BlockEnd) = Some tt
ends_target (tokens.Sign sign.Bar) = Some tt
ends_target _ = None

abbrev pub is_comma : Token → Bool
is_comma (tokens.Sign sign.Comma) = true
is_comma _ = false
