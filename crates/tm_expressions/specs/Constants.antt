-- Values as expressions.
use Rattle.std.specs.Prelude.{◌≡◌, List, Option, Some, None}
use Rattle.tm_values.specs.Val as value
use Rattle.tm_values.specs.Val.{Val}
use Rattle.tm_syntax.specs.declared.token.Token.{Token}
use Rattle.tm_trees.specs.Trees.{Expr, Const}
use Rattle.tm_trees.specs.Trees.expr_forms as exprs
use Rattle.tm_grammar.specs.Meanings.{Read, got}

-- the value of a constant expression
abbrev pub value_of : Expr → Val
value_of (Const v) = v
value_of _ = value.none

-- The value that came next was taken, as an expression; or there was none.
abbrev pub TakesConstant : Option Expr → List Token → List Token → Read Token Val → Type 0
TakesConstant None before after seen = (seen ≡ None) × (after ≡ before)
TakesConstant (Some x) before after seen = (x ≡ exprs.Const (value_of x)) × (seen ≡ got (value_of x) after)
