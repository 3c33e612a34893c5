-- The forms of a tree that hold boxes, as patterns that look through the box.
use Rattle.std.specs.Prelude.{ℕ, List, Bool, true, false}
use mathlib.Core.Former.{arity, this, one_more}
use Rattle.tm_items.specs.formers.items.Items as items
use Rattle.tm_syntax.specs.declared.tree.UnaryOperator.{UnaryOperator}
use Rattle.tm_syntax.specs.declared.tree.BinaryOperator.{BinaryOperator}
use Rattle.tm_syntax.specs.declared.tree.Expr.{Expr, Call', Unary', Chain', Conditional', end_of-Expr, more_of-Expr, Row_of-Step}
use Rattle.tm_syntax.specs.declared.tree.Expr.{Row_of-Condition, more_of-Condition}
use Rattle.tm_syntax.specs.declared.tree.Expr.{Row_of-Pair, more_of-Pair}
use Rattle.tm_syntax.specs.declared.tree.Argument.{Argument, Plain', Spread' as Items'}
use Rattle.tm_syntax.specs.declared.tree.Keyword.{Keyword, Named', Spread' as Pairs'}
use Rattle.tm_syntax.specs.declared.tree.Step.{Step, Item', Slice', Binary', Compare', And', Or', Row_of-Comparison, more_of-Comparison}

pattern abbrev pub unary : UnaryOperator → Expr → Expr
unary op a = Unary' op tt (more_of-Expr a end_of-Expr)

pattern abbrev pub chained : Expr → (n : (items.the_former (this {0})).Shape) → Row_of-Step (arity (items.the_former (this {0})) n) → Expr
chained a n ss = Chain' tt (more_of-Expr a end_of-Expr) n ss

pattern abbrev pub conditional : Expr → (n : (items.the_former (this {0})).Shape) →
    Row_of-Condition (arity (items.the_former (this {0})) n) → Expr
conditional a n cs = Conditional' tt (more_of-Expr a end_of-Expr) n cs

pattern abbrev pub with_condition : {n : _} → Expr → Expr → Row_of-Condition n → Row_of-Condition (one_more n)
with_condition c e more = more_of-Condition tt (more_of-Expr c end_of-Expr) tt (more_of-Expr e end_of-Expr) more

pattern abbrev pub with_comparison : {n : _} → BinaryOperator → Expr → Row_of-Comparison n → Row_of-Comparison (one_more n)
with_comparison op a more = more_of-Comparison op tt (more_of-Expr a end_of-Expr) more

pattern abbrev pub plain : Expr → Argument
plain a = Plain' tt (more_of-Expr a end_of-Expr)

pattern abbrev pub spread : Expr → Argument
spread a = Items' tt (more_of-Expr a end_of-Expr)

pattern abbrev pub keyword : List ℕ → Expr → Keyword
keyword x a = Named' x tt (more_of-Expr a end_of-Expr)

pattern abbrev pub spread_keywords : Expr → Keyword
spread_keywords a = Pairs' tt (more_of-Expr a end_of-Expr)

pattern abbrev pub with_pair : {n : _} → Expr → Expr → Row_of-Pair n → Row_of-Pair (one_more n)
with_pair k v more = more_of-Pair tt (more_of-Expr k end_of-Expr) tt (more_of-Expr v end_of-Expr) more

pattern abbrev pub item : Expr → Step
item a = Item' tt (more_of-Expr a end_of-Expr)

pattern abbrev pub slice : Expr → Expr → Expr → Step
slice a b c = Slice' tt (more_of-Expr a end_of-Expr) tt (more_of-Expr b end_of-Expr) tt (more_of-Expr c end_of-Expr)

pattern abbrev pub binary : BinaryOperator → Expr → Step
binary op a = Binary' op tt (more_of-Expr a end_of-Expr)

pattern abbrev pub compare : BinaryOperator → Expr → (n : (items.the_former (this {0})).Shape) →
    Row_of-Comparison (arity (items.the_former (this {0})) n) → Step
compare op a n cs = Compare' op tt (more_of-Expr a end_of-Expr) n cs

pattern abbrev pub and_then : Expr → Step
and_then a = And' tt (more_of-Expr a end_of-Expr)

pattern abbrev pub or_else : Expr → Step
or_else a = Or' tt (more_of-Expr a end_of-Expr)

-- whether an expression is a call of a function by name
abbrev pub is_named_call : Expr → Bool
is_named_call (Call' f n given m named) = true
is_named_call _ = false
