-- The six comparisons.
use Rattle.std.specs.Prelude.{Bool, not, Ok}
use Rattle.std.specs.declared.cmp.Ordering.{Ordering}
use Rattle.std.specs.Ordering.{is_lt, is_eq, is_gt}
use Rattle.tm_values.specs.Defined.{refusal_of, unless}
use Rattle.tm_definitions.specs.declared.comparison.ComparisonOperator.{ComparisonOperator}
use Rattle.tm_definitions.specs.declared.comparison.ComparisonOperator.TheVariants.{Equal, NotEqual, Less, LessOrEqual, Greater, GreaterOrEqual}
use Rattle.tm_values.specs.Answer.{Answer}
use Rattle.tm_values.specs.Equality.{same_value}
use Rattle.tm_values.specs.Order.{val_cmp}
use Rattle.tm_values.specs.Val.{Val}
use Rattle.tm_values.specs.declared.undefined.UndefinedBehavior.{UndefinedBehavior}
use Rattle.tm_values.specs.declared.undefined.UndefinedUse.TheVariants as use_of

-- whether the comparison holds for two values in this order
abbrev pub is_met : ComparisonOperator → Ordering → Bool
is_met Equal o = is_eq o
is_met NotEqual o = not (is_eq o)
is_met Less o = is_lt o
is_met LessOrEqual o = not (is_gt o)
is_met Greater o = is_gt o
is_met GreaterOrEqual o = not (is_lt o)

-- whether the comparison holds: `==` and `!=` use equality, the others the order
abbrev pub holds_of : ComparisonOperator → Val → Val → Bool
holds_of Equal l r = same_value l r
holds_of NotEqual l r = not (same_value l r)
holds_of c l r = is_met c (val_cmp l r)

-- undefined operands are checked first, the left one before the right
abbrev pub compared : ComparisonOperator → UndefinedBehavior → Val → Val → Answer Bool
compared c b l r =
    unless (refusal_of b use_of.Comparison l)
    (unless (refusal_of b use_of.Comparison r) (Ok (holds_of c l r)))
