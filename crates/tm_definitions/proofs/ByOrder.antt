-- A comparison of values can be told from where one stands to the other, since equality agrees with the order.
use Rattle.std.proofs.Common.{◌≡◌, refl, ap}
use Rattle.std.specs.Prelude.{not}
use Rattle.tm_definitions.specs.Comparison.{holds_of, is_met}
use Rattle.tm_definitions.specs.declared.comparison.ComparisonOperator.{ComparisonOperator}
use Rattle.tm_definitions.specs.declared.comparison.ComparisonOperator.TheVariants.{Equal, NotEqual, Less, LessOrEqual, Greater, GreaterOrEqual}
use Rattle.tm_values.specs.Agreement.{values_agree}
use Rattle.tm_values.specs.Order.{val_cmp}
use Rattle.tm_values.specs.Val.{Val}

pub met-by_order : (c : ComparisonOperator) (l r : Val) → holds_of c l r ≡ is_met c (val_cmp l r)
met-by_order Equal l r = values_agree l r
met-by_order NotEqual l r = ap not (values_agree l r)
met-by_order Less l r = refl
met-by_order LessOrEqual l r = refl
met-by_order Greater l r = refl
met-by_order GreaterOrEqual l r = refl
