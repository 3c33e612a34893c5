use Rattle.std.proofs.Common.{◌≡◌, Bool, refl}
use Rattle.tm_values.specs.Agreement.{values_agree}
use Rattle.tm_values.specs.Order.{val_cmp}
use Rattle.tm_values.specs.Total.{val_cmp_total}
use Rattle.tm_values.specs.Val.{Val, undefined, none, boolean, number, text, list, map, keywords, exports, function, macro, loop, namespace}
use Rattle.tm_values.specs.Val.{whole_of}
use Rattle.tm_values.proofs.order.order_law.Goals as goal

as_whole : (b : Bool) (v : Val) → val_cmp v (boolean b) ≡ val_cmp v (number (whole_of b))
as_whole b (undefined s) = refl
as_whole b none = refl
as_whole b (boolean c) = refl
as_whole b (number z) = refl
as_whole b (text s m) = refl
as_whole b (list vs) = refl
as_whole b (map ps) = refl
as_whole b (keywords ps) = refl
as_whole b (exports ps s) = refl
as_whole b (function n) = refl
as_whole b (macro m) = refl
as_whole b (loop i n) = refl
as_whole b (namespace i n) = refl

pub returns : goal.returns
returns c = record { total = val_cmp_total; equality = values_agree; truth = λ b v. refl; truth_after = as_whole }
