-- Values that are 0 or 1.
use Rattle.std.proofs.Common.{◌≡◌, ℕ, pos, negsuc, arith, refl}
use Rattle.std.proofs.lemmas.Bool.Decides.{nat_tests}
use Rattle.tm_values.specs.Val.{Val, number}
use Rattle.tm_shapes.specs.Flows.{is_one, is_zero}
use Rattle.tm_shapes.specs.Sites.{is_number}

pub one_is : (v : Val) → is_number v (pos 1) ≡ is_one v
one_is (number (pos n)) = grind (arith, nat_tests)
one_is (number (negsuc n)) = refl
one_is v = refl

pub zero_is : (v : Val) → is_number v (pos 0) ≡ is_zero v
zero_is (number (pos n)) = grind (arith, nat_tests)
zero_is (number (negsuc n)) = refl
zero_is v = refl
