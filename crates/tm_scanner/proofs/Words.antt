-- Words that are looked up in a table's parts.
use Rattle.std.proofs.Common.{◌≡◌, ℕ, zero, suc, List, [], ◌∷◌, Bool, true, false, Option, Some, refl}
use Rattle.std.specs.Prelude.{drop, take, nat_eq, if◌then◌else◌}
use Rattle.std.specs.Option.{option_or}
use Rattle.std.specs.Cmp.Lexicographic.{pointwise}
use Rattle.tm_scanner.specs.Names.{look_up}

-- what a word stands for is decided by the first pair, or else by the others
one_more : {A : Type 0} (is : Bool) (x : A) (o p all : Option A) → option_or o p ≡ all →
    option_or (if is then Some x else o) p ≡ (if is then Some x else all)
one_more true x o p all e = refl
one_more false x o p all e = e

-- A word is looked up in the first pairs of a table, and if it isn't there in the others.
pub look_up_parts : {A : Type 0} (n : ℕ) (words : List (List ℕ × A)) (name : List ℕ) →
    option_or (look_up (take n words) name) (look_up (drop n words) name) ≡ look_up words name
look_up_parts zero words name = refl
look_up_parts (suc n) [] name = refl
look_up_parts (suc n) (w ∷ words) name = one_more (pointwise nat_eq w.0 name) w.1 _ _ _ (look_up_parts n words name)
