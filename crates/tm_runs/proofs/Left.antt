-- The one value that a run left.
use Rattle.std.proofs.Common.{◌≡◌, suc, List, [], ◌∷◌, Option, Some, None, MatchOption, length, ap, arith}
use Rattle.tm_values.specs.Val.{Val}

pub only_one : (top : Option Val) (us rest : List Val) → length us ≡ 1 → MatchOption top ((us ≡ []) × (rest ≡ [])) (λ v. us ≡ v ∷ rest) →
    MatchOption top (length us ≡ 1 → ⊥) (λ v. us ≡ v ∷ [])
only_one None us rest one taken = λ e. let none : length us ≡ 0 = ap length taken.0 in absurd (omega (arith, one, none))
only_one (Some v) us [] one taken = taken
only_one (Some v) us (u ∷ rest) one taken =
    let more : length us ≡ suc (suc (length rest)) = ap length taken in absurd (omega (arith, one, more))
