-- A choice for definitions of streams.
use Rattle.std.specs.Prelude.{List, [], ◌∷◌, Bool, true, false}

-- one of two values; only the chosen one is computed
abbrev pub choose : {A : Type 0} → Bool → (Unit {0} → A) → (Unit {0} → A) → A
choose true f g = f tt
choose false f g = g tt

abbrev pub is_empty : {A : Type 0} → List A → Bool
is_empty [] = true
is_empty (x ∷ xs) = false
