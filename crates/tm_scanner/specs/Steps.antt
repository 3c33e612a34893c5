-- Lists of items that lead from one place to another.
use Rattle.std.specs.Prelude.{◌≡◌, List, [], ◌∷◌, ◌++◌}

-- The items lead from s to t, one step each.
abbrev pub Steps : {S A : Type 0} → (S → A → S → Type 0) → S → List A → S → Type 0
Steps step s [] t = s ≡ t
Steps {S = S} step s (x ∷ xs) t = (u : S) × step s x u × Steps step u xs t

-- all lists concatenated
abbrev pub joined : {A : Type 0} → List (List A) → List A
joined [] = []
joined (x ∷ xs) = x ++ joined xs
