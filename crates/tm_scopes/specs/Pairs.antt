-- Unordered pairs of names and values, seen in the order of the names.
use Rattle.std.specs.Prelude.{◌≡◌, ℕ, List, [], ◌∷◌, Option, None, Some, option_map, slice_get, take}
use Rattle.tm_syntax.specs.Named.{Named, find, put}

-- The pairs ordered by name; of two pairs with the same name the first counts.
abbrev pub in_order : {A : Type 0} → Named A → Named A
in_order [] = []
in_order (p ∷ ps) = put p.0 p.1 (in_order ps)

-- the place of the first pair with a name
abbrev pub IsPlace : {A : Type 0} → List ℕ → Named A → Option ℕ → Type 0
IsPlace x ps None = find x ps ≡ None
IsPlace x ps (Some n) = (find x (take n ps) ≡ None) × (option_map (λ p. p.0) (slice_get ps n) ≡ Some x)
