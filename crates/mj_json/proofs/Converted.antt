-- What is converted one after another, and what is left.
use Rattle.std.proofs.Common.{◌≡◌, List, [], ◌∷◌, ◌++◌, Option, None, Some, option_map, option_and_then, refl, sym, ap, ◌∙◌}
use Rattle.std.proofs.Common.{ℕ, ◌≤◌, max, append_assoc, append-nil, arith}

-- these are done, and what is left after them makes up the whole
abbrev pub Leaves : {B : Type 0} → List B → Option (List B) → Option (List B) → Type 0
Leaves done left whole = option_map (λ xs. done ++ xs) left ≡ whole

-- the next one is done
pub next_done : {A B : Type 0} (f : A → B) (done : List B) (o : Option A) (a : A) (left whole : Option (List B)) → o ≡ Some a →
    Leaves done (option_and_then (λ x. option_map (λ xs. f x ∷ xs) left) o) whole → Leaves (done ++ f a ∷ []) left whole
next_done f done o a left whole is leaves = grown done (f a) left
    ∙ (ap (λ p. option_map (λ xs. done ++ xs) (option_and_then (λ x. option_map (λ xs. f x ∷ xs) left) p)) (sym is) ∙ leaves)
  where
    grown : {B : Type 0} (done : List B) (x : B) (left : Option (List B)) →
        option_map (λ xs. (done ++ x ∷ []) ++ xs) left ≡ option_map (λ xs. done ++ xs) (option_map (λ xs. x ∷ xs) left)
    grown done x None = refl
    grown done x (Some xs) = ap Some (append_assoc done (x ∷ []) xs)

-- nothing is left
pub all_done : {B : Type 0} (done : List B) (whole : Option (List B)) → Leaves done (Some []) whole → whole ≡ Some done
all_done done whole leaves = sym leaves ∙ ap Some (append-nil done)

-- a bound of the deepest bounds each
pub max_below : (a b n : ℕ) → max a b ≤ n → (a ≤ n) × (b ≤ n)
max_below a b n h = (omega (arith, h), omega (arith, h))
