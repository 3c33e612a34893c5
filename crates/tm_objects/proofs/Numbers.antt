-- The functions of the language by their numbers, and what stands after them.
use Rattle.std.proofs.Common.{◌≡◌, ℕ, zero, suc, ◌≤◌, List, [], ◌∷◌, ◌++◌, length, Some, true, arith, refl, ap, ◌∙◌}
use Rattle.std.specs.Prelude.{slice_get, ◌-◌, map as each}
use Rattle.tm_meaning.specs.World.{Function, languages}
use Rattle.tm_meaning.specs.declared.function.GlobalFunction.{GlobalFunction}
use Rattle.tm_meaning.specs.declared.function.GlobalFunction.TheVariants as own
use Rattle.tm_objects.specs.Language.{language}
use Rattle.tm_objects.specs.Stated.{after_language}

-- every function of the language has a number
pub numbered : (g : GlobalFunction) → (n : ℕ) × (slice_get (each (λ f. f.1) language) n ≡ Some g)
numbered own.Range = (0, refl)
numbered own.Dict = (1, refl)
numbered own.Namespace = (2, refl)

before-any : (own : List (List ℕ × GlobalFunction)) (fs : List Function) (n : ℕ) (g : GlobalFunction) →
    slice_get (each (λ f. f.1) own) n ≡ Some g →
    slice_get (each (λ f. languages f.1) own ++ fs) n ≡ Some (languages g)
before-any [] fs n g h = cc
before-any (f ∷ own) fs zero g h = cc
before-any (f ∷ own) fs (suc n) g h = before-any own fs n g h

pub before : (fs : List Function) (n : ℕ) (g : GlobalFunction) → slice_get (each (λ f. f.1) language) n ≡ Some g →
    slice_get (after_language true fs) n ≡ Some (languages g)
before fs n g h = before-any language fs n g h

after-any : (own : List (List ℕ × GlobalFunction)) (fs : List Function) (n : ℕ) → length own ≤ n →
    slice_get (each (λ f. languages f.1) own ++ fs) n ≡ slice_get fs (n - length own)
after-any [] fs n h = ap (slice_get fs) (omega arith)
after-any (f ∷ own) fs zero h = absurd (omega (arith, h))
after-any (f ∷ own) fs (suc n) h = after-any own fs n (omega (arith, h)) ∙ ap (slice_get fs) (omega arith)

pub after : (fs : List Function) (n : ℕ) → length language ≤ n → slice_get (after_language true fs) n ≡ slice_get fs (n - length language)
after fs n h = after-any language fs n h
