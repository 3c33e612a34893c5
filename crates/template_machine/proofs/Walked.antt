-- What is left of a list after its first elements.
use Rattle.std.proofs.Common.{◌≡◌, ◌∙◌, ◌+◌, ℕ, zero, suc, List, [], ◌∷◌, Some, drop, slice_get, ap, subst, sym}
use Rattle.std.proofs.Common.{add-one}
use Rattle.std.proofs.lemmas.List.Elements.{All-head, All-tail}
use Rattle.tm_syntax.specs.Named.{Named, find}
use Rattle.tm_templates.specs.Templates.{AreFoundIn, Compiled}

first_left : {A : Type 0} (xs : List A) (i : ℕ) (x : A) → slice_get xs i ≡ Some x → drop i xs ≡ x ∷ drop (suc i) xs
first_left [] zero x e = absurd (cc e)
first_left [] (suc i) x e = absurd (cc e)
first_left (y ∷ xs) zero x e = ap (λ z. z ∷ xs) (cc e)
first_left (y ∷ xs) (suc i) x e = first_left xs i x e

pub left : {A : Type 0} (xs seen : List A) (i : ℕ) (x : A) → drop i xs ≡ seen → slice_get xs i ≡ Some x → seen ≡ x ∷ drop (i + 1) xs
left xs seen i x is e = sym is ∙ first_left xs i x e ∙ ap (λ k. x ∷ drop k xs) (sym (add-one i))

-- ---------------------------------------------------------------- an environment's templates
-- the first of what is left is what its name means, and so is each other
pub first_found : (ts these rest : Named Compiled) (t : List ℕ × Compiled) → these ≡ t ∷ rest → AreFoundIn ts these →
    (find t.0 ts ≡ Some t.1) × AreFoundIn ts rest
first_found ts these rest t is found =
    let whole : AreFoundIn ts (t ∷ rest) = subst (AreFoundIn ts) is found in (
      All-head (λ (t : List ℕ × Compiled). find t.0 ts ≡ Some t.1) t rest whole,
      All-tail (λ (t : List ℕ × Compiled). find t.0 ts ≡ Some t.1) t rest whole,
    )
