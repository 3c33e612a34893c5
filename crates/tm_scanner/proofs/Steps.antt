-- Items that lead from one place to another, each by a step that has one item and one end.
use Rattle.std.proofs.Common.{◌≡◌, List, [], ◌∷◌, ◌++◌, Option, Some, refl, sym, ◌∙◌, ap, subst, append_assoc}
use Rattle.tm_scanner.specs.Steps.{Steps, joined}

-- from a place there is at most one step
abbrev pub OneStep : {S A : Type 0} → (S → A → S → Type 0) → Type 0
OneStep {S = S} {A = A} step = (s : S) (x y : A) (t u : S) → step s x t → step s y u → (x ≡ y) × (t ≡ u)

-- from a place there is no step
abbrev pub NoStep : {S A : Type 0} → (S → A → S → Type 0) → S → Type 0
NoStep {S = S} {A = A} step s = (x : A) (t : S) → step s x t → ⊥

pub append-nil : {A : Type 0} (xs : List A) → xs ++ [] ≡ xs
append-nil [] = refl
append-nil (x ∷ xs) = ap (λ ys. x ∷ ys) (append-nil xs)

pub joined_last : {A : Type 0} (xs : List (List A)) (x : List A) → joined (xs ++ x ∷ []) ≡ joined xs ++ x
joined_last [] x = append-nil x
joined_last (y ∷ xs) x = ap (λ w. y ++ w) (joined_last xs x) ∙ sym (append_assoc y (joined xs) x)

pub same_some : {A : Type 0} (x y : A) → Some x ≡ Some y → x ≡ y
same_some x y e = cc

-- two results that are one
pub same_result : {A B : Type 0} (x y : A) (r s : B) → ◌≡◌ {A = Option (A × B)} (Some (x, r)) (Some (y, s)) → (x ≡ y) × (r ≡ s)
same_result {A = A} {B = B} x y r s e =
    let pair : ◌≡◌ {A = A × B} (x, r) (y, s) = cc in
    (ap (λ (w : A × B). w.0) pair, ap (λ (w : A × B). w.1) pair)

-- one more step at the end
pub steps_last : {S A : Type 0} (step : S → A → S → Type 0) (s : S) (xs : List A) (t : S) (x : A) (u : S) → Steps step s xs t → step t x u →
    Steps step s (xs ++ x ∷ []) u
steps_last {S = S} step s [] t x u h k = (u, subst (λ (w : S). step w x u) (sym h) k, refl)
steps_last step s (y ∷ xs) t x u h k = (h.0, h.1, steps_last step h.0 xs t x u h.2 k)

-- what leads to where no step is goes on where other items led
pub further : {S A : Type 0} (step : S → A → S → Type 0) (s : S) (xs : List A) (t : S) (ys : List A) (u : S) → OneStep step →
    Steps step s xs t → Steps step s ys u → NoStep step u → (zs : List A) × (ys ≡ xs ++ zs) × Steps step t zs u
further {S = S} step s [] t ys u one h k none = (ys, refl, subst (λ (w : S). Steps step w ys u) h k)
further {S = S} step s (x ∷ xs) t [] u one h k none = absurd (none x h.0 (subst (λ (w : S). step w x h.0) k h.1))
further {S = S} step s (x ∷ xs) t (y ∷ ys) u one h k none =
    let same = one s x y h.0 k.0 h.1 k.1 in
    let rest = further step h.0 xs t ys u one h.2 (subst (λ (w : S). Steps step w ys u) (sym same.1) k.2) none in
    (rest.0, ap (λ w. w ∷ ys) (sym same.0) ∙ ap (λ w. x ∷ w) rest.1, rest.2)

-- two lists of items that each lead to where no step is
pub one_end : {S A : Type 0} (step : S → A → S → Type 0) (s : S) (xs : List A) (t : S) (ys : List A) (u : S) → OneStep step →
    Steps step s xs t → NoStep step t → Steps step s ys u → NoStep step u → (xs ≡ ys) × (t ≡ u)
one_end {S = S} {A = A} step s xs t ys u one h stops k none =
    let more = further step s xs t ys u one h k none in
    by_more more.0 more.1 more.2
  where
    by_more : (zs : List A) → ys ≡ xs ++ zs → Steps step t zs u → (xs ≡ ys) × (t ≡ u)
    by_more [] e w = (sym (e ∙ append-nil xs), w)
    by_more (z ∷ zs) e w = absurd (stops z w.0 w.1)
