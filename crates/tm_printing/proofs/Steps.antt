-- The list of what is left to write, as it grows and shrinks.
use Rattle.std.proofs.Common.{◌≡◌, ℕ, ◌+◌, ◌*◌, ◌<◌, ◌≤◌, List, [], ◌∷◌, ◌++◌, Option}
use Rattle.std.proofs.Common.{Some, None, Ok, refl, sym, ap, subst, ◌∙◌, append-nil, append_assoc, arith}
use Rattle.tm_output.specs.Targets.{Laws}
use Rattle.tm_values.specs.Records.{RecordData}
use Rattle.tm_values.specs.Val.{Val, val_size}
use Rattle.tm_printing.proofs.Begun.{Begun, past, stops}
use Rattle.tm_printing.specs.Left.{left_text, left_weight, rest_weight, weight, power, Begins, Advances, IsNoHeavier, IsLighter}
use Rattle.tm_printing.specs.declared.rest.Rest.{Rest}
use Rattle.tm_printing.specs.declared.rest.NextValue.{NextValue}

pub left_text-push : (text : Rest → List ℕ) (xs : List Rest) (x : Rest) → left_text text (xs ++ x ∷ []) ≡ text x ++ left_text text xs
left_text-push text [] x = sym (append-nil (text x))
left_text-push text (y ∷ ys) x =
    ap (λ (l : List ℕ). l ++ text y) (left_text-push text ys x) ∙ append_assoc (text x) (left_text text ys) (text y)

pub left_weight-push : (k : ℕ) (xs : List Rest) (x : Rest) → left_weight k (xs ++ x ∷ []) ≡ left_weight k xs + rest_weight k x
left_weight-push k [] x = omega arith
left_weight-push k (y ∷ ys) x = omega (arith, left_weight-push k ys x)

module _ {T : Type 0} (took stopped : T → List ℕ → T → Type 0) (laws : Laws took stopped) (value : ℕ → Val → List ℕ) (text : Rest → List ℕ)
    (start : T) (whole : List ℕ) (now : T) (x : Rest) (xs : List Rest) (begun : Begun took start whole now (text x ++ left_text text xs))
  where
    -- the target stops before the next value
    pub fails_before : (new : T) → stopped now (text x) new → stopped start whole new
    fails_before new part = stops took stopped laws start now new whole _ (text x) (left_text text xs) begun refl part

    -- the list or the map is written
    pub closed : (new : T) (o : Option NextValue) → o ≡ None → Advances took stopped (Ok o) now (text x) value text new
        → Begun took start whole new (left_text text xs)
    closed new o is written =
        let taken : took now (text x) new = subst (λ (p : Option NextValue). Advances took stopped (Ok p) now (text x) value text new) is
        written in
        past took stopped laws start now new whole _ (text x) (left_text text xs) begun refl taken

    -- a value comes next
    pub at_value : (new : T) (o : Option NextValue) (s : NextValue) → o ≡ Some s → Advances took stopped (Ok o) now (text x) value text new
        → Begun took start whole new (value s.levels s.value.now ++ (text s.after ++ left_text text xs))
    at_value new o s is written =
        let before : Advances took stopped (Ok (Some s)) now (text x) value text new =
        subst (λ (p : Option NextValue). Advances took stopped (Ok p) now (text x) value text new) is written in
        let v = value s.levels s.value.now in
        let parts : text x ++ left_text text xs ≡ before.0 ++ (v ++ (text s.after ++ left_text text xs)) =
        ap (λ (l : List ℕ). l ++ left_text text xs) before.1.1
        ∙ (append_assoc before.0 (v ++ text s.after) (left_text text xs)
        ∙ ap (λ (l : List ℕ). before.0 ++ l) (append_assoc v (text s.after) (left_text text xs))) in
        past took stopped laws start now new whole _ before.0 _ begun parts before.1.0

module _ {T : Type 0} (took stopped : T → List ℕ → T → Type 0) (laws : Laws took stopped) (text : Rest → List ℕ)
    (start : T) (whole : List ℕ) (now : T) (v more : List ℕ) (begun : Begun took start whole now (v ++ more)) where
  -- the target stops within the value
  pub fails_within : (new : T) → stopped now v new → stopped start whole new
  fails_within new part = stops took stopped laws start now new whole _ v more begun refl part

  -- the value had no parts
  pub written_whole : (new : T) (o : Option Rest) → o ≡ None → Begins took stopped (Ok o) now v text new → Begun took start whole new more
  written_whole new o is written =
      let taken : took now v new = subst (λ (p : Option Rest). Begins took stopped (Ok p) now v text new) is written in
      past took stopped laws start now new whole _ v more begun refl taken

  -- it has
  pub opened : (new : T) (o : Option Rest) (y : Rest) → o ≡ Some y → Begins took stopped (Ok o) now v text new
      → Begun took start whole new (text y ++ more)
  opened new o y is written =
      let before : Begins took stopped (Ok (Some y)) now v text new =
      subst (λ (p : Option Rest). Begins took stopped (Ok p) now v text new) is written in
      let parts : v ++ more ≡ before.0 ++ (text y ++ more) =
      ap (λ (l : List ℕ). l ++ more) before.1.1 ∙ append_assoc before.0 (text y) more in
      past took stopped laws start now new whole _ before.0 _ begun parts before.1.0

-- ---- weights

pub closed_lighter : (k : ℕ) (x : Rest) (o : Option NextValue) → o ≡ None → IsLighter (Ok o) x → 0 < k → 0 < rest_weight k x
closed_lighter k x o is light some =
    let at_end : IsLighter (Ok None) x = subst (λ (p : Option NextValue). IsLighter (Ok p) x) is light in
    at_end k some

pub step_lighter : (k : ℕ) (x : Rest) (o : Option NextValue) (s : NextValue) → o ≡ Some s → IsLighter (Ok o) x → 0 < k
    → val_size s.value.now * power k s.levels + rest_weight k s.after < rest_weight k x
step_lighter k x o s is light some =
    let next : IsLighter (Ok (Some s)) x = subst (λ (p : Option NextValue). IsLighter (Ok p) x) is light in
    next k some

pub opened_lighter : (r : RecordData) (levels : ℕ) (v : Val) (o : Option Rest) (y : Rest) → o ≡ Some y → IsNoHeavier (Ok o) r levels v
    → rest_weight (weight r) y ≤ val_size v * power (weight r) levels
opened_lighter r levels v o y is light = subst (λ (p : Option Rest). IsNoHeavier (Ok p) r levels v) is light
