-- The names that were loaded.
use Rattle.std.proofs.Common.{◌≡◌, ◌∙◌, ◌≢◌, ◌⊎◌, inl, inr, ◌++◌, ◌||◌, ℕ, List, [], ◌∷◌, Bool, true, false, is_some, refl, sym, ap}
use Rattle.std.proofs.lemmas.Slice.Eq.{bytes_eq-Decides}
use Rattle.tm_syntax.specs.Named.{Named, same_name, find, put}
use Rattle.tm_syntax.specs.Names.{is_among}
use Rattle.tm_syntax.proofs.Named.{find_put, find_put_other, same_or_not}
use Rattle.std.specs.Prelude.{Result, Ok, Err, OnOk, is_err}
use Rattle.tm_blocks.specs.Lists.{HasNames}

-- a name after others
among_more : (x y : List ℕ) (names : List (List ℕ)) → is_among x (names ++ y ∷ []) ≡ (same_name x y || is_among x names)
among_more x y [] = refl
among_more x y (z ∷ zs) = ap (λ b. same_name x z || b) (among_more x y zs) ∙ swapped (same_name x z) (same_name x y) (is_among x zs)
  where
    swapped : (a b c : Bool) → (a || (b || c)) ≡ (b || (a || c))
    swapped true true c = refl
    swapped true false c = refl
    swapped false b c = refl

known_by : (table : Named (Unit {0})) (names : List (List ℕ)) (x y : List ℕ) → HasNames table names → (y ≡ x) ⊎ (y ≢ x) →
    is_some (find y (put x tt table)) ≡ (same_name y x || is_among y names)
known_by table names x y has (inl same) =
    ap is_some (ap (λ z. find z (put x tt table)) same ∙ find_put x tt table)
    ∙ sym (ap (λ b. b || is_among y names) ((bytes_eq-Decides y x).1 same))
known_by table names x y has (inr apart) =
    ap is_some (find_put_other y x apart tt table) ∙ has y ∙ sym (ap (λ b. b || is_among y names) (other y x apart))
  where
    other : (y x : List ℕ) → y ≢ x → same_name y x ≡ false
    other y x apart = by_case (same_name y x) refl
      where
        by_case : (b : Bool) → same_name y x ≡ b → same_name y x ≡ false
        by_case true e = absurd (apart ((bytes_eq-Decides y x).0 e))
        by_case false e = e

-- A name more is known.
pub one_known : (table : Named (Unit {0})) (names : List (List ℕ)) (x : List ℕ) → HasNames table names →
    HasNames (put x tt table) (names ++ x ∷ [])
one_known table names x has = λ y. known_by table names x y has (same_or_not y x) ∙ sym (among_more y x names)

pub went_well : {T E P : Type 0} (r : Result T E) → is_err r ≡ false → OnOk r P → P
went_well (Ok x) e p = p
went_well (Err x) e p = absurd (cc e)
