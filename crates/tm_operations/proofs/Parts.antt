-- A part stands in a text exactly where it can be cut out.
use Rattle.std.proofs.Common.{◌≡◌, ℕ, Bool, true, false, eqb, ◌||◌, ◌&&◌, List, [], ◌∷◌, ◌++◌, refl, ap, subst, sym, arith}
use Rattle.std.proofs.lemmas.Bool.Decides.{nat_tests}
use Rattle.std.specs.Str.Iter.{HasSubslice}
use Rattle.tm_definitions.specs.Containment.{begins, has_part}

same : (x : ℕ) → eqb x x ≡ true
same x = grind (arith, nat_tests)

equal : (x y : ℕ) → eqb x y ≡ true → x ≡ y
equal x y h = grind (arith, nat_tests)

begins-front : (n b : List ℕ) → begins n (n ++ b) ≡ true
begins-front [] b = refl
begins-front (x ∷ n) b = rw (same x, begins-front n b)

one_more : (x y : ℕ) (n s : List ℕ) (e : Bool) → eqb x y ≡ e → e && begins n s ≡ true → (begins n s ≡ true → (b : List ℕ) × (s ≡ n ++ b)) →
    (b : List ℕ) × (y ∷ s ≡ (x ∷ n) ++ b)
one_more x y n s true e h rest = let found = rest h in (found.0, both_same (equal x y e) found.1)
  where
    both_same : {x y : ℕ} {s t : List ℕ} → x ≡ y → s ≡ t → y ∷ s ≡ x ∷ t
    both_same p q = cc
one_more x y n s false e h rest = absurd (cc)

front-begins : (n s : List ℕ) → begins n s ≡ true → (b : List ℕ) × (s ≡ n ++ b)
front-begins [] s h = (s, refl)
front-begins (x ∷ n) [] h = absurd (cc)
front-begins (x ∷ n) (y ∷ s) h = one_more x y n s (eqb x y) refl h (λ e. front-begins n s e)

has-cut : (a n b : List ℕ) → has_part n (a ++ (n ++ b)) ≡ true
has-cut [] n b = at_front n (n ++ b) (begins-front n b)
  where
    at_front : (n s : List ℕ) → begins n s ≡ true → has_part n s ≡ true
    at_front n [] h = h
    at_front n (y ∷ s) h = rw h
has-cut (x ∷ a) n b = after (begins n (x ∷ (a ++ (n ++ b)))) (has_part n (a ++ (n ++ b))) (has-cut a n b)
  where
    after : (x y : Bool) → y ≡ true → x || y ≡ true
    after true y h = refl
    after false y h = h

pub has-part : (n s : List ℕ) → HasSubslice s n → has_part n s ≡ true
has-part n s h = subst (λ (l : List ℕ). has_part n l ≡ true) (sym h.2) (has-cut h.0 n h.1)

front_or_after : (n : List ℕ) (y : ℕ) (s : List ℕ) (e : Bool) → begins n (y ∷ s) ≡ e → e || has_part n s ≡ true →
    (has_part n s ≡ true → HasSubslice s n) → HasSubslice (y ∷ s) n
front_or_after n y s true e h rest = let front = front-begins n (y ∷ s) e in ([], front.0, front.1)
front_or_after n y s false e h rest = let found = rest h in (y ∷ found.0, found.1, ap (λ (l : List ℕ). y ∷ l) found.2)

pub part-has : (n s : List ℕ) → has_part n s ≡ true → HasSubslice s n
part-has n [] h = let front = front-begins n [] h in ([], front.0, front.1)
part-has n (y ∷ s) h = front_or_after n y s (begins n (y ∷ s)) refl h (λ e. part-has n s e)

-- two tests of one fact are equal
pub same_test : (r : Bool) (n s : List ℕ) → ((r ≡ true) → HasSubslice s n) → (HasSubslice s n → (r ≡ true)) → r ≡ has_part n s
same_test true n s to from = sym (has-part n s (to refl))
same_test false n s to from = not_so (has_part n s) refl
  where
    not_so : (e : Bool) → has_part n s ≡ e → false ≡ e
    not_so true e = from (part-has n s e)
    not_so false e = refl
