-- Names in the order of their hashes, seen in the order of the texts.
use Rattle.std.proofs.Common.{◌≡◌, ◌∙◌, ◌<◌, ◌≤◌, ◌||◌, ℕ, zero, suc, List, [], ◌∷◌, length, get_or, Bool, true, false, nat_eq, refl, sym, ap, arith}
use Rattle.std.proofs.Math.Dec.{eqb-suc-zero}
use Rattle.std.proofs.Common.{◌⊎◌, inl, inr, subst, Result, Ok, Err, is_ok, Ordering, Less, Equal, Greater}
use Rattle.std.proofs.lemmas.Bool.{cases_lt}
use Rattle.std.proofs.lemmas.List.Folds.{list_any_at}
use Rattle.std.proofs.lemmas.List.Sorted.{list_any-IsPermutation, searchable_from_sorted}
use Rattle.std.specs.BTreeMap.{is_at}
use Rattle.std.specs.List.{list_any}
use Rattle.std.specs.List.Sorted.{IsBinarySearchResult, IsPermutation, IsSearchInRange, IsSorted, IsStrictlySortedBy}
use Rattle.std.specs.Map.{keys_of}
use Rattle.std.specs.Ordering.{is_eq, match_ordering}
use Rattle.tm_syntax.specs.Hashed.{hashed_cmp}
use Rattle.tm_syntax.specs.HashedLaws.{hashed_total}
use Rattle.tm_syntax.specs.Named.{Named, name_cmp, put}
use Rattle.tm_blocks.specs.BlockNames.{by_text, names_alone}
use Rattle.tm_scopes.specs.Known.{is_among}
use Rattle.tm_scopes.specs.Pairs.{in_order}
use Rattle.tm_scopes.specs.Places.{AreOrdered}
use Rattle.tm_scopes.proofs.Ordered.{among-keys, either_way, is_at-hashed, names_in_order}
use Rattle.tm_scopes.proofs.Places.{ordered-none, ordered-put}

ordered-in_order : {A : Type 0} (ps : Named A) → AreOrdered (in_order ps)
ordered-in_order {A = A} [] = ordered-none A
ordered-in_order (p ∷ ps) = ordered-put p.0 p.1 (in_order ps) (ordered-in_order ps)

-- they ascend
pub ascends : (names seen : List (List ℕ)) → by_text names ≡ seen → IsStrictlySortedBy name_cmp seen
ascends names seen is = rw (sym is) (ordered-in_order (names_alone names))

keys-alone : (names : List (List ℕ)) → keys_of (names_alone names) ≡ names
keys-alone [] = refl
keys-alone (x ∷ xs) = ap (λ l. x ∷ l) (keys-alone xs)

-- there are none where there were none

some_put : (x : List ℕ) (ps : Named (Unit {0})) → nat_eq (length (keys_of (put x tt ps))) 0 ≡ false
some_put x [] = eqb-suc-zero 0
some_put x (p ∷ ps) = by (name_cmp x p.0)
  where
    by : (o : Ordering) → nat_eq (length (keys_of (match_ordering o ((x, tt) ∷ p ∷ ps) ((p.0, tt) ∷ ps) (p ∷ put x tt ps)))) 0 ≡ false
    by Less = eqb-suc-zero (suc (length (keys_of ps)))
    by Equal = eqb-suc-zero (length (keys_of ps))
    by Greater = eqb-suc-zero (length (keys_of (put x tt ps)))

none_by : (names : List (List ℕ)) → nat_eq (length names) 0 ≡ nat_eq (length (by_text names)) 0
none_by [] = refl
none_by (x ∷ xs) = eqb-suc-zero (length xs) ∙ sym (some_put x (in_order (names_alone xs)))

pub none_seen : (names seen : List (List ℕ)) → by_text names ≡ seen → nat_eq (length names) 0 ≡ nat_eq (length seen) 0
none_seen names seen is = none_by names ∙ ap (λ l. nat_eq (length l) 0) is

-- ---------------------------------------------------------------- a search by the hash
among-alone : (x : List ℕ) (names : List (List ℕ)) → is_among x (by_text names) ≡ is_among x names
among-alone x names = among-keys x (names_alone names) ∙ ap (is_among x) (keys-alone names)

at_by : (x y : List ℕ) (b : Bool) → is_at (hashed_cmp y) x ≡ b → is_at (name_cmp x) y ≡ b
at_by x y b e = either_way y x b (sym (is_at-hashed y x) ∙ e)

none_at : (x : List ℕ) (names : List (List ℕ)) → ((j : ℕ) → j < length names → is_at (name_cmp x) (get_or names j []) ≡ false) →
    is_among x names ≡ false
none_at x [] h = refl
none_at x (y ∷ ys) h =
    ap (λ b. b || is_among x ys) (h 0 (omega arith)) ∙ none_at x ys (λ j l. h (suc j) (omega (arith, l)))

found_by : (x : List ℕ) (names : List (List ℕ)) (r : Result ℕ ℕ) → IsSorted hashed_cmp names → IsSearchInRange r (length names) →
    IsBinarySearchResult (λ y. hashed_cmp y x) names r → is_ok r ≡ is_among x names
found_by x names (Ok i) sorted within at =
    sym (list_any_at (is_at (name_cmp x)) names i [] within (at_by x (get_or names i []) true (ap is_eq (at []))))
found_by x names (Err i) sorted within parted =
    sym (none_at x names (λ j l. by j l (cases_lt j i)))
  where
    by : (j : ℕ) → j < length names → (j < i) ⊎ (i ≤ j) → is_at (name_cmp x) (get_or names j []) ≡ false
    by j l (inl before) = at_by x (get_or names j []) false
        (ap is_eq ((parted (searchable_from_sorted hashed_total (λ (y : List ℕ). y) names x sorted)).0 j [] (omega arith) before))
    by j l (inr after) = at_by x (get_or names j []) false
        (ap is_eq ((parted (searchable_from_sorted hashed_total (λ (y : List ℕ). y) names x sorted)).1 j [] after l))

pub found_in : (x : List ℕ) (names lent seen : List (List ℕ)) (r : Result ℕ ℕ) → lent ≡ names → by_text names ≡ seen →
    IsSorted hashed_cmp names → IsSearchInRange r (length lent) → IsBinarySearchResult (λ y. hashed_cmp y x) lent r →
    is_ok r ≡ is_among x seen
found_in x names lent seen r same is sorted within found =
    found_by x lent r (subst (IsSorted hashed_cmp) (sym same) sorted) within found
    ∙ ap (is_among x) same ∙ sym (among-alone x names) ∙ ap (is_among x) is

-- ---------------------------------------------------------------- names that ascend
pub seen_as : (names read moved : List (List ℕ)) → IsStrictlySortedBy name_cmp names → read ≡ names → IsPermutation read moved →
    by_text moved ≡ names
seen_as names read moved ascending same swapped =
    sym (names_in_order names (names_alone moved) ascending
    (λ z. ap (is_among z) (sym same) ∙ list_any-IsPermutation (is_at (name_cmp z)) read moved swapped
    ∙ ap (is_among z) (sym (keys-alone moved))))
