-- Parts that are compared one by one.
use Rattle.std.proofs.Common.{◌≡◌, ◌==◌, not, Bool, true, ℕ, zero, suc, ◌+◌, ◌-◌, ◌<◌, ◌≤◌, List, [], ◌∷◌, length, drop, take, get_or}
use Rattle.std.proofs.Common.{add-one, refl, sym, ap, ◌∙◌, arith}
use Rattle.std.proofs.lemmas.List.{take_rest}
use Rattle.std.specs.Ordering.{ordering_then, ordering_index}
use Rattle.std.specs.declared.cmp.Ordering.{Ordering}
use Rattle.std.specs.declared.cmp.Ordering.TheVariants.{Less, Equal, Greater}
use Rattle.tm_values.specs.Comparing.{IsBeside, pair_cmp}
use Rattle.tm_values.specs.Order.{val_cmp, vals_cmp, pairs_cmp}
use Rattle.tm_values.specs.Val.{Val, val_size, vals_size, vals_of, pairs_size, pairs_of}
use Rattle.tm_values.specs.declared.comparing.Beside.{Beside}
use Rattle.tm_values.specs.declared.comparing.Beside.TheVariants as beside

pub then_assoc : (a b c : Ordering) → ordering_then (ordering_then a b) c ≡ ordering_then a (ordering_then b c)
then_assoc Less b c = refl
then_assoc Equal b c = refl
then_assoc Greater b c = refl

-- what is behind a place
pub behind : {A : Type 0} (xs : List A) (i : ℕ) → take (length xs - (i + 1)) (drop (i + 1) xs) ≡ drop (suc i) xs
behind xs i = take_rest xs (i + 1) ∙ ap (λ (k : ℕ). drop k xs) (add-one i)

-- the items from a place on: the one there, and those behind it
pub next_items : (xs ys : List Val) (i : ℕ) (x y : Val) → i < length xs → i < length ys → x ≡ get_or xs i x → y ≡ get_or ys i y →
    vals_cmp (vals_of (drop i xs)) (vals_of (drop i ys)) ≡ ordering_then (val_cmp x y) (vals_cmp (vals_of (drop (suc i) xs)) (vals_of
    (drop (suc i) ys)))
next_items [] ys i x y h k e f = absurd (omega arith)
next_items (a ∷ xs) [] i x y h k e f = absurd (omega arith)
next_items (a ∷ xs) (b ∷ ys) zero x y h k e f = rw (e, f) refl
next_items (a ∷ xs) (b ∷ ys) (suc i) x y h k e f = next_items xs ys i x y (omega arith) (omega arith) e f

pub next_pairs : (ps qs : List (Val × Val)) (i : ℕ) (p q : Val × Val) → i < length ps → i < length qs → p ≡ get_or ps i p → q ≡ get_or qs i q →
    pairs_cmp (pairs_of (drop i ps)) (pairs_of (drop i qs)) ≡ ordering_then (pair_cmp p q) (pairs_cmp (pairs_of (drop (suc i) ps)) (pairs_of
    (drop (suc i) qs)))
next_pairs [] qs i p q h k e f = absurd (omega arith)
next_pairs (a ∷ ps) [] i p q h k e f = absurd (omega arith)
next_pairs (a ∷ ps) (b ∷ qs) zero p q h k e f =
    rw (e, f) (sym (then_assoc (val_cmp a.0 b.0) (val_cmp a.1 b.1) (pairs_cmp (pairs_of ps) (pairs_of qs))))
next_pairs (a ∷ ps) (b ∷ qs) (suc i) p q h k e f = next_pairs ps qs i p q (omega arith) (omega arith) e f

-- and their sizes
pub size_behind : (xs : List Val) (i : ℕ) (x : Val) → i < length xs → x ≡ get_or xs i x →
    val_size x + vals_size (vals_of (take (length xs - (i + 1)) (drop (i + 1) xs))) < vals_size (vals_of xs)
size_behind xs i x h e = rw (behind xs i) (sizes xs i x h e)
  where
    sizes : (xs : List Val) (i : ℕ) (x : Val) → i < length xs → x ≡ get_or xs i x →
        val_size x + vals_size (vals_of (drop (suc i) xs)) < vals_size (vals_of xs)
    sizes [] i x h e = absurd (omega arith)
    sizes (a ∷ xs) zero x h e = rw e (omega arith)
    sizes (a ∷ xs) (suc i) x h e = omega (arith, sizes xs i x (omega arith) e)

pub sizes_behind : (ps : List (Val × Val)) (i : ℕ) (p : Val × Val) → i < length ps → p ≡ get_or ps i p →
    val_size p.0 + val_size p.1 + pairs_size (pairs_of (take (length ps - (i + 1)) (drop (i + 1) ps))) + 1 < pairs_size (pairs_of ps)
sizes_behind ps i p h e = rw (behind ps i) (sizes ps i p h e)
  where
    sizes : (ps : List (Val × Val)) (i : ℕ) (p : Val × Val) → i < length ps → p ≡ get_or ps i p →
        val_size p.0 + val_size p.1 + pairs_size (pairs_of (drop (suc i) ps)) + 1 < pairs_size (pairs_of ps)
    sizes [] i p h e = absurd (omega arith)
    sizes (a ∷ ps) zero p h e = rw e (omega arith)
    sizes (a ∷ ps) (suc i) p h e = omega (arith, sizes ps i p (omega arith) e)

-- what stands beside a part of what there is from a place on
pub around_item : (xs ys : List Val) (i : ℕ) (x y : Val) (whole after : Ordering) → i < length xs → i < length ys → x ≡ get_or xs i x →
    y ≡ get_or ys i y → vals_cmp (vals_of (drop i xs)) (vals_of (drop i ys)) ≡ whole →
    after ≡ vals_cmp (vals_of (take (length xs - (i + 1)) (drop (i + 1) xs))) (vals_of (take (length ys - (i + 1)) (drop (i + 1) ys))) →
    whole ≡ ordering_then (val_cmp x y) after
around_item xs ys i x y whole after h k e f is rest =
    let then = rw (behind xs i, behind ys i) at rest in
    sym is ∙ next_items xs ys i x y h k e f ∙ ap (ordering_then (val_cmp x y)) (sym then)

pub around_pair : (ps qs : List (Val × Val)) (i : ℕ) (p q : Val × Val) (whole after : Ordering) → i < length ps → i < length qs →
    p ≡ get_or ps i p → q ≡ get_or qs i q → pairs_cmp (pairs_of (drop i ps)) (pairs_of (drop i qs)) ≡ whole →
    after ≡ pairs_cmp (pairs_of (take (length ps - (i + 1)) (drop (i + 1) ps))) (pairs_of (take (length qs - (i + 1)) (drop (i + 1) qs))) →
    whole ≡ ordering_then (pair_cmp p q) after
around_pair ps qs i p q whole after h k e f is rest =
    let then = rw (behind ps i, behind qs i) at rest in
    sym is ∙ next_pairs ps qs i p q h k e f ∙ ap (ordering_then (pair_cmp p q)) (sym then)

pub within_more : (part whole : Ordering) (size larger : ℕ) (b : Beside) → whole ≡ part → size ≤ larger → IsBeside part size b →
    IsBeside whole larger b
within_more part whole size larger (beside.Known order) is h known = is ∙ known
within_more part whole size larger (beside.Around x y order) is h around = (is ∙ around.0, omega (arith, h, around.1))

-- what comes after both comes after the second
pub then_after : (whole both part next after end : Ordering) → whole ≡ ordering_then both end → both ≡ ordering_then part next →
    after ≡ ordering_then next end → whole ≡ ordering_then part after
then_after whole both part next after end is one other =
    is ∙ (ap (λ (o : Ordering). ordering_then o end) one ∙ (then_assoc part next end ∙ ap (ordering_then part) (sym other)))

-- a test for not being Equal
pub differs : (a b c : Ordering) (t : Bool) → t ≡ not (ordering_index a == 1) → t ≡ true → c ≡ ordering_then a b → a ≡ c
differs Less b c t is h all = sym all
differs Equal b c t is h all = absurd (cc (is, h))
differs Greater b c t is h all = sym all

-- two pairs that differ
pub different_pairs : (ps qs : List (Val × Val)) (i : ℕ) (p q : Val × Val) (whole order : Ordering) (t : Bool) → i < length ps → i < length qs →
    p ≡ get_or ps i p → q ≡ get_or qs i q → pairs_cmp (pairs_of (drop i ps)) (pairs_of (drop i qs)) ≡ whole → order ≡ pair_cmp p q →
    t ≡ not (ordering_index order == 1) → t ≡ true → order ≡ whole
different_pairs ps qs i p q whole order t h k e f is found test so =
    let rest = pairs_cmp (pairs_of (drop (suc i) ps)) (pairs_of (drop (suc i) qs)) in
    let all = sym is ∙ next_pairs ps qs i p q h k e f ∙ ap (λ (o : Ordering). ordering_then o rest) (sym found) in
    differs order rest whole t test so all
