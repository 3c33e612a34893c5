-- Measures of walks that enter namespaces: a level outweighs what any one namespace holds.
use Rattle.std.proofs.Common.{◌≡◌, ◌+◌, ◌*◌, ◌<◌, ◌≤◌, ℕ, zero, suc, List, [], ◌∷◌, Some, None, slice_get, arith, subst, cond, ◌==◌}
use Rattle.std.proofs.Common.{true, false}
use Rattle.std.proofs.Math.Nat.{mul-pos, add-mul, mul-lt-mul_of_pos_right}
use Rattle.tm_values.specs.Records.{RecordData, namespace_at}
use Rattle.tm_values.specs.Val.{Val, val_size, vals_size, vals_of, pairs_size, pairs_of}
use Rattle.tm_printing.specs.Left.{all_sizes, weight, power}

pub positive : (nss : List (List (Val × Val))) → 0 < all_sizes nss
positive [] = omega arith
positive (ps ∷ rest) = omega (arith, positive rest)

pub lighter : (nss : List (List (Val × Val))) (n : ℕ) (ps : List (Val × Val)) → slice_get nss n ≡ Some ps →
    2 * pairs_size (pairs_of ps) < all_sizes nss
lighter [] n ps is = absurd (cc is)
lighter (qs ∷ rest) zero ps is =
    let same : qs ≡ ps = cc is in
    subst (λ (l : List (Val × Val)). 2 * pairs_size (pairs_of l) < 2 * pairs_size (pairs_of qs) + all_sizes rest) same
    (omega (arith, positive rest))
lighter (qs ∷ rest) (suc n) ps is = omega (arith, lighter rest n ps is)

pub is_there : (r : RecordData) (s n : ℕ) (ps : List (Val × Val)) → namespace_at r s n ≡ Some ps → slice_get r.namespaces n ≡ Some ps
is_there r s n ps is = elim (r.state == s) as (λ b. cond b (slice_get r.namespaces n) None ≡ Some ps →
    slice_get r.namespaces n ≡ Some ps) [ true ↦ λ h. h | false ↦ λ h. absurd (cc h) ] is

scaled : (a k p : ℕ) → a ≤ k → a * p ≤ 1 * (k * p)
scaled a k p h = grind arith

-- powers of what is more than zero are more than zero
pub power_positive : (k n : ℕ) → 0 < k → 0 < power k n
power_positive k zero h = omega arith
power_positive k (suc n) h = mul-pos h (power_positive k n h)

-- a namespace that is there weighs less one level below than its value does
pub namespace_lighter : (r : RecordData) (s n below : ℕ) (ps : List (Val × Val)) → namespace_at r s n ≡ Some ps →
    (pairs_size (pairs_of ps) + 1) * power (weight r) below ≤ 1 * power (weight r) (suc below)
namespace_lighter r s n below ps is =
    let there = is_there r s n ps is in
    let less : pairs_size (pairs_of ps) + 1 ≤ weight r = omega (arith, lighter r.namespaces n ps there) in
    scaled (pairs_size (pairs_of ps) + 1) (weight r) (power (weight r) below) less

-- two parts by a power
parts_lighter : (a b c p : ℕ) → 0 < p → a + b < c → a * p + b * p < c * p
parts_lighter a b c p pos h = rw (← add-mul a b p) (mul-lt-mul_of_pos_right h pos)

pub item_lighter : (v : Val) (vs left : List Val) (p : ℕ) → left ≡ v ∷ vs → 0 < p →
    val_size v * p + (vals_size (vals_of vs) + 1) * p < (vals_size (vals_of left) + 1) * p
item_lighter v vs left p is pos =
    rw is (parts_lighter (val_size v) (vals_size (vals_of vs) + 1) (val_size v + vals_size (vals_of vs) + 1 + 1) p pos (omega arith))

pub key_lighter : (pair : Val × Val) (ps left : List (Val × Val)) (p : ℕ) → left ≡ pair ∷ ps → 0 < p →
    val_size pair.0 * p + (val_size pair.1 + pairs_size (pairs_of ps) + 2) * p < (pairs_size (pairs_of left) + 1) * p
key_lighter pair ps left p is pos =
    rw is (parts_lighter (val_size pair.0) (val_size pair.1 + pairs_size (pairs_of ps) + 2)
    (val_size pair.0 + val_size pair.1 + pairs_size (pairs_of ps) + 2 + 1) p pos (omega arith))

-- where the key is written already
pub keyed_lighter : (pair : Val × Val) (ps left : List (Val × Val)) (p : ℕ) → left ≡ pair ∷ ps → 0 < p →
    val_size pair.1 * p + (pairs_size (pairs_of ps) + 1) * p < (pairs_size (pairs_of left) + 1) * p
keyed_lighter pair ps left p is pos =
    rw is (parts_lighter (val_size pair.1) (pairs_size (pairs_of ps) + 1)
    (val_size pair.0 + val_size pair.1 + pairs_size (pairs_of ps) + 2 + 1) p pos (omega arith))

pub value_lighter : (v ps p : ℕ) → 0 < p → v * p + (ps + 1) * p < (v + ps + 2) * p
value_lighter v ps p pos = parts_lighter v (ps + 1) (v + ps + 2) p pos (omega arith)

pub end_positive : (n p : ℕ) → 0 < p → 0 < (n + 1) * p
end_positive n p pos = mul-pos (omega arith) pos
