-- The entries of macros rise.
use Rattle.std.proofs.Common.{◌≡◌, ℕ, zero, suc, [], ◌∷◌, get_or, refl, arith}
use Rattle.std.proofs.lemmas.Map.Entries.{length-keys_of}
use Rattle.std.proofs.lemmas.Map.Keys.{non_decreasing_from_sorted}
use Rattle.std.specs.List.Sorted.{IsNonDecreasingBy, IsStrictlySortedBy}
use Rattle.std.specs.Map.{keys_of}
use Rattle.std.specs.Ordering.{nat_cmp}
use Rattle.tm_syntax.specs.Entries.{Entries}

key_at : (es : Entries) (i : ℕ) (d : ℕ × ℕ) → get_or (keys_of es) i d.0 ≡ (get_or es i d).0
key_at [] i d = refl
key_at (e ∷ es) zero d = refl
key_at (e ∷ es) (suc i) d = key_at es i d

-- entries in the strict order of their places
pub rise : (es : Entries) → IsStrictlySortedBy nat_cmp (keys_of es) → IsNonDecreasingBy (λ (e : ℕ × ℕ). e.0) es
rise es sorted i j d below h =
    let keys = non_decreasing_from_sorted (keys_of es) sorted i j d.0 below (omega (arith, h, length-keys_of es)) in
    omega (arith, keys, key_at es i d, key_at es j d)
