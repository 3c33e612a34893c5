-- What a step of a comparison knows about the order of two values, and the size that is left to
-- compare.
use Rattle.std.specs.Prelude.{◌≡◌, ℕ, ◌<◌}
use Rattle.std.specs.Cmp.Lexicographic.{slice_cmp}
use Rattle.std.specs.Ordering.{nat_cmp, ordering_then}
use Rattle.std.specs.declared.cmp.Ordering.{Ordering}
use Rattle.tm_values.specs.Order.{val_cmp, vals_cmp, pairs_cmp}
use Rattle.tm_values.specs.Val.{Val, val_size, vals_size, pairs_size, vals_of, pairs_of}
use Rattle.tm_values.specs.declared.comparing.Beside.{Beside}
use Rattle.tm_values.specs.declared.comparing.Beside.TheVariants as beside
use Rattle.tm_values.specs.declared.comparing.Compared.{Compared}
use Rattle.tm_values.specs.declared.comparing.Compared.TheVariants as compared

-- by the keys, then by the values
abbrev pub pair_cmp : Val × Val → Val × Val → Ordering
pair_cmp p q = ordering_then (val_cmp p.0 q.0) (val_cmp p.1 q.1)

abbrev pub IsCompared : Val → Val → Compared → Type 0
IsCompared x y (compared.Known order) = val_cmp x y ≡ order
IsCompared x y (compared.Items l r) =
    (val_cmp x y ≡ vals_cmp (vals_of l.now) (vals_of r.now)) × (vals_size (vals_of l.now) < val_size x)
IsCompared x y (compared.Pairs l r s t) =
    (val_cmp x y ≡ ordering_then (pairs_cmp (pairs_of l.now) (pairs_of r.now)) (slice_cmp nat_cmp s.now t.now))
    × (pairs_size (pairs_of l.now) < val_size x)

-- the whole compares as the result says, and the part is smaller than `size`
abbrev pub IsBeside : Ordering → ℕ → Beside → Type 0
IsBeside whole size (beside.Known order) = whole ≡ order
IsBeside whole size (beside.Around x y order) =
    (whole ≡ ordering_then (val_cmp x.now y.now) order) × (val_size x.now < size)
