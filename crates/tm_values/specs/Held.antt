-- The size that is left to drop.
use Rattle.std.specs.Prelude.{ℕ, ◌+◌, Option, None, Some}
use Rattle.tm_values.specs.Val.{Val, val_size, vals_of, vals_size, pairs_of, pairs_size}
use Rattle.tm_values.specs.declared.dropping.Held.{Held}
use Rattle.tm_values.specs.declared.dropping.Held.TheVariants as held

abbrev pub held_size : Held → ℕ
held_size held.Nothing = 0
held_size (held.Items items) = vals_size (vals_of items.items)
held_size (held.Pairs pairs) = pairs_size (pairs_of pairs.items)

-- the size of the value that is dropped next, plus 1 for its place
abbrev pub kept_size : Option Val → ℕ
kept_size None = 0
kept_size (Some v) = val_size v + 1
