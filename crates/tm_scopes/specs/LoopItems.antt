-- The items of a loop as a list, how many they are, and how often it can have turned.
use Rattle.std.specs.Prelude.{◌≡◌, ℕ, ◌+◌, ◌^◌, ◌≤◌, ◌<◌, List, length}
use Rattle.tm_meaning.specs.World.{spread}
use Rattle.tm_scopes.specs.declared.loops.LoopItems.{LoopItems}
use Rattle.tm_scopes.specs.declared.loops.LoopItems.TheVariants.{All, Left}
use Rattle.tm_values.specs.Val.{Val}

abbrev pub items_of : ℕ → LoopItems → List Val
items_of count (All items) = items.value.items
items_of count (Left turns before after) = spread count turns before after

-- A loop knows the number of its items, at most 2^64 - 2, and turned at most once more often.
pub record HasTurns (items : List Val) (count turns : ℕ) : Type 0 where
  pub counted : length items ≡ count
  pub started : turns ≤ count + 1
  pub countable : count + 1 < 2 ^ 64
