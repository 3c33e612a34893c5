use Rattle.std.proofs.Common.{◌≡◌, ◌<◌, ◌++◌, length}
use Rattle.std.specs.List.{All}
use Rattle.tm_definitions.specs.Slices.{items_at}
use Rattle.tm_operations.proofs.slices.pick_items.Given as goal

-- the items at the places that are left are left
abbrev pub invariant-loop-place : goal.invariant-loop-place
invariant-loop-place l = record {
  inside : All (λ p. p < length l.items) l.places;
  rest : l.picked.items ++ items_at l.items l.places ≡ items_at l.items l.fn.places;
}

abbrev pub decreases-loop-place : goal.decreases-loop-place
decreases-loop-place l = length l.places
