use Rattle.std.proofs.Common.{◌≡◌, ◌≤◌, ◌+◌, ◌-◌, length, take}
use Rattle.tm_blocks.specs.Layers.{having}
use Rattle.tm_blocks.proofs.loaded.layer_of.Given as goal

abbrev pub invariant-loop-at : goal.invariant-loop-at
invariant-loop-at l = (l.at ≤ length l.layers) × (l.left + length (having l.name (take l.at l.layers)) ≡ l.place)

abbrev pub decreases-loop-at : goal.decreases-loop-at
decreases-loop-at l = length l.layers - l.at
