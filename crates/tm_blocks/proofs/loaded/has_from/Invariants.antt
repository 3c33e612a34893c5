use Rattle.std.proofs.Common.{◌≡◌, ◌≤◌, ◌-◌, length, drop, false}
use Rattle.std.specs.List.{list_any}
use Rattle.tm_blocks.specs.Layers.{has_block}
use Rattle.tm_blocks.proofs.loaded.has_from.Given as goal

abbrev pub invariant-loop-end : goal.invariant-loop-end
invariant-loop-end l = (l.end ≤ length l.layers) × (list_any (has_block l.name) (drop l.end l.layers) ≡ false)

abbrev pub decreases-loop-end : goal.decreases-loop-end
decreases-loop-end l = l.end - l.from
