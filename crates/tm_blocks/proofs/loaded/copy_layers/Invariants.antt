use Rattle.std.proofs.Common.{◌≡◌, take}
use Rattle.tm_blocks.proofs.loaded.copy_layers.Given as goal

abbrev pub invariant-loop-layer : goal.invariant-loop-layer
invariant-loop-layer l = l.copy.items ≡ take l.layer-index l.layers
