use Rattle.std.proofs.Common.{◌≡◌, take}
use Rattle.tm_blocks.proofs.loaded_names.LoadedNames.copy.Given as goal

abbrev pub invariant-loop-name : goal.invariant-loop-name
invariant-loop-name l = l.names ≡ take l.name-index l.name-items
