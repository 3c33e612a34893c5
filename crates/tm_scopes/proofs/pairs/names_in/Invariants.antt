use Rattle.std.proofs.Common.{◌≡◌, take}
use Rattle.std.specs.Map.{keys_of}
use Rattle.tm_syntax.specs.Named.{texts_of}
use Rattle.tm_scopes.proofs.pairs.names_in.Given as goal

abbrev pub invariant-loop-pair : goal.invariant-loop-pair
invariant-loop-pair l = texts_of l.names.items ≡ keys_of (take l.pair-index l.pairs)
