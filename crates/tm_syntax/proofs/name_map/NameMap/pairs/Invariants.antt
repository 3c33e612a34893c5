use Rattle.std.proofs.Common.{◌≡◌, ◌++◌}
use Rattle.tm_syntax.specs.Named.{named_of, pairs_of}
use Rattle.tm_syntax.proofs.name_map.NameMap.pairs.Given as goal

abbrev pub invariant-loop-name : goal.invariant-loop-name
invariant-loop-name g l = pairs_of l.pairs.items ++ named_of l.name-iterator ≡ named_of l.initial.name-iterator
