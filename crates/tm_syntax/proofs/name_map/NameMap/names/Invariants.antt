use Rattle.std.proofs.Common.{◌≡◌, ◌++◌, map}
use Rattle.std.specs.Rc.{rc_str_bytes}
use Rattle.tm_syntax.specs.Named.{texts_of}
use Rattle.tm_syntax.proofs.name_map.NameMap.names.Given as goal

abbrev pub invariant-loop-name : goal.invariant-loop-name
invariant-loop-name g l = texts_of l.names.items ++ map rc_str_bytes l.name-iterator ≡ map rc_str_bytes l.initial.name-iterator
