use Rattle.std.proofs.Common.{◌≡◌, ◌++◌, map}
use Rattle.std.specs.String.{string_bytes}
use Rattle.tm_syntax.specs.Names.{without}
use Rattle.tm_names.proofs.macros.names_without.Given as goal

abbrev pub invariant-loop-text : goal.invariant-loop-text
invariant-loop-text l =
    l.names ++ without l.left_out (map string_bytes l.text-iterator) ≡ without l.left_out (map string_bytes l.initial.text-iterator)
