use Rattle.std.proofs.Common.{◌≡◌, ◌++◌}
use Rattle.tm_syntax.specs.Named.{texts_of}
use Rattle.tm_scopes.proofs.closures.Closure.names.Given as goal

abbrev pub invariant-loop-name : goal.invariant-loop-name
invariant-loop-name l = texts_of l.names.items ++ l.name-iterator ≡ l.initial.name-iterator
