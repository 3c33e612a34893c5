use Rattle.std.proofs.Common.{◌≡◌, ◌++◌}
use Rattle.tm_syntax.specs.Named.{texts_of}
use Rattle.tm_blocks.proofs.block_names.names_of.Given as goal

-- what was read with what is still to be read
abbrev pub invariant-loop-name : goal.invariant-loop-name
invariant-loop-name l =
    l.names.items ++ texts_of l.name-iterator.rest.items ≡ l.initial.names.items ++ texts_of l.initial.name-iterator.rest.items
