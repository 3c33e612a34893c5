use Rattle.std.proofs.Common.{◌≡◌, ◌++◌, drop, map as each}
use Rattle.tm_definitions.specs.Members.{text_values}
use Rattle.tm_operations.proofs.iteration.texts.Given as goal

-- the names from the index on are left
abbrev pub invariant-loop-name : goal.invariant-loop-name
invariant-loop-name l = l.values.items ++ text_values (each (λ name. name.now) (drop l.name-index l.names))
    ≡ text_values (each (λ name. name.now) l.names)
