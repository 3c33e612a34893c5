use Rattle.std.proofs.Common.{◌≡◌, ◌++◌, drop, map as each}
use Rattle.std.specs.Rc.{rc_str_bytes}
use Rattle.tm_definitions.specs.Members.{text_values}
use Rattle.tm_operations.proofs.members.text_list.Given as goal

-- the texts from the index on are left
abbrev pub invariant-loop-text : goal.invariant-loop-text
invariant-loop-text l = l.values.items ++ text_values (each rc_str_bytes (drop l.text-index l.texts))
    ≡ text_values (each rc_str_bytes l.texts)
