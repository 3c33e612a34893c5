-- Definitions for views.
use Rattle.std.specs.Prelude.{ℕ, List, map as each}
use Rattle.tm_values.specs.Val.{Val}
use Rattle.tm_values.specs.Records.{RecordData}
use Rattle.tm_meaning.specs.World.{Loop, loop_data}

-- the records of a state with these namespaces and loops
abbrev pub records_with : ℕ → List (List (Val × Val)) → List Loop → RecordData
records_with id namespaces loops = record { state = id; namespaces = namespaces; loops = each loop_data loops }
