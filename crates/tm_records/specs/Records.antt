-- Definitions for the records of loops.
use Rattle.std.specs.Prelude.{◌≡◌, ℕ, List, Bool, Option, Some, None}
use Rattle.tm_values.specs.Val.{Val}
use Rattle.tm_meaning.specs.Calls.{is_changed}
use Rattle.tm_meaning.specs.World.{Loop}
use Rattle.tm_meaning.specs.declared.stream.StreamId.{StreamId}

-- the record of a loop that hasn't started
abbrev pub loop_record : List Val → ℕ → ℕ → Bool → StreamId → Loop
loop_record items depth number recursive stream = record {
  items = items;
  turns = 0;
  depth = depth;
  number = number;
  recursive = recursive;
  stream = stream;
  kept = None;
}

-- The loop exists, and `changed` tells whether these arguments differ from those that it keeps.
abbrev pub IsChangedAt : Bool → List Val → Option Loop → Type 0
IsChangedAt changed args found = (l : Loop) × (found ≡ Some l) × (changed ≡ is_changed l.kept args)
