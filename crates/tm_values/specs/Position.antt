-- The position of a loop, from its record.
use Rattle.tm_values.specs.Records.{LoopData}
use Rattle.tm_values.specs.declared.records.LoopPosition.{LoopPosition}

abbrev pub position_of : LoopData → LoopPosition
position_of l = record { place = l.place; count = l.count; depth = l.depth }
