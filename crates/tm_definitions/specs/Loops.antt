-- The printed text of a loop.
use Rattle.std.specs.Prelude.{List, ℕ, [], ◌++◌, Option, None, Some, codes, decimal, unwrap_or, option_map}
use Rattle.tm_values.specs.Position.{position_of}
use Rattle.tm_values.specs.Records.{RecordData, loop_at}
use Rattle.tm_values.specs.declared.records.LoopPosition.{LoopPosition}

-- the index of its item, or 0 before the first, and the number of items
abbrev pub progress_text : LoopPosition → List ℕ
progress_text p = decimal (unwrap_or p.place 0) ++ (codes "/" ++ decimal p.count)

abbrev pub position_text : LoopPosition → List ℕ
position_text p = codes "<loop " ++ (progress_text p ++ codes ">")

abbrev pub found_text : Option LoopPosition → List ℕ
found_text None = []
found_text (Some p) = position_text p

-- the loop of this state with this number
abbrev pub loop_text : RecordData → ℕ → ℕ → List ℕ
loop_text r s n = found_text (option_map position_of (loop_at r s n))
