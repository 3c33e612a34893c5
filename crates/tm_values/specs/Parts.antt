-- What a value stores about its parts.
use Rattle.std.specs.Prelude.{◌+◌}
use Rattle.tm_values.specs.Writable.{vals_writable, pairs_writable}
use Rattle.tm_values.specs.Val.{Vals, Pairs, vals_size, pairs_size}
use Rattle.tm_values.specs.declared.parts.Parts.{Parts}

abbrev pub parts_of_vals : Vals → Parts
parts_of_vals vs = record { writable = vals_writable vs; size = vals_size vs + 1 }

abbrev pub parts_of_pairs : Pairs → Parts
parts_of_pairs ps = record { writable = pairs_writable ps; size = pairs_size ps + 1 }
