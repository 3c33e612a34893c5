-- Numbers of 64 bits.
use Rattle.std.specs.Prelude.{List, ℤ}
use Rattle.std.specs.Int.{w64}
use Rattle.std.specs.Int.RustNames.{FitsSigned}
use Rattle.std.specs.List.{All}

-- each is a signed number of 64 bits
abbrev pub AreIn64Bits : List ℤ → Type 0
AreIn64Bits zs = All (FitsSigned w64) zs
