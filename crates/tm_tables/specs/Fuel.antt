-- The fuel of a run.
use Rattle.std.specs.Prelude.{ℕ}

-- the amount set at the start, and what is left of it
pub record Fuel : Type 0 where
  pub set : ℕ
  pub left : ℕ
