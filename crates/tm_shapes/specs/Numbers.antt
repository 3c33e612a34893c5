-- The numbers of cells.
use Rattle.std.specs.Prelude.{◌≡◌, ℕ, List, Some}
use Rattle.std.specs.List.{Contains}
use Rattle.tm_shapes.specs.declared.cells.Cell.{Cell}
use Rattle.tm_shapes.specs.Cells.{AllOnce, cell_at}

-- Each cell is stored once, the map has its number, and it has no other entries.
pub record Fit (cells : List Cell) (es : List (Cell × ℕ)) : Type 0 where
  pub once : AllOnce cells
  pub sound : (q : Cell) (n : ℕ) → Contains es (q, n) → cell_at cells n ≡ Some q
  pub complete : (n : ℕ) (q : Cell) → cell_at cells n ≡ Some q → Contains es (q, n)
