-- Shapes as stacks.
use Rattle.std.specs.Prelude.{◌≡◌, ◌+◌, List, ◌++◌, length}
use Rattle.tm_shapes.specs.declared.cells.Cell.{Cell}
use Rattle.tm_shapes.specs.declared.shape.Shape.{Shape as Made}
use Rattle.tm_shapes.specs.Cells.{IsLevel, Operands, Parts, all_operands}
use Rattle.tm_shapes.specs.Shapes.{Shape}

-- The shape that the stacks represent.
pub record Shows (cells : List Cell) (made : Made) (s : Shape) : Type 0 where
  pub operands : Operands cells made.values made.top (s.part.operands ++ all_operands s.below)
  pub height : made.height ≡ length s.part.operands + made.level.floor
  pub level : IsLevel cells made.level s.part
  pub parts : Parts cells made.below made.level.floor s.below
