-- Stacks as cells.
use Rattle.std.specs.Prelude.{◌≡◌, ℕ, zero, suc, ◌+◌, List, [], ◌∷◌, ◌++◌, length, Option, None, Some, slice_get, Bool}
use Rattle.tm_trees.specs.Instructions.{CaptureMode}
use Rattle.tm_trees.specs.Instructions.modes
use Rattle.tm_shapes.specs.declared.cells.Cell.{Cell}
use Rattle.tm_shapes.specs.declared.cells.Item.{Item}
use Rattle.tm_shapes.specs.declared.cells.Item.TheVariants as items
use Rattle.tm_shapes.specs.declared.cells.Level.{Level}
use Rattle.tm_shapes.specs.declared.kind.Kind.{Kind}
use Rattle.tm_shapes.specs.declared.kind.Kind.TheVariants.{Value as value}
use Rattle.tm_shapes.specs.declared.kind.Frame.{Frame}
use Rattle.tm_shapes.specs.Shapes.{Part}

-- the cell with this number
abbrev pub cell_at : List Cell → ℕ → Option Cell
cell_at cells zero = None
cell_at cells (suc n) = slice_get cells n

-- Each cell is stored once.
abbrev pub AllOnce : List Cell → Type 0
AllOnce cells = (m n : ℕ) (c : Cell) → cell_at cells m ≡ Some c → cell_at cells n ≡ Some c → m ≡ n

-- Cells keep their numbers.
abbrev pub Grown : List Cell → List Cell → Type 0
Grown old new = (n : ℕ) (c : Cell) → cell_at old n ≡ Some c → cell_at new n ≡ Some c

abbrev pub IsCell : List Cell → ℕ → Item → ℕ → Type 0
IsCell cells n item b = cell_at cells n ≡ Some (record { item = item; below = b })

abbrev pub Special : Kind → Type 0
Special value = ⊥
Special k = Unit {0}

-- The operands: v values above the stack with number n.
abbrev pub Operands : List Cell → ℕ → ℕ → List Kind → Type 0
Operands cells zero n [] = n ≡ 0
Operands cells (suc v) n [] = ⊥
Operands cells (suc v) n (k ∷ ks) = (k ≡ value) × Operands cells v n ks
Operands cells zero n (k ∷ ks) =
    Special k × ((w : ℕ) × (b : ℕ) × IsCell cells n (items.Operand k w) b × Operands cells w b ks)

abbrev pub Frames : List Cell → ℕ → List Frame → Type 0
Frames cells n [] = n ≡ 0
Frames cells n (f ∷ fs) = (b : ℕ) × IsCell cells n (items.Frame f) b × Frames cells b fs

abbrev pub capture_item : CaptureMode → Item
capture_item modes.Capture = items.Capture
capture_item modes.Discard = items.Discard

abbrev pub Captures : List Cell → ℕ → List CaptureMode → Type 0
Captures cells n [] = n ≡ 0
Captures cells n (m ∷ ms) = (b : ℕ) × IsCell cells n (capture_item m) b × Captures cells b ms

-- What is open in a part, without its operands.
pub record IsLevel (cells : List Cell) (level : Level) (part : Part) : Type 0 where
  pub frames : Frames cells level.frames part.frames
  pub captures : Captures cells level.captures part.captures
  pub count : level.open ≡ length part.captures
  pub escapes : level.escapes ≡ part.escapes

-- The parts below, as the stack with number n, with `floor` operands in total.
abbrev pub Parts : List Cell → ℕ → ℕ → List Part → Type 0
Parts cells n floor [] = (n ≡ 0) × (floor ≡ 0)
Parts cells n floor (q ∷ qs) =
    (level : Level) × (b : ℕ) × IsCell cells n (items.Part level) b × IsLevel cells level q
    × (floor ≡ length q.operands + level.floor) × Parts cells b level.floor qs

abbrev pub all_operands : List Part → List Kind
all_operands [] = []
all_operands (q ∷ qs) = q.operands ++ all_operands qs
