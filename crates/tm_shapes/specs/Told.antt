-- What the stacks say about shapes.
use Rattle.std.specs.Prelude.{◌≡◌, ℕ, ◌+◌, List, [], ◌∷◌, Option, None, Some, Bool}
use Rattle.tm_shapes.specs.declared.cells.Cell.{Cell}
use Rattle.tm_shapes.specs.declared.flow.Flow.{Flow as Made}
use Rattle.tm_shapes.specs.declared.flow.Way.{Way}
use Rattle.tm_shapes.specs.declared.flow.Way.TheVariants as ways
use Rattle.tm_shapes.specs.declared.kind.Kind.{Kind}
use Rattle.tm_shapes.specs.declared.shape.Shape.{Shape as Stacked}
use Rattle.tm_shapes.specs.Shown.{Shows}
use Rattle.tm_shapes.specs.Flows.{Flow, ends, leads, both, takes, refused, over_part, pops, with_operands}
use Rattle.tm_shapes.specs.Shapes.{Part, Shape}

-- The topmost operand and the shape without it; or there is none.
abbrev pub IsPopped : List Cell → Shape → Option (Kind × Stacked) → Type 0
IsPopped cells s None = s.part.operands ≡ []
IsPopped cells s (Some p) = (ks : List Kind) × (s.part.operands ≡ p.0 ∷ ks) × Shows cells p.1 (with_operands ks s)

-- The shape without n values; or there aren't that many.
abbrev pub IsWithout : List Cell → ℕ → Shape → Option Stacked → Type 0
IsWithout cells n s None = (f : List Kind → Flow) → pops n s.part.operands f ≡ refused
IsWithout cells n s (Some left) =
    (ks : List Kind) × ((f : List Kind → Flow) → pops n s.part.operands f ≡ f ks) × Shows cells left (with_operands ks s)

-- The part below, with the operands of the innermost one on top of its own; or there is none.
abbrev pub IsLower : List Cell → Shape → Option Stacked → Type 0
IsLower cells s None = s.below ≡ []
IsLower cells s (Some left) =
    (q : Part) × (qs : List Part) × (s.below ≡ q ∷ qs) × Shows cells left (over_part s.part.operands q qs)

-- A way is the flow from a place.
abbrev pub TellsWay : List Cell → ℕ → Way → Flow → Type 0
TellsWay cells n ways.Refused f = f ≡ refused
TellsWay cells n ways.Ends f = f ≡ ends
TellsWay cells n (ways.On r) f = (s : Shape) × Shows cells r s × (f ≡ leads (n + 1) s)
TellsWay cells n (ways.To m r) f = (s : Shape) × Shows cells r s × (f ≡ leads m s)
TellsWay cells n (ways.Either r m q) f =
    (s : Shape) × (t : Shape) × Shows cells r s × Shows cells q t × (f ≡ both (leads (n + 1) s) (leads m t))

abbrev pub TellsBy : List Cell → ℕ → Option ℕ → Way → Flow → Type 0
TellsBy cells n None way f = TellsWay cells n way f
TellsBy cells n (Some p) way f = (g : Flow) × (f ≡ takes p g) × TellsWay cells n way g

abbrev pub Tells : List Cell → ℕ → Made → Flow → Type 0
Tells cells n made f = TellsBy cells n made.taken made.way f
