-- What the parts of the table say about the stacks of a shape.
use Rattle.std.specs.Prelude.{◌≡◌, ℕ, List, [], ◌∷◌, Option, None, Some}
use Rattle.tm_shapes.specs.declared.cells.Cell.{Cell}
use Rattle.tm_shapes.specs.declared.cells.Level.{Level}
use Rattle.tm_shapes.specs.declared.flow.Flow.{Flow as Made}
use Rattle.tm_shapes.specs.declared.kind.Kind.{Kind}
use Rattle.tm_shapes.specs.declared.kind.Kind.TheVariants.{Closure as closure, Names as names, Opened as opened, One as one}
use Rattle.tm_shapes.specs.declared.kind.Frame.{Frame}
use Rattle.tm_shapes.specs.declared.shape.Shape.{Shape as Stacked}
use Rattle.tm_shapes.specs.declared.site.Site.{Site as Stood}
use Rattle.tm_shapes.specs.Cells.{IsLevel}
use Rattle.tm_shapes.specs.Flows.{Flow, Site, add, build_macro, on, pop_loop, refused, replaces, with_operands}
use Rattle.tm_shapes.specs.Shapes.{Part, Shape}
use Rattle.tm_shapes.specs.Shown.{Shows}
use Rattle.tm_shapes.specs.Sites.{IsSite}
use Rattle.tm_shapes.specs.Told.{Tells}

-- At each site, the result is the flow from the shape in the stacks.
abbrev pub TellsOf : List Cell → List Cell → Stacked → Made → (Site → Shape → Flow) → Type 0
TellsOf old new shape made f = (site : Site) (s : Shape) → Shows old shape s → Tells new site.place made (f site s)

-- The same at this site.
abbrev pub TellsThere : Stood → List Cell → List Cell → Stacked → Made → (Site → Shape → Flow) → Type 0
TellsThere at old new shape made f =
    (site : Site) (s : Shape) → IsSite at site → Shows old shape s → Tells new site.place made (f site s)

-- The number of names above a closure, and the shape without these; or no macro can be built.
abbrev pub AreMacroParts : List Cell → Shape → Option (ℕ × Stacked) → Type 0
AreMacroParts cells s None = (site : Site) (place : ℕ) → build_macro site place s s.part.operands ≡ refused
AreMacroParts cells s (Some p) =
    (ks : List Kind) × (s.part.operands ≡ names p.0 ∷ closure ∷ ks) × Shows cells p.1 (with_operands ks s)

-- The place of an opened count below a 1, and the shape without these; or values are added.
abbrev pub IsOpened : List Cell → Shape → Option (Option ℕ × Stacked) → Type 0
IsOpened cells s None = (site : Site) → add site s s.part.operands ≡ replaces site 2 1 s
IsOpened cells s (Some p) =
    (ks : List Kind) × (s.part.operands ≡ one ∷ opened p.0 ∷ ks) × Shows cells p.1 (with_operands ks s)

-- The innermost scope, and what is open without it; or there is none.
abbrev pub IsTopFrame : List Cell → Level → Part → Option (Frame × Level) → Type 0
IsTopFrame cells level part None = part.frames ≡ []
IsTopFrame cells level part (Some p) =
    (fs : List Frame) × (part.frames ≡ p.0 ∷ fs) × (p.1.floor ≡ level.floor) × IsLevel cells p.1 (record part { frames = fs })

-- The shape without the innermost loop; or it can't end.
abbrev pub IsLoopEnded : List Cell → Shape → Option Stacked → Type 0
IsLoopEnded cells s None = (site : Site) → pop_loop site s s.part.frames ≡ refused
IsLoopEnded cells s (Some left) =
    (t : Shape) × ((site : Site) → pop_loop site s s.part.frames ≡ on site t) × Shows cells left t
