-- The search as the program stores it.
use Rattle.std.specs.Prelude.{◌≡◌, ℕ, List, [], ◌∷◌, length, Option, None, Some, Bool, Result, Ok, Err}
use Rattle.tm_syntax.specs.Entries.{name_count}
use Rattle.tm_trees.specs.Instructions.{Instruction}
use Rattle.tm_trees.specs.Instructions.instructions as i
use Rattle.tm_shapes.specs.Accepts.{Asked, Seeds, ends_with, entry_seed, read_by, read_groups, site_of, same_shape}
use Rattle.tm_shapes.specs.Cells.{AllOnce}
use Rattle.tm_shapes.specs.Flows.{Flow}
use Rattle.tm_shapes.specs.Search.{Found, Seen, follow, glance, look, note, reach, trace}
use Rattle.tm_shapes.specs.Shapes.{Shape, Shapes, entry_shape}
use Rattle.tm_shapes.specs.Shown.{Shows}
use Rattle.tm_shapes.specs.declared.cells.Cell.{Cell}
use Rattle.tm_shapes.specs.declared.kind.Reading.{Reading}
use Rattle.tm_shapes.specs.declared.kind.Reading.TheVariants as readings
use Rattle.tm_shapes.specs.declared.refusal.Refusal.{Refusal}
use Rattle.tm_shapes.specs.declared.refusal.Refusal.TheVariants as refusals
use Rattle.tm_shapes.specs.declared.search.Asked.{Asked as Question}
use Rattle.tm_shapes.specs.declared.search.Found.{Found as Finding}
use Rattle.tm_shapes.specs.declared.search.Readings.{Readings}
use Rattle.tm_shapes.specs.declared.search.Readings.TheVariants as read
use Rattle.tm_shapes.specs.declared.search.Seed.{Seed}
use Rattle.tm_shapes.specs.declared.search.Seen.{Seen as Seeing}
use Rattle.tm_shapes.specs.declared.shape.Shape.{Shape as Stacked}

-- ---------------------------------------------------------------- parameters of a search
abbrev pub reading_of : Readings → ℕ → Reading
reading_of read.Values n = readings.Value
reading_of (read.Groups marks) n = read_groups marks.now n
reading_of read.Open n = readings.Open

-- Both read each 0 alike.
abbrev pub AreReadings : Readings → (ℕ → Reading) → Type 0
AreReadings known reads = (n : ℕ) → reading_of known n ≡ reads n

-- The program's search has the same parameters.
pub record IsAsked (question : Question) (a : Asked) : Type 0 where
  pub read : AreReadings question.read a.read
  pub returned : question.returned ≡ a.returned
  pub left : question.left ≡ a.left
  pub enters : question.enters ≡ a.enters

abbrev pub seeds_of : List Seed → Seeds
seeds_of [] = []
seeds_of (e ∷ es) = (e.place, entry_shape e.values) ∷ seeds_of es

abbrev pub seed_of : Option Seed → Seeds
seed_of None = []
seed_of (Some e) = (e.place, entry_shape e.values) ∷ []

-- the number of names in the literal that an instruction loads, if it loads one
abbrev pub count_after : Instruction → Option ℕ
count_after (i.LoadConst v) = Some (name_count v)
count_after x = None

-- the entry of a macro, if the instruction builds one after a literal of that many names
abbrev pub entry_of : Option ℕ → Instruction → Seeds
entry_of before (i.BuildMacro x place caller) = entry_seed before place []
entry_of before x = []

-- ---------------------------------------------------------------- results
-- The stacks of each shape, if there is one.
abbrev pub AllShown : List Cell → List (Option Stacked) → Shapes → Type 0
AllShown cells [] [] = Unit {0}
AllShown cells [] (o ∷ sh) = ⊥
AllShown cells (o ∷ ms) [] = ⊥
AllShown cells (None ∷ ms) (None ∷ sh) = AllShown cells ms sh
AllShown cells (None ∷ ms) (Some s ∷ sh) = ⊥
AllShown cells (Some m ∷ ms) (None ∷ sh) = ⊥
AllShown cells (Some m ∷ ms) (Some s ∷ sh) = Shows cells m s × AllShown cells ms sh

pub record IsFound (made : Finding) (f : Found) : Type 0 where
  pub shapes : AllShown made.cells made.shapes.items f.shapes
  pub work : made.work ≡ f.work

pub record IsSeen (made : Seeing) (f : Seen) : Type 0 where
  pub shapes : AllShown made.cells made.shapes.items f.shapes
  pub work : made.work ≡ f.work
  pub groups : made.groups.items ≡ f.groups

abbrev pub unshaped : {A : Type 0} → List A → List (Option Stacked)
unshaped [] = None ∷ []
unshaped (x ∷ xs) = None ∷ unshaped xs

-- The program's result is what the search finds, or BadStream if it finds nothing. OutOfMemory says
-- nothing.
abbrev pub Comes : {A : Type 0} → Finding → Option Found → Result A Refusal → Type 0
Comes new o (Ok x) = (g : Found) × (o ≡ Some g) × IsFound new g
Comes new o (Err refusals.BadStream) = o ≡ None
Comes new o (Err refusals.OutOfMemory) = Unit {0}

-- ---------------------------------------------------------------- steps
abbrev pub reach_of : Asked → List Instruction → ℕ → Shape → Found → Option Found
reach_of a code n s f = reach same_shape code (site_of a code) (ends_with a.left) n s f

abbrev pub follow_of : Asked → List Instruction → Flow → Found → Option Found
follow_of a code x f = follow same_shape code (site_of a code) (ends_with a.left) x f

abbrev pub look_of : Asked → List Instruction → ℕ → Found → Option Found
look_of a code n f = look same_shape code (site_of a code) (ends_with a.left) n f

abbrev pub note_of : Asked → List Instruction → ℕ → Shape → Seen → Seen
note_of a code n s f = note code (site_of a code) n s f

abbrev pub trace_of : Asked → List Instruction → Flow → Seen → Seen
trace_of a code x f = trace code (site_of a code) x f

abbrev pub glance_of : Asked → List Instruction → ℕ → Seen → Seen
glance_of a code n f = glance code (site_of a code) n f
