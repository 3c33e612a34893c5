-- The streams that are accepted.
use Rattle.std.specs.Prelude.{◌≡◌, ℕ, zero, suc, ◌+◌, List, [], ◌∷◌, drop, length, Option, Some, None, Bool, true, false, nat_eq, not, is_some}
use Rattle.std.specs.Prelude.{◌&&◌, ◌||◌, option_and_then, slice_get}
use Rattle.tm_trees.specs.Instructions.{CaptureMode, Instruction}
use Rattle.tm_trees.specs.Instructions.modes.{Capture, Discard}
use Rattle.tm_trees.specs.Instructions.instructions as i
use Rattle.tm_syntax.specs.Entries.{name_count}
use Rattle.tm_shapes.specs.declared.kind.Kind.{Kind}
use Rattle.tm_shapes.specs.declared.kind.Kind.TheVariants.{Value as value, Zero as nothing, Group as group, Closure as closure, Names as names}
use Rattle.tm_shapes.specs.declared.kind.Kind.TheVariants.{Opened as opened, One as one}
use Rattle.tm_shapes.specs.declared.kind.Frame.{Frame}
use Rattle.tm_shapes.specs.declared.kind.Frame.TheVariants.{Scope as scope, Loop as loop}
use Rattle.tm_shapes.specs.declared.kind.Reading.{Reading}
use Rattle.tm_shapes.specs.declared.kind.Reading.TheVariants as readings
use Rattle.tm_shapes.specs.declared.kind.Form.{Form}
use Rattle.tm_shapes.specs.declared.kind.Form.TheVariants as forms
use Rattle.tm_shapes.specs.Shapes.{Part, Shape, Shapes, entry_shape, first_shape, shape_at}
use Rattle.tm_shapes.specs.Flows.{Site, are, flow_of, is_closed, is_zero}
use Rattle.tm_shapes.specs.Placed.{is_entered, is_placed}
use Rattle.tm_shapes.specs.Search.{Found, Has, Seen, note, reach, search, wander}

-- ---------------------------------------------------------------- equal shapes
abbrev pub same_place : Option ℕ → Option ℕ → Bool
same_place None None = true
same_place (Some n) (Some m) = nat_eq n m
same_place o p = false

abbrev pub same_kind : Kind → Kind → Bool
same_kind value value = true
same_kind (nothing p) (nothing q) = nat_eq p q
same_kind (group o) (group p) = same_place o p
same_kind closure closure = true
same_kind (names n) (names m) = nat_eq n m
same_kind (opened o) (opened p) = same_place o p
same_kind one one = true
same_kind j k = false

abbrev pub same_kinds : List Kind → List Kind → Bool
same_kinds [] [] = true
same_kinds (j ∷ js) (k ∷ ks) = same_kind j k && same_kinds js ks
same_kinds js ks = false

abbrev pub same_frames : List Frame → List Frame → Bool
same_frames [] [] = true
same_frames (scope ∷ fs) (scope ∷ gs) = same_frames fs gs
same_frames (loop a b c ∷ fs) (loop l m n ∷ gs) = nat_eq a l && nat_eq b m && nat_eq c n && same_frames fs gs
same_frames fs gs = false

abbrev pub same_mode : CaptureMode → CaptureMode → Bool
same_mode Capture Capture = true
same_mode Discard Discard = true
same_mode a b = false

abbrev pub same_modes : List CaptureMode → List CaptureMode → Bool
same_modes [] [] = true
same_modes (a ∷ as1) (b ∷ bs) = same_mode a b && same_modes as1 bs
same_modes as1 bs = false

abbrev pub same_part : Part → Part → Bool
same_part p q =
    same_kinds p.operands q.operands && same_frames p.frames q.frames && same_modes p.captures q.captures && nat_eq p.escapes q.escapes

abbrev pub same_parts : List Part → List Part → Bool
same_parts [] [] = true
same_parts (p ∷ ps) (q ∷ qs) = same_part p q && same_parts ps qs
same_parts ps qs = false

abbrev pub same_shape : Shape → Shape → Bool
same_shape s t = same_part s.part t.part && same_parts s.below t.below

-- ---------------------------------------------------------------- the surroundings of instructions
abbrev pub swaps : Option Instruction → Bool
swaps (Some i.Swap) = true
swaps o = false

abbrev pub adds : Option Instruction → Bool
adds (Some i.Add) = true
adds o = false

abbrev pub before_it : ℕ → Option ℕ
before_it zero = None
before_it (suc n) = Some n

-- whether a place is the middle of `Swap`, `LoadConst 1` and `Add`, and nothing jumps between these
abbrev pub is_between : List Instruction → ℕ → Bool
is_between code n =
    swaps (option_and_then (slice_get code) (before_it n)) && adds (slice_get code (n + 1)) && not (is_entered code n || is_entered code (n + 1))

-- how the 0 at each place is read
abbrev pub Readings : Type 0
Readings = ℕ → Reading

abbrev pub all_values : Readings
all_values n = readings.Value

abbrev pub all_open : Readings
all_open n = readings.Open

abbrev pub read_by : Option Bool → Reading
read_by (Some true) = readings.Group
read_by o = readings.Value

-- the 0 at a marked place is read as a group
abbrev pub read_groups : List Bool → Readings
read_groups groups n = read_by (slice_get groups n)

-- The parameters of a search: how each 0 is read, how many operands a `Return` leaves, if that is
-- required, how many are left at the end, and whether the entries of macros are followed.
pub record Asked : Type 0 where
  pub read : Readings
  pub returned : Option ℕ
  pub left : ℕ
  pub enters : Bool

abbrev pub site_of : Asked → List Instruction → ℕ → Site
site_of a code n = record {
  place = n;
  rest = drop (n + 1) code;
  entered = is_entered code (n + 1) || is_entered code (n + 2);
  between = is_between code n;
  reading = a.read n;
  returned = a.returned;
  enters = a.enters;
}

-- ---------------------------------------------------------------- the starts of runs
-- places, and the shapes in which they are reached
abbrev pub Seeds : Type 0
Seeds = List (ℕ × Shape)

abbrev pub start_seed : Seeds
start_seed = (0, first_shape) ∷ []

abbrev pub entry_seed : Option ℕ → ℕ → Seeds → Seeds
entry_seed None place seeds = seeds
entry_seed (Some n) place seeds = (place, entry_shape n) ∷ seeds

-- the entry of each macro that is built after a literal list of names
abbrev pub entry_seeds_from : Option ℕ → List Instruction → Seeds
entry_seeds_from before [] = []
entry_seeds_from before (i.BuildMacro x place caller ∷ more) = entry_seed before place (entry_seeds_from None more)
entry_seeds_from before (i.LoadConst v ∷ more) = entry_seeds_from (Some (name_count v)) more
entry_seeds_from before (x ∷ more) = entry_seeds_from None more

abbrev pub entry_seeds : List Instruction → Seeds
entry_seeds code = entry_seeds_from None code

abbrev pub all_seeds : List Instruction → Seeds
all_seeds code = (0, first_shape) ∷ entry_seeds code

-- ---------------------------------------------------------------- the search
-- no shape yet, for each place and for the end
abbrev pub no_shapes : {A : Type 0} → List A → Shapes
no_shapes [] = None ∷ []
no_shapes (x ∷ xs) = None ∷ no_shapes xs

-- the end of a stream: everything is closed, and n operands are left
abbrev pub ends_with : ℕ → Shape → Bool
ends_with n s = is_closed s && are (Some n) s.part.operands

abbrev pub reaching : Asked → List Instruction → ℕ → Shape → Found → Option Found
reaching a code n s f = reach same_shape code (site_of a code) (ends_with a.left) n s f

abbrev pub begun : Asked → List Instruction → Seeds → Found → Option Found
begun a code [] f = Some f
begun a code (e ∷ es) f = option_and_then (begun a code es) (reaching a code e.0 e.1 f)

abbrev pub nothing_found : List Instruction → Found
nothing_found code = record { shapes = no_shapes code; work = [] }

-- The shapes of everything that the seeds lead to; as many steps suffice as there are places,
-- including the end.
abbrev pub found : Asked → List Instruction → Seeds → Option Shapes
found a code seeds =
    option_and_then (λ (f : Found). search same_shape code (site_of a code) (ends_with a.left) (length (no_shapes code)) f.work f.shapes)
    (begun a code seeds (nothing_found code))

-- ---------------------------------------------------------------- parameters of a search
abbrev pub left_by : Form → ℕ
left_by forms.Template = 0
left_by forms.Expression = 1

abbrev pub ask : Readings → Option ℕ → Bool → Form → Asked
ask read returned enters form = record { read = read; returned = returned; left = left_by form; enters = enters }

-- a search of everything that is reached
abbrev pub ask_all : Readings → Form → Asked
ask_all read forms.Template = ask read (Some 0) true forms.Template
ask_all read forms.Expression = ask read None true forms.Expression

-- a search of what is reached from some places, in which a `Return` leaves n operands
abbrev pub ask_some : Readings → ℕ → Asked
ask_some read n = ask read (Some n) false forms.Expression

-- a 0 may be taken as either
abbrev pub ask_openly : Asked
ask_openly = ask_all all_open forms.Expression

-- ---------------------------------------------------------------- how each 0 is taken
abbrev pub noted : List Instruction → Seeds → Seen → Seen
noted code [] f = f
noted code (e ∷ es) f = noted code es (note code (site_of ask_openly code) e.0 e.1 f)

abbrev pub no_groups : {A : Type 0} → List A → List Bool
no_groups [] = []
no_groups (x ∷ xs) = false ∷ no_groups xs

-- the places whose 0 is taken as a group, if each place has the first shape in which it is reached
abbrev pub groups_in : List Instruction → List Bool
groups_in code =
    let f = noted code (all_seeds code) (record { shapes = no_shapes code; work = []; groups = no_groups code }) in
    (wander code (site_of ask_openly code) (length (no_shapes code)) f.work f).groups

-- ---------------------------------------------------------------- all checks
-- In an expression, a `Return` that the start reaches leaves one operand, and a `Return` that an
-- entry reaches none.
abbrev pub returns_fit : Readings → Form → List Instruction → Bool
returns_fit read forms.Template code = true
returns_fit read forms.Expression code =
    is_some (found (ask_some read 1) code start_seed) && is_some (found (ask_some read 0) code (entry_seeds code))

-- Whether there are shapes, with each 0 read in the given way.
abbrev pub fits : Readings → Form → List Instruction → Bool
fits read form code = is_some (found (ask_all read form) code (all_seeds code)) && returns_fit read form code

abbrev pub loads_zero : Instruction → Bool
loads_zero (i.LoadConst v) = is_zero v
loads_zero x = false

abbrev pub has_zero : List Instruction → Bool
has_zero [] = false
has_zero (x ∷ more) = loads_zero x || has_zero more

-- Whether there are shapes, with each 0 read as it is taken.
abbrev pub fits_as_taken : Form → List Instruction → Bool
fits_as_taken form code = has_zero code && fits (read_groups (groups_in code)) form code

-- or with each read as a value
abbrev pub fits_either : Form → List Instruction → Bool
fits_either form code = fits_as_taken form code || fits all_values form code

-- Whether a stream is accepted.
abbrev pub accepts : Form → List Instruction → Bool
accepts form code = is_placed code && fits_either form code

-- ---------------------------------------------------------------- the rules
-- These shapes meet the rules for these seeds.
pub record Fits (a : Asked) (code : List Instruction) (seeds : Seeds) (shapes : Shapes) : Type 0 where
  pub long : length shapes ≡ length (no_shapes code)
  pub starts : (k : ℕ) (e : ℕ × Shape) → slice_get seeds k ≡ Some e → shape_at shapes e.0 ≡ Some e.1
  pub steps : (n : ℕ) (x : Instruction) (s : Shape) → slice_get code n ≡ Some x → shape_at shapes n ≡ Some s →
      Has shapes (flow_of (site_of a code n) x s)
  pub last : (n : ℕ) (s : Shape) → slice_get code n ≡ None → shape_at shapes n ≡ Some s → (n ≡ length code) × (ends_with a.left s ≡ true)

abbrev pub HasSome : Asked → List Instruction → Seeds → Type 0
HasSome a code seeds = (shapes : Shapes) × Fits a code seeds shapes

abbrev pub ReturnsFit : Readings → Form → List Instruction → Type 0
ReturnsFit read forms.Template code = Unit {0}
ReturnsFit read forms.Expression code = HasSome (ask_some read 1) code start_seed × HasSome (ask_some read 0) code (entry_seeds code)

-- Some shapes meet the rules, with each 0 read in the given way.
abbrev pub MeetsRules : Readings → Form → List Instruction → Type 0
MeetsRules read form code = HasSome (ask_all read form) code (all_seeds code) × ReturnsFit read form code
