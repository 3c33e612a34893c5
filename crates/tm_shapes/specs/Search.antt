-- The search for the shapes of a stream.
use Rattle.std.specs.Prelude.{◌≡◌, ℕ, zero, suc, List, [], ◌∷◌, length, Option, Some, None, option_and_then, slice_get, slice_set, Bool, true, false, nat_eq, ◌&&◌}
use Rattle.tm_trees.specs.Instructions.{Instruction}
use Rattle.tm_shapes.specs.Shapes.{Shape, Shapes, shape_at}
use Rattle.tm_shapes.specs.Flows.{Flow, refused, ends, leads, both, takes, Site, flow_of}

-- the shapes so far, and the places that are left to visit
pub record Found : Type 0 where
  pub shapes : Shapes
  pub work : List ℕ

abbrev pub put_shape : ℕ → Shape → Shapes → Shapes
put_shape n s sh = slice_set sh n (Some s)

module _ (same : Shape → Shape → Bool) (code : List Instruction) (site : ℕ → Site) (ends_well : Shape → Bool) where
  -- A place is reached in a shape. Refused if the place is past the end, or has another shape.
  abbrev pub met : Bool → Found → Option Found
  met true f = Some f
  met false f = None

  abbrev pub reach_by : Option (Option Shape) → ℕ → Shape → Found → Option Found
  reach_by None n s f = None
  reach_by (Some None) n s f = Some (record { shapes = put_shape n s f.shapes; work = n ∷ f.work })
  reach_by (Some (Some t)) n s f = met (same s t) f

  abbrev pub reach : ℕ → Shape → Found → Option Found
  reach n s f = reach_by (slice_get f.shapes n) n s f

  abbrev pub follow : Flow → Found → Option Found
  follow refused f = None
  follow ends f = Some f
  follow (leads n s) f = reach n s f
  follow (both a b) f = option_and_then (follow b) (follow a f)
  follow (takes p a) f = follow a f

  abbrev pub look_by : Option Instruction → ℕ → Option Shape → Found → Option Found
  look_by o n None f = None
  look_by (Some x) n (Some s) f = follow (flow_of (site n) x s) f
  look_by None n (Some s) f = met (nat_eq n (length code) && ends_well s) f

  abbrev pub look : ℕ → Found → Option Found
  look n f = look_by (slice_get code n) n (shape_at f.shapes n) f

  -- Visits places until none is left; the number of steps is limited.
  abbrev pub search : ℕ → List ℕ → Shapes → Option Shapes
  search k [] sh = Some sh
  search zero (n ∷ work) sh = None
  search (suc k) (n ∷ work) sh = option_and_then (λ g. search k g.work g.shapes) (look n (record { shapes = sh; work = work }))

-- The places have exactly the shapes that the flow leads to, and it isn't refused.
abbrev pub Has : Shapes → Flow → Type 0
Has shapes refused = ⊥
Has shapes ends = Unit {0}
Has shapes (leads n s) = shape_at shapes n ≡ Some s
Has shapes (both a b) = Has shapes a × Has shapes b
Has shapes (takes p a) = Has shapes a

-- ---------------------------------------------------------------- how each 0 is taken
-- The places reached so far, those that are left to visit, and those whose 0 is taken as a group.
pub record Seen : Type 0 where
  pub shapes : Shapes
  pub work : List ℕ
  pub groups : List Bool

module _ (code : List Instruction) (site : ℕ → Site) where
  -- A place keeps the first shape in which it is reached; places past the end are ignored.
  abbrev pub note_by : Option (Option Shape) → ℕ → Shape → Seen → Seen
  note_by (Some None) n s f = record f { shapes = put_shape n s f.shapes; work = n ∷ f.work }
  note_by o n s f = f

  abbrev pub note : ℕ → Shape → Seen → Seen
  note n s f = note_by (slice_get f.shapes n) n s f

  abbrev pub trace : Flow → Seen → Seen
  trace refused f = f
  trace ends f = f
  trace (leads n s) f = note n s f
  trace (both a b) f = trace b (trace a f)
  trace (takes p a) f = trace a (record f { groups = slice_set f.groups p true })

  abbrev pub glance_by : Option Instruction → ℕ → Option Shape → Seen → Seen
  glance_by (Some x) n (Some s) f = trace (flow_of (site n) x s) f
  glance_by o n t f = f

  abbrev pub glance : ℕ → Seen → Seen
  glance n f = glance_by (slice_get code n) n (shape_at f.shapes n) f

  -- in at most k steps
  abbrev pub wander : ℕ → List ℕ → Seen → Seen
  wander k [] f = f
  wander zero (n ∷ work) f = f
  wander (suc k) (n ∷ work) f = let g = glance n (record f { work = work }) in wander k g.work g
