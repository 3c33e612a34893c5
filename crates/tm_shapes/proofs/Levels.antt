-- Stacks that grow, levels that change, and what a flow then tells.
use Rattle.std.proofs.Common.{◌≡◌, ◌∙◌, ◌+◌, ◌-◌, ℕ, zero, suc, List, [], ◌∷◌, length, Option, Some, None, Result, Ok, Err, IfOk, Bool, true, false}
use Rattle.std.proofs.Common.{nat_eq, refl, sym, ap, arith, suc-add, zero-add}
use Rattle.std.proofs.lemmas.Bool.Decides.{nat_tests}
use Rattle.std.specs.Option.{option_map}
use Rattle.tm_trees.specs.Instructions.{CaptureMode}
use Rattle.tm_syntax.specs.Choices.{choose}
use Rattle.tm_shapes.specs.declared.cells.Cell.{Cell}
use Rattle.tm_shapes.specs.declared.cells.Item.{Item}
use Rattle.tm_shapes.specs.declared.cells.Item.TheVariants as items
use Rattle.tm_shapes.specs.declared.cells.Level.{Level}
use Rattle.tm_shapes.specs.declared.flow.Flow.{Flow as Made}
use Rattle.tm_shapes.specs.declared.flow.Way.TheVariants as ways
use Rattle.tm_shapes.specs.declared.kind.Kind.{Kind}
use Rattle.tm_shapes.specs.declared.kind.Kind.TheVariants.{Value as value, Zero as nothing, Group as group, Closure as closure, Names as names}
use Rattle.tm_shapes.specs.declared.kind.Kind.TheVariants.{Opened as opened, One as one}
use Rattle.tm_shapes.specs.declared.kind.Frame.{Frame}
use Rattle.tm_shapes.specs.declared.kind.Frame.TheVariants.{Scope as scope, Loop as loop}
use Rattle.tm_shapes.specs.declared.shape.Shape.{Shape as Stacked}
use Rattle.tm_shapes.specs.declared.site.Site.{Site as Stood}
use Rattle.tm_shapes.specs.Cells.{Captures, Frames, Grown, IsLevel, Operands, Parts, capture_item, cell_at}
use Rattle.tm_shapes.specs.Flows.{Flow, Site, add, both, build_macro, end_capture, in_row, is_value, leads, load_names, loop_begun, next}
use Rattle.tm_shapes.specs.Flows.{on, pop_frame, pop_loop, pops, refused, replaces, replaces_counted, swap_group, swap_over, swap_zero}
use Rattle.tm_shapes.specs.Flows.{takes, with_captures, with_frames, with_operands}
use Rattle.tm_shapes.specs.Leading.{TellsOf, TellsThere}
use Rattle.tm_shapes.specs.Shapes.{Part, Shape, entry_shape, pushed}
use Rattle.tm_shapes.specs.Shown.{Shows}
use Rattle.tm_shapes.specs.Sites.{IsSite}
use Rattle.tm_shapes.specs.Told.{Tells}

-- ---------------------------------------------------------------- stacks that grow
module _ (old new : List Cell) (g : Grown old new) where
  frames-grown : (n : ℕ) (fs : List Frame) → Frames old n fs → Frames new n fs
  frames-grown n [] h = h
  frames-grown n (f ∷ fs) h = (h.0, g _ _ h.1, frames-grown h.0 fs h.2)

  captures-grown : (n : ℕ) (ms : List CaptureMode) → Captures old n ms → Captures new n ms
  captures-grown n [] h = h
  captures-grown n (m ∷ ms) h = (h.0, g _ _ h.1, captures-grown h.0 ms h.2)

  operands-grown : (v n : ℕ) (ks : List Kind) → Operands old v n ks → Operands new v n ks
  operands-grown zero n [] h = h
  operands-grown (suc v) n [] h = h
  operands-grown (suc v) n (k ∷ ks) h = (h.0, operands-grown v n ks h.1)
  operands-grown zero n (k ∷ ks) h =
      let c = h.1 in
      (h.0, (c.0, c.1, g _ _ c.2, operands-grown c.0 c.1 ks c.3))

  level-grown : (level : Level) (part : Part) → IsLevel old level part → IsLevel new level part
  level-grown level part h = record {
    frames = frames-grown _ _ h.frames;
    captures = captures-grown _ _ h.captures;
    count = h.count;
    escapes = h.escapes;
  }

  parts-grown : (n floor : ℕ) (qs : List Part) → Parts old n floor qs → Parts new n floor qs
  parts-grown n floor [] h = h
  parts-grown n floor (q ∷ qs) h = (h.0, h.1, g _ _ h.2, level-grown _ _ h.3, h.4, parts-grown h.1 h.0.floor qs h.5)

  -- What is shown stays shown.
  pub shows-grown : (made : Stacked) (s : Shape) → Shows old made s → Shows new made s
  shows-grown made s h = record {
    operands = operands-grown _ _ _ h.operands;
    height = h.height;
    level = level-grown _ _ h.level;
    parts = parts-grown _ _ _ h.parts;
  }

-- ---------------------------------------------------------------- levels
-- with other scopes, captures and escapes open
abbrev pub with_part : (List Frame) → List CaptureMode → ℕ → Shape → Shape
with_part fs ms e s = record s { part = record s.part { frames = fs; captures = ms; escapes = e } }

pub at-level : (cells : List Cell) (made : Stacked) (s : Shape) (level : Level) (fs : List Frame) (ms : List CaptureMode) (e : ℕ) →
    level.floor ≡ made.level.floor → IsLevel cells level (with_part fs ms e s).part → Shows cells made s →
    Shows cells (record made { level = level }) (with_part fs ms e s)
at-level cells made s level fs ms e same h shown = record {
  operands = shown.operands;
  height = rw same shown.height;
  level = h;
  parts = rw same shown.parts;
}

pub frame-pushed : (old new : List Cell) (made : Stacked) (s : Shape) (f : Frame) (n : ℕ) → Grown old new →
    cell_at new n ≡ Some (record { item = items.Frame f; below = made.level.frames }) → Shows old made s →
    Shows new (record made { level = record made.level { frames = n } }) (with_frames (f ∷ s.part.frames) s)
frame-pushed old new made s f n g e shown =
    let h : Shows new made s = shows-grown old new g made s shown in
    record {
      operands = h.operands;
      height = h.height;
      level = record {
        frames = (made.level.frames, e, h.level.frames);
        captures = h.level.captures;
        count = h.level.count;
        escapes = h.level.escapes;
      };
      parts = h.parts;
    }

pub capture-pushed : (old new : List Cell) (made : Stacked) (s : Shape) (m : CaptureMode) (item : Item) (n o : ℕ) → Grown old new →
    item ≡ capture_item m → o ≡ made.level.«open» + 1 →
    cell_at new n ≡ Some (record { item = item; below = made.level.captures }) → Shows old made s →
    Shows new (record made { level = record made.level { captures = n; «open» = o } }) (with_captures (m ∷ s.part.captures) s)
capture-pushed old new made s m item n o g same more e shown =
    let h : Shows new made s = shows-grown old new g made s shown in
    record {
      operands = h.operands;
      height = h.height;
      level = record {
        frames = h.level.frames;
        captures = (made.level.captures, rw same at e, h.level.captures);
        count = omega (arith, more, h.level.count);
        escapes = h.level.escapes;
      };
      parts = h.parts;
    }

abbrev below_or : Option Cell → ℕ
below_or None = 0
below_or (Some c) = c.below

abbrev item_or : Option Cell → Item
item_or None = items.Capture
item_or (Some c) = c.item

abbrev frame_or : Item → Frame
frame_or (items.Frame f) = f
frame_or i = scope

-- what lies under the innermost capture
abbrev pub IsUnder : List Cell → List CaptureMode → ℕ → Type 0
IsUnder cells ms n = (m : CaptureMode) × (rest : List CaptureMode) × (ms ≡ m ∷ rest) × Captures cells n rest

pub under_capture : (cells : List Cell) (n : ℕ) (ms : List CaptureMode) (c : Cell) → Some c ≡ cell_at cells n → Captures cells n ms →
    IsUnder cells ms c.below
under_capture cells n [] c e h = absurd (cc (rw h at e))
under_capture cells n (m ∷ ms) c e h =
    let k : c.below ≡ h.0 = ap below_or (e ∙ h.1) in
    (m, ms, refl, rw k h.2)

-- without the innermost capture
pub capture-popped : (cells : List Cell) (made : Stacked) (s : Shape) (c : Cell) (o : ℕ) → Some c ≡ cell_at cells made.level.captures →
    o ≡ made.level.«open» - 1 → Shows cells made s →
    (m : CaptureMode) × (rest : List CaptureMode) × (s.part.captures ≡ m ∷ rest)
    × Shows cells (record made { level = record made.level { captures = c.below; «open» = o } }) (with_captures rest s)
capture-popped cells made s c o e less h =
    let w : IsUnder cells s.part.captures c.below = under_capture cells _ _ c e h.level.captures in
    let n : length s.part.captures ≡ suc (length w.1) = ap length w.2 in (
      w.0,
      w.1,
      w.2,
      record {
        operands = h.operands;
        height = h.height;
        level = record {
          frames = h.level.frames;
          captures = w.3;
          count = omega (arith, n, less, h.level.count);
          escapes = h.level.escapes;
        };
        parts = h.parts;
      },
    )

pub no_frame : (cells : List Cell) (n : ℕ) (fs : List Frame) → None ≡ cell_at cells n → Frames cells n fs → fs ≡ []
no_frame cells n [] e h = refl
no_frame cells n (f ∷ fs) e h = absurd (cc (e ∙ h.1))

-- a cell that is no scope
pub not_frame : (cells : List Cell) (n : ℕ) (fs : List Frame) (c : Cell) → Some c ≡ cell_at cells n →
    ((f : Frame) → c.item ≡ items.Frame f → ⊥) → Frames cells n fs → fs ≡ []
not_frame cells n [] c e never h = refl
not_frame cells n (f ∷ fs) c e never h = absurd (never f (ap item_or (e ∙ h.1)))

-- the innermost scope
pub is_frame : (cells : List Cell) (n : ℕ) (fs : List Frame) (c : Cell) (f : Frame) → Some c ≡ cell_at cells n → c.item ≡ items.Frame f →
    Frames cells n fs → (rest : List Frame) × (fs ≡ f ∷ rest) × Frames cells c.below rest
is_frame cells n [] c f e is h = absurd (cc (rw h at e))
is_frame cells n (x ∷ fs) c f e is h =
    let k : c.below ≡ h.0 = ap below_or (e ∙ h.1) in
    let i : items.Frame x ≡ items.Frame f = sym (ap item_or (e ∙ h.1)) ∙ is in
    let j : x ≡ f = ap frame_or i in
    (fs, rw j refl, rw k h.2)

-- ---------------------------------------------------------------- operands
-- so many, and then so many more
pub pops-add : (n m : ℕ) (ks : List Kind) (f : List Kind → Flow) → pops (n + m) ks f ≡ pops n ks (λ ks1. pops m ks1 f)
pops-add zero m ks f = rw zero-add refl
pops-add (suc n) m [] f = rw (suc-add n m) refl
pops-add (suc n) m (k ∷ ks) f = rw (suc-add n m) (ap (λ (x : Flow). choose (is_value k) (λ _. x) (λ _. refused)) (pops-add n m ks f))

pub two-operands : (ops js ks : List Kind) (j k a b : Kind) → ops ≡ j ∷ js → j ≡ a → js ≡ k ∷ ks → k ≡ b → ops ≡ a ∷ b ∷ ks
two-operands ops js ks j k a b here first more second = cc

module _ (site : Site) (s : Shape) (k : Kind) (ks : List Kind) (here : s.part.operands ≡ k ∷ ks) where
  pub group-counted : (o : Option ℕ) → k ≡ group o → replaces_counted site None s ≡ next site (value ∷ ks) s
  group-counted o e = rw (here, e) refl

  pub zero-counted : (p : ℕ) → k ≡ nothing p → replaces_counted site None s ≡ takes p (next site (value ∷ ks) s)
  zero-counted p e = rw (here, e) refl

  pub over_group : (o : Option ℕ) → k ≡ group o → swap_over site s s.part.operands ≡ swap_group site s o ks
  over_group o e = rw (here, e) refl

  pub over_zero : (p : ℕ) → k ≡ nothing p → swap_over site s s.part.operands ≡ swap_zero site s p ks
  over_zero p e = rw (here, e) refl

module _ (site : Site) (s : Shape) where
  over-kind : (k : Kind) (ks : List Kind) → ((o : Option ℕ) → k ≡ group o → ⊥) → ((p : ℕ) → k ≡ nothing p → ⊥) →
      swap_over site s (k ∷ ks) ≡ pops 1 (k ∷ ks) (λ ks1. next site (pushed 2 ks1) s)
  over-kind (group o) ks a b = absurd (a o refl)
  over-kind (nothing p) ks a b = absurd (b p refl)
  over-kind k ks a b = refl

  pub over_value : (k : Kind) (ks : List Kind) → s.part.operands ≡ k ∷ ks → ((o : Option ℕ) → k ≡ group o → ⊥) →
      ((p : ℕ) → k ≡ nothing p → ⊥) → swap_over site s s.part.operands ≡ replaces site 1 2 s
  over_value k ks here a b = rw here (over-kind k ks a b)

  pub over-same : (ks : List Kind) → swap_over site s ks ≡ swap_over site (with_operands ks s) ks
  over-same [] = refl
  over-same (group o ∷ ks) = refl
  over-same (nothing p ∷ ks) = refl
  over-same (k ∷ ks) = refl

  pub row-zero : (p : ℕ) (ks : List Kind) → in_row site ≡ true → swap_zero site s p ks ≡ takes p (next site (opened (Some p) ∷ ks) s)
  row-zero p ks e = rw e refl

  -- ---------------------------------------------------------------- macros
  kind-alone : (place : ℕ) (k : Kind) → build_macro site place s (k ∷ []) ≡ refused
  kind-alone place (names n) = refl
  kind-alone place k = refl

  pub no_second : (place : ℕ) (k : Kind) (ks : List Kind) → s.part.operands ≡ k ∷ ks → ks ≡ [] → build_macro site place s s.part.operands ≡ refused
  no_second place k ks here e = rw (here, e) (kind-alone place k)

  kind-second : (place n : ℕ) (k : Kind) (ks : List Kind) → (k ≡ closure → ⊥) → build_macro site place s (names n ∷ k ∷ ks) ≡ refused
  kind-second place n closure ks never = absurd (never refl)
  kind-second place n k ks never = refl

  pub no_closure : (place n : ℕ) (j k : Kind) (js ks : List Kind) → s.part.operands ≡ j ∷ js → j ≡ names n → js ≡ k ∷ ks →
      (k ≡ closure → ⊥) → build_macro site place s s.part.operands ≡ refused
  no_closure place n j k js ks here a b never = rw (here, a, b) (kind-second place n k ks never)

  pub macro-entered : (place n : ℕ) (ks : List Kind) → s.part.operands ≡ names n ∷ closure ∷ ks → site.enters ≡ true →
      build_macro site place s s.part.operands ≡ both (next site (value ∷ ks) s) (leads place (entry_shape n))
  macro-entered place n ks here e = rw (here, e) refl

  pub macro-built : (place n : ℕ) (ks : List Kind) → s.part.operands ≡ names n ∷ closure ∷ ks → site.enters ≡ false →
      build_macro site place s s.part.operands ≡ next site (value ∷ ks) s
  macro-built place n ks here e = rw (here, e) refl

  -- ---------------------------------------------------------------- sums
  sum-alone : (k : Kind) → add site s (k ∷ []) ≡ pops 2 (k ∷ []) (λ ks1. next site (pushed 1 ks1) s)
  sum-alone one = refl
  sum-alone k = refl

  pub add_second : (k : Kind) (ks : List Kind) → s.part.operands ≡ k ∷ ks → ks ≡ [] → add site s s.part.operands ≡ replaces site 2 1 s
  add_second k ks here e = rw (here, e) (sum-alone k)

  sum-second : (k : Kind) (ks : List Kind) → ((o : Option ℕ) → k ≡ opened o → ⊥) →
      add site s (one ∷ k ∷ ks) ≡ pops 2 (one ∷ k ∷ ks) (λ ks1. next site (pushed 1 ks1) s)
  sum-second (opened o) ks never = absurd (never o refl)
  sum-second k ks never = refl

  pub no_opened : (j k : Kind) (js ks : List Kind) → s.part.operands ≡ j ∷ js → j ≡ one → js ≡ k ∷ ks →
      ((o : Option ℕ) → k ≡ opened o → ⊥) → add site s s.part.operands ≡ replaces site 2 1 s
  no_opened j k js ks here a b never = rw (here, a, b) (sum-second k ks never)

  pub added : (o : Option ℕ) (ks : List Kind) → s.part.operands ≡ one ∷ opened o ∷ ks →
      add site s s.part.operands ≡ next site (group o ∷ ks) s
  added o ks here = rw here refl

  -- ---------------------------------------------------------------- scopes
  pub scope-popped : (f : Frame) (fs : List Frame) → s.part.frames ≡ f ∷ fs → f ≡ scope →
      pop_frame site s s.part.frames ≡ on site (with_frames fs s)
  scope-popped f fs here e = rw (here, e) refl

  same-test : (a b : ℕ) → a ≡ b → nat_eq a b ≡ true
  same-test a b e = grind (arith, nat_tests)

  pub loop-popped : (f : Frame) (fs : List Frame) (m c e : ℕ) → s.part.frames ≡ f ∷ fs → f ≡ loop m c e →
      length s.part.captures ≡ c → s.part.escapes ≡ e → pop_loop site s s.part.frames ≡ on site (with_frames fs s)
  loop-popped f fs m c e here is a b = rw (here, is, same-test _ _ a, same-test _ _ b) refl

  pub loop-pushed : (flag : Bool) (m c e : ℕ) → flag ≡ false → m ≡ length s.part.operands → c ≡ length s.part.captures → e ≡ s.part.escapes →
      on site (loop_begun flag s) ≡ on site (with_frames (loop m c e ∷ s.part.frames) s)
  loop-pushed flag m c e off a b d = rw (off, a, b, d) refl

  pub capture-ended : (m : CaptureMode) (ms : List CaptureMode) → s.part.captures ≡ m ∷ ms →
      end_capture site s s.part.captures ≡ next site (value ∷ s.part.operands) (with_captures ms s)
  capture-ended m ms here = rw here refl

  pub names-loaded : (o : Option (List (List ℕ))) (n : ℕ) → Some n ≡ option_map length o →
      load_names o site s ≡ next site (names n ∷ s.part.operands) s
  names-loaded None n e = absurd (cc e)
  names-loaded (Some xs) n e = let k : n ≡ length xs = cc e in rw k refl

-- ---------------------------------------------------------------- what is told
pub tells-same : (cells : List Cell) (n : ℕ) (made : Made) (f g : Flow) → f ≡ g → Tells cells n made g → Tells cells n made f
tells-same cells n made f g e h = rw e h

pub tells-refused : (cells : List Cell) (n : ℕ) (made : Made) (f : Flow) → made ≡ (record { taken = None; way = ways.Refused }) →
    f ≡ refused → Tells cells n made f
tells-refused cells n made f e h = rw e h

pub tells-on : (cells : List Cell) (n : ℕ) (made : Made) (f : Flow) (r : Stacked) (s : Shape) →
    made ≡ (record { taken = None; way = ways.On r }) → f ≡ leads (n + 1) s → Shows cells r s → Tells cells n made f
tells-on cells n made f r s e h shown = rw e (s, shown, h)

pub tells-either : (cells : List Cell) (n : ℕ) (made : Made) (f : Flow) (r q : Stacked) (m : ℕ) (s t : Shape) →
    made ≡ (record { taken = None; way = ways.Either r m q }) → f ≡ both (leads (n + 1) s) (leads m t) →
    Shows cells r s → Shows cells q t → Tells cells n made f
tells-either cells n made f r q m s t e h a b = rw e (s, t, a, b, h)

-- From what stands at a place a flow is the other one from what then stands.
abbrev pub Follows : List Cell → List Cell → Stacked → Stacked → (Site → Shape → Flow) → (Site → Shape → Flow) → Type 0
Follows old mid a b f g = (site : Site) (s : Shape) → Shows old a s → (t : Shape) × (f site s ≡ g site t) × Shows mid b t

abbrev pub FollowsThere : Stood → List Cell → List Cell → Stacked → Stacked → (Site → Shape → Flow) → (Site → Shape → Flow) → Type 0
FollowsThere at old mid a b f g =
    (site : Site) (s : Shape) → IsSite at site → Shows old a s → (t : Shape) × (f site s ≡ g site t) × Shows mid b t

pub told-anywhere : {E : Type 0} (b : Stacked) (g : Site → Shape → Flow) (r : Result Made E) →
    IfOk r (λ made. (cells : List Cell) → TellsOf cells cells b made g) → (cells : List Cell) → IfOk r (λ made. TellsOf cells cells b made g)
told-anywhere b g (Ok made) h cells = h cells
told-anywhere b g (Err e) h cells = h

module _ {E : Type 0} (old mid new : List Cell) (a b : Stacked) (f g : Site → Shape → Flow) where
  pub told : (r : Result Made E) → Follows old mid a b f g → IfOk r (λ made. TellsOf mid new b made g) → IfOk r (λ made. TellsOf old new a made f)
  told (Ok made) step h = λ site s shown. let w = step site s shown in tells-same _ _ _ _ _ w.1 (h site w.0 w.2)
  told (Err e) step h = h

  pub told-there : (at : Stood) (r : Result Made E) → FollowsThere at old mid a b f g → IfOk r (λ made. TellsThere at mid new b made g) →
      IfOk r (λ made. TellsThere at old new a made f)
  told-there at (Ok made) step h = λ site s is shown. let w = step site s is shown in tells-same _ _ _ _ _ w.1 (h site w.0 is w.2)
  told-there at (Err e) step h = h

  pub told-from : (at : Stood) (r : Result Made E) → FollowsThere at old mid a b f g → IfOk r (λ made. TellsOf mid new b made g) →
      IfOk r (λ made. TellsThere at old new a made f)
  told-from at (Ok made) step h = λ site s is shown. let w = step site s is shown in tells-same _ _ _ _ _ w.1 (h site w.0 w.2)
  told-from at (Err e) step h = h

-- ---------------------------------------------------------------- names
-- so many more, where there are any
abbrev pub more : ℕ → Option ℕ → Option ℕ
more n None = None
more n (Some m) = Some (n + m)
