-- Where each 0 is left open an instruction leads to the places to which it leads where these are read, and takes groups alone as such.
use Rattle.std.proofs.Common.{◌≡◌, ◌⊎◌, inl, inr, ℕ, zero, suc, ◌+◌, ◌≤◌, List, [], ◌∷◌, ◌++◌, length, Option, Some, None, Bool, true, false}
use Rattle.std.proofs.Common.{refl, sym, ap, ◌∙◌, subst, arith}
use Rattle.std.specs.Prelude.{slice_get, nat_eq, ◌&&◌}
use Rattle.tm_values.specs.Val.{Val}
use Rattle.tm_syntax.specs.Choices.{choose}
use Rattle.tm_syntax.specs.Entries.{names_in}
use Rattle.tm_syntax.specs.Choices.{is_empty}
use Rattle.tm_trees.specs.Instructions.{Instruction, CaptureMode}
use Rattle.tm_trees.specs.Instructions.instructions as i
use Rattle.tm_shapes.specs.declared.kind.Kind.{Kind}
use Rattle.tm_shapes.specs.declared.kind.Kind.TheVariants.{Value as value, Zero as nothing, Group as group, Closure as closure, Names as names}
use Rattle.tm_shapes.specs.declared.kind.Kind.TheVariants.{Opened as opened, One as one}
use Rattle.tm_shapes.specs.declared.kind.Frame.{Frame}
use Rattle.tm_shapes.specs.declared.kind.Frame.TheVariants.{Scope as scope, Loop as loop}
use Rattle.tm_shapes.specs.declared.kind.Reading.{Reading}
use Rattle.tm_shapes.specs.declared.kind.Reading.TheVariants as readings
use Rattle.tm_shapes.specs.Shapes.{Part, Shape, Shapes, shape_at, pushed, entry_shape}
use Rattle.tm_shapes.specs.Flows.{Flow, refused, ends, leads, both, takes, Site, is_value, pop, pops, pop_group, pop_counted, with_operands, next, on}
use Rattle.tm_shapes.specs.Flows.{is_zero, is_one, builds, builds_after, zero_of, load_names, in_row, swap_over, swap_group, add, build_macro}
use Rattle.tm_shapes.specs.Flows.{with_frames, with_captures, with_escapes, pop_frame, loop_begun, in_part, on_loop, over_part, pop_part, pop_loop}
use Rattle.tm_shapes.specs.Flows.{end_capture, pop_escape, is_closed, are, flow_of, load_on, load_value, load_zero, replaces, replaces_counted, load}
use Rattle.tm_shapes.specs.Search.{Has}
use Rattle.tm_shapes.specs.Accepts.{Readings, read_by}

-- ---------------------------------------------------------------- values that are replaced by values
-- How many values an instruction takes, and how many it leaves, if it does that alone: read off its flow, where it first finds enough.
abbrev left_there : Flow → Option ℕ
left_there (leads p s) = Some (length s.part.operands)
left_there f = None

abbrev lone : Site
lone = record { place = 0; rest = []; entered = false; between = false; reading = readings.Value; returned = None; enters = false }

abbrev left_over : Instruction → ℕ → Option ℕ
left_over x n = left_there (flow_of lone x (entry_shape n))

abbrev enough : Option ℕ → ℕ → ℕ → ℕ
enough (Some m) n more = n
enough None n more = more

abbrev taken_from : ℕ → ℕ → Instruction → ℕ
taken_from zero n x = n
taken_from (suc k) n x = enough (left_over x n) n (taken_from k (suc n) x)

-- no instruction takes more than four
abbrev taken_by : Instruction → ℕ
taken_by x = taken_from 4 0 x

abbrev or_none : Option ℕ → ℕ
or_none (Some m) = m
or_none None = 0

abbrev left_by : Instruction → ℕ
left_by x = or_none (left_over x (taken_by x))

-- whether the 0 of a place is marked
abbrev pub mark_of : Option Bool → Bool
mark_of (Some true) = true
mark_of o = false

abbrev pub turned_group : Bool → ℕ → Kind
turned_group true p = group (Some p)
turned_group false p = value

zero_turned : (o : Option Bool) (n : ℕ) (ks : List Kind) → zero_of (read_by o) n ks ≡ turned_group (mark_of o) n
zero_turned None n ks = refl
zero_turned (Some true) n ks = refl
zero_turned (Some false) n ks = refl

place_inside : {A : Type 0} (xs : List A) (n : ℕ) (x : A) → slice_get xs n ≡ Some x → suc n ≤ length xs
place_inside [] n x e = absurd (cc e)
place_inside (y ∷ xs) zero x e = omega arith
place_inside (y ∷ xs) (suc n) x e = omega (arith, place_inside xs n x e)

-- some shapes fit where each 0 is read so; of these places the 0 is marked
module _ (code : List Instruction) (read : Readings) (sh : Shapes) (marks : List Bool) where
  abbrev pub marked : ℕ → Bool
  marked p = mark_of (slice_get marks p)

  -- a group of which the 0 isn't marked is a value
  abbrev pub turn : Kind → Kind
  turn (group (Some p)) = turned_group (marked p) p
  turn k = k

  abbrev pub turns : List Kind → List Kind
  turns [] = []
  turns (k ∷ ks) = turn k ∷ turns ks

  abbrev pub turn_part : Part → Part
  turn_part p = record p { operands = turns p.operands }

  abbrev pub turn_parts : List Part → List Part
  turn_parts [] = []
  turn_parts (p ∷ ps) = turn_part p ∷ turn_parts ps

  abbrev pub turn_shape : Shape → Shape
  turn_shape s = record { part = turn_part s.part; below = turn_parts s.below }

  -- ---------------------------------------------------------------- kinds that are left open, and as which they are read
  abbrev pub Inside : ℕ → Type 0
  Inside p = suc p ≤ length code

  abbrev pub Settled : Kind → Type 0
  Settled (nothing p) = ⊥
  Settled (group (Some p)) = marked p ≡ true
  Settled (opened (Some p)) = marked p ≡ true
  Settled k = Unit {0}

  abbrev pub ReadAs : Kind → Kind → Type 0
  ReadAs j d = ((j ≡ d) × Settled j) ⊎ ((p : ℕ) × (j ≡ nothing p) × Inside p
      × (((d ≡ value) × (read p ≡ readings.Value)) ⊎ ((d ≡ group (Some p)) × (read p ≡ readings.Group))))

  abbrev pub AllAs : List Kind → List Kind → Type 0
  AllAs [] [] = Unit {0}
  AllAs (j ∷ js) (d ∷ ds) = ReadAs j d × AllAs js ds
  AllAs [] (d ∷ ds) = ⊥
  AllAs (j ∷ js) [] = ⊥

  pub record PartAs (p q : Part) : Type 0 where
    pub operands : AllAs p.operands q.operands
    pub is : p ≡ record q { operands = p.operands }

  abbrev pub PartsAs : List Part → List Part → Type 0
  PartsAs [] [] = Unit {0}
  PartsAs (p ∷ ps) (q ∷ qs) = PartAs p q × PartsAs ps qs
  PartsAs [] (q ∷ qs) = ⊥
  PartsAs (p ∷ ps) [] = ⊥

  pub record ShapeAs (s t : Shape) : Type 0 where
    pub part : PartAs s.part t.part
    pub below : PartsAs s.below t.below

  -- no 0 that is a value is marked
  abbrev pub Sound : Type 0
  Sound = (p : ℕ) → marked p ≡ true → read p ≡ readings.Group

  -- Where each 0 is left open a flow leads to places to which another leads; and a third leads to these as well, where a group is one that is marked.
  abbrev pub Three : Flow → Flow → Flow → Type 0
  Three refused d r = ⊥
  Three ends d r = (d ≡ ends) × (r ≡ ends)
  Three (leads n s) d r = (t : Shape) × (d ≡ leads n t) × ShapeAs s t × (Sound → r ≡ leads n (turn_shape t))
  Three (both a b) d r =
      (d1 : Flow) × (d2 : Flow) × (r1 : Flow) × (r2 : Flow) × (d ≡ both d1 d2) × (r ≡ both r1 r2) × Three a d1 r1 × Three b d2 r2
  Three (takes p a) d r = (read p ≡ readings.Group) × Inside p × ((marked p ≡ true) → Three a d r)

  -- ---------------------------------------------------------------- kinds
  value_as : ReadAs value value
  value_as = inl (refl, tt)

  pushed_as : (n : ℕ) (js ds : List Kind) → AllAs js ds → AllAs (pushed n js) (pushed n ds)
  pushed_as zero js ds r = r
  pushed_as (suc n) js ds r = (value_as, pushed_as n js ds r)

  pushed_turned : (n : ℕ) (ds : List Kind) → pushed n (turns ds) ≡ turns (pushed n ds)
  pushed_turned zero ds = refl
  pushed_turned (suc n) ds = ap (λ ks. value ∷ ks) (pushed_turned n ds)

  pub entry_turned : (m : ℕ) → entry_shape m ≡ turn_shape (entry_shape m)
  entry_turned m = ap (λ ks. record { part = record { operands = ks; frames = []; captures = []; escapes = 0 }; below = [] }) (pushed_turned m [])

  pub entry_as : (m : ℕ) → ShapeAs (entry_shape m) (entry_shape m)
  entry_as m = record { part = record { operands = pushed_as m [] [] tt; is = refl }; below = tt }

  over_as : (js ds ks es : List Kind) → AllAs js ds → AllAs ks es → AllAs (js ++ ks) (ds ++ es)
  over_as [] [] ks es r q = q
  over_as [] (d ∷ ds) ks es r q = absurd r
  over_as (j ∷ js) [] ks es r q = absurd r
  over_as (j ∷ js) (d ∷ ds) ks es r q = (r.0, over_as js ds ks es r.1 q)

  over_turned : (ds es : List Kind) → turns ds ++ turns es ≡ turns (ds ++ es)
  over_turned [] es = refl
  over_turned (d ∷ ds) es = ap (λ ks. turn d ∷ ks) (over_turned ds es)

  as_long : (js ds : List Kind) → AllAs js ds → length js ≡ length ds
  as_long [] [] r = refl
  as_long [] (d ∷ ds) r = absurd r
  as_long (j ∷ js) [] r = absurd r
  as_long (j ∷ js) (d ∷ ds) r = ap suc (as_long js ds r.1)

  pub turned_long : (ds : List Kind) → length (turns ds) ≡ length ds
  turned_long [] = refl
  turned_long (d ∷ ds) = ap suc (turned_long ds)

  none_as : (ps qs : List Part) → PartsAs ps qs → is_empty qs ≡ is_empty ps
  none_as [] [] r = refl
  none_as [] (q ∷ qs) r = absurd r
  none_as (p ∷ ps) [] r = absurd r
  none_as (p ∷ ps) (q ∷ qs) r = refl

  pub none_turned : (qs : List Part) → is_empty (turn_parts qs) ≡ is_empty qs
  none_turned [] = refl
  none_turned (q ∷ qs) = refl

  pub closed_turned : (t : Shape) → is_closed (turn_shape t) ≡ is_closed t
  closed_turned t =
      ap (λ b. is_empty t.part.frames && is_empty t.part.captures && nat_eq t.part.escapes 0 && b) (none_turned t.below)

  pub are_turned : (o : Option ℕ) (ds : List Kind) → are o (turns ds) ≡ are o ds
  are_turned None ds = refl
  are_turned (Some m) ds = ap (λ k. nat_eq k m) (turned_long ds)

  -- what can be taken as a value is one
  values_by : (d : Kind) → Settled d → is_value d ≡ true → turn d ≡ d
  values_by value s e = refl
  values_by (nothing p) s e = absurd s
  values_by (group o) s e = absurd (cc e)
  values_by closure s e = absurd (cc e)
  values_by (names n) s e = absurd (cc e)
  values_by (opened o) s e = absurd (cc e)
  values_by one s e = refl

  values_are : (j d : Kind) → ReadAs j d → is_value d ≡ true → (is_value j ≡ true) × (is_value (turn d) ≡ true)
  values_are j d (inl (same, s)) e =
      (ap is_value same ∙ e, ap is_value (values_by d (subst Settled same s) e) ∙ e)
  values_are j d (inr (p, zero_is, inside, inl (is, r))) e = (ap is_value zero_is, ap (λ k. is_value (turn k)) is)
  values_are j d (inr (p, zero_is, inside, inr (is, r))) e = absurd (cc (sym e ∙ ap is_value is))

  -- ---------------------------------------------------------------- what takes operands
  -- what goes on with operands that are read so
  abbrev Goes : (List Kind → Flow) → (List Kind → Flow) → (List Kind → Flow) → Type 0
  Goes F G H = (js ds : List Kind) → AllAs js ds → Has sh (G ds) → Three (F js) (G ds) (H (turns ds))

  chosen : (b : Bool) (A1 A2 B1 B2 C1 C2 : Flow) → Has sh (choose b (λ _. B1) (λ _. B2)) → (b ≡ true → Has sh B1 → Three A1 B1 C1) →
      (b ≡ false → Has sh B2 → Three A2 B2 C2) →
      Three (choose b (λ _. A1) (λ _. A2)) (choose b (λ _. B1) (λ _. B2)) (choose b (λ _. C1) (λ _. C2))
  chosen true A1 A2 B1 B2 C1 C2 h k l = k refl h
  chosen false A1 A2 B1 B2 C1 C2 h k l = l refl h

  popped_by : (j d : Kind) (A B C : Flow) → ReadAs j d → (b : Bool) → is_value d ≡ b → Has sh (choose b (λ _. B) (λ _. refused)) →
      (Has sh B → Three A B C) →
      Three (choose (is_value j) (λ _. A) (λ _. refused)) (choose b (λ _. B) (λ _. refused)) (choose (is_value (turn d)) (λ _. C) (λ _. refused))
  popped_by j d A B C r true e h k = let v = values_are j d r e in rw (v.0, v.1) (k h)
  popped_by j d A B C r false e h k = absurd h

  pop_three : (F G H : List Kind → Flow) → Goes F G H → (js ds : List Kind) → AllAs js ds → Has sh (pop ds G) →
      Three (pop js F) (pop ds G) (pop (turns ds) H)
  pop_three F G H k [] [] r h = absurd h
  pop_three F G H k [] (d ∷ ds) r h = absurd r
  pop_three F G H k (j ∷ js) [] r h = absurd r
  pop_three F G H k (j ∷ js) (d ∷ ds) r h =
      popped_by j d (F js) (G ds) (H (turns ds)) r.0 (is_value d) refl h (λ h1. k js ds r.1 h1)

  pops_three : (n : ℕ) (F G H : List Kind → Flow) → Goes F G H → (js ds : List Kind) → AllAs js ds → Has sh (pops n ds G) →
      Three (pops n js F) (pops n ds G) (pops n (turns ds) H)
  pops_three zero F G H k js ds r h = k js ds r h
  pops_three (suc n) F G H k js ds r h =
      pop_three (λ ks. pops n ks F) (λ ks. pops n ks G) (λ ks. pops n ks H) (λ js1 ds1 r1 h1. pops_three n F G H k js1 ds1 r1 h1) js ds r h

  grouped_by : (F G H : List Kind → Flow) (d : Kind) (js ds : List Kind) → Settled d → Has sh (pop_group (d ∷ ds) G) →
      (Has sh (G ds) → Three (F js) (G ds) (H (turns ds))) → Three (pop_group (d ∷ js) F) (pop_group (d ∷ ds) G) (pop_group (turns (d ∷ ds)) H)
  grouped_by F G H value js ds s h k = absurd h
  grouped_by F G H (nothing p) js ds s h k = absurd s
  grouped_by F G H (group None) js ds s h k = k h
  grouped_by F G H (group (Some p)) js ds s h k = rw s (k h)
  grouped_by F G H closure js ds s h k = absurd h
  grouped_by F G H (names n) js ds s h k = absurd h
  grouped_by F G H (opened o) js ds s h k = absurd h
  grouped_by F G H one js ds s h k = absurd h

  grouped : (F G H : List Kind → Flow) (j d : Kind) (js ds : List Kind) → ReadAs j d → Has sh (pop_group (d ∷ ds) G) →
      (Has sh (G ds) → Three (F js) (G ds) (H (turns ds))) → Three (pop_group (j ∷ js) F) (pop_group (d ∷ ds) G) (pop_group (turns (d ∷ ds)) H)
  grouped F G H j d js ds (inl (same, s)) h k =
      subst (λ j. Three (pop_group (j ∷ js) F) (pop_group (d ∷ ds) G) (pop_group (turns (d ∷ ds)) H)) (sym same)
      (grouped_by F G H d js ds (subst Settled same s) h k)
  grouped F G H j d js ds (inr (p, zero_is, inside, inl (is, r))) h k =
      absurd (subst (λ d. Has sh (pop_group (d ∷ ds) G)) is h)
  grouped F G H j d js ds (inr (p, zero_is, inside, inr (is, r))) h k =
      let h1 : Has sh (G ds) = subst (λ d. Has sh (pop_group (d ∷ ds) G)) is h in
      subst (λ j. Three (pop_group (j ∷ js) F) (pop_group (d ∷ ds) G) (pop_group (turns (d ∷ ds)) H)) (sym zero_is)
      (subst (λ d. Three (pop_group (nothing p ∷ js) F) (pop_group (d ∷ ds) G) (pop_group (turns (d ∷ ds)) H)) (sym is)
      (r, inside, λ e. rw e (k h1)))

  group_three : (F G H : List Kind → Flow) → Goes F G H → (js ds : List Kind) → AllAs js ds → Has sh (pop_group ds G) →
      Three (pop_group js F) (pop_group ds G) (pop_group (turns ds) H)
  group_three F G H k [] [] r h = absurd h
  group_three F G H k [] (d ∷ ds) r h = absurd r
  group_three F G H k (j ∷ js) [] r h = absurd r
  group_three F G H k (j ∷ js) (d ∷ ds) r h = grouped F G H j d js ds r.0 h (λ h1. k js ds r.1 h1)

  counted_three : (n : Option ℕ) (F G H : List Kind → Flow) → Goes F G H → (js ds : List Kind) → AllAs js ds → Has sh (pop_counted n ds G) →
      Three (pop_counted n js F) (pop_counted n ds G) (pop_counted n (turns ds) H)
  counted_three (Some n) F G H k js ds r h = pops_three n F G H k js ds r h
  counted_three None F G H k js ds r h = group_three F G H k js ds r h

  -- ---------------------------------------------------------------- shapes
  -- a shape with these operands and parts below, left open, in the place of another's
  abbrev pub wide : List Kind → List Part → Shape → Shape
  wide js bs t = record { part = record t.part { operands = js }; below = bs }

  abbrev wide_as : (js : List Kind) (bs : List Part) (t : Shape) → AllAs js t.part.operands → PartsAs bs t.below → ShapeAs (wide js bs t) t
  wide_as js bs t r lower = record { part = record { operands = r; is = refl }; below = lower }

  leads_three : (n : ℕ) (js : List Kind) (bs : List Part) (t u : Shape) → AllAs js t.part.operands → PartsAs bs t.below →
      (Sound → u ≡ turn_shape t) → Three (leads n (wide js bs t)) (leads n t) (leads n u)
  leads_three n js bs t u r lower e = (t, refl, wide_as js bs t r lower, λ s. ap (leads n) (e s))

  -- ---------------------------------------------------------------- instructions
  module _ (settled : (n : ℕ) → (read n ≡ readings.Value) ⊎ (read n ≡ readings.Group))
      (bottom : (n : ℕ) (t : Shape) → read n ≡ readings.Group → shape_at sh n ≡ Some t → t.part.operands ≡ [])
      (n : ℕ) (rest : List Instruction) (entered between : Bool) (returned : Option ℕ) where
    -- a place where 0 is left open, and where it is read, by these readings or by the marks
    abbrev pub site_open : Site
    site_open = record {
      place = n;
      rest = rest;
      entered = entered;
      between = between;
      reading = readings.Open;
      returned = None;
      enters = true;
    }

    abbrev pub site_read : Reading → Site
    site_read r = record {
      place = n;
      rest = rest;
      entered = entered;
      between = between;
      reading = r;
      returned = returned;
      enters = true;
    }

    abbrev at : Site
    at = site_read (read n)

    abbrev by_marks : Site
    by_marks = site_read (read_by (slice_get marks n))

    next_three : (js ds rs ks : List Kind) (bs : List Part) (t : Shape) → AllAs js ds → PartsAs bs t.below → (Sound → rs ≡ turns ds) →
        Three (next site_open js (wide ks bs t)) (next at ds t) (next by_marks rs (turn_shape t))
    next_three js ds rs ks bs t r lower e =
        leads_three (n + 1) js bs (with_operands ds t) (with_operands rs (turn_shape t)) r lower
        (λ s. ap (λ rs. with_operands rs (turn_shape t)) (e s))

    module _ (bs : List Part) (t : Shape) (lower : PartsAs bs t.below) (js : List Kind) (ops : AllAs js t.part.operands) where
      abbrev s : Shape
      s = wide js bs t

      abbrev u : Shape
      u = turn_shape t

      replaces_three : (c m : ℕ) → Has sh (replaces at c m t) → Three (replaces site_open c m s) (replaces at c m t) (replaces by_marks c m u)
      replaces_three c m h =
          pops_three c (λ ks. next site_open (pushed m ks) s) (λ ks. next at (pushed m ks) t) (λ ks. next by_marks (pushed m ks) u)
          (λ ks ds r h. next_three (pushed m ks) (pushed m ds) (pushed m (turns ds)) js bs t (pushed_as m ks ds r) lower (λ _. pushed_turned m ds))
          js t.part.operands ops h

      replaces_counted_three : (c : Option ℕ) → Has sh (replaces_counted at c t) →
          Three (replaces_counted site_open c s) (replaces_counted at c t) (replaces_counted by_marks c u)
      replaces_counted_three c h =
          counted_three c (λ ks. next site_open (value ∷ ks) s) (λ ks. next at (value ∷ ks) t) (λ ks. next by_marks (value ∷ ks) u)
          (λ ks ds r h. next_three (value ∷ ks) (value ∷ ds) (value ∷ turns ds) js bs t (value_as, r) lower (λ _. refl))
          js t.part.operands ops h

      unpack_three : (c : ℕ) → Has sh (flow_of at (i.UnpackLists c) t) →
          Three (flow_of site_open (i.UnpackLists c) s) (flow_of at (i.UnpackLists c) t) (flow_of by_marks (i.UnpackLists c) u)
      unpack_three c h =
          pops_three c (λ ks. next site_open (group None ∷ ks) s) (λ ks. next at (group None ∷ ks) t) (λ ks. next by_marks (group None ∷ ks) u)
          (λ ks ds r h. next_three (group None ∷ ks) (group None ∷ ds) (group None ∷ turns ds) js bs t (inl (refl, tt), r) lower (λ _. refl))
          js t.part.operands ops h

      -- a kind is pushed that is neither 0 nor a group
      push_three : (k : Kind) → Settled k → turn k ≡ k →
          Three (next site_open (k ∷ js) s) (next at (k ∷ t.part.operands) t) (next by_marks (k ∷ turns t.part.operands) u)
      push_three k settled_is same =
          next_three (k ∷ js) (k ∷ t.part.operands) (k ∷ turns t.part.operands) js bs t (inl (refl, settled_is), ops) lower
          (λ _. ap (λ k. k ∷ turns t.part.operands) (sym same))

      -- ---------------------------------------------------------------- literals
      -- by as what the 0 is read
      open_value : (ks : List Kind) → Inside n → read n ≡ readings.Value → ReadAs (zero_of readings.Open n ks) value
      open_value [] inside r = inr (n, refl, inside, inl (refl, r))
      open_value (k ∷ ks) inside r = value_as

      not_marked : (b : Bool) → marked n ≡ b → read n ≡ readings.Value → Sound → turned_group b n ≡ value
      not_marked true e r sound = absurd (cc (sym r ∙ sound n e))
      not_marked false e r sound = refl

      value_loaded : Inside n → read n ≡ readings.Value → Three (load_zero site_open s) (load_zero at t) (load_zero by_marks u)
      value_loaded inside r =
          subst (λ q. Three (load_zero site_open s) (next at (zero_of q n t.part.operands ∷ t.part.operands) t) (load_zero by_marks u)) (sym r)
          (next_three (zero_of readings.Open n js ∷ js) (value ∷ t.part.operands)
          (zero_of (read_by (slice_get marks n)) n (turns t.part.operands) ∷ turns t.part.operands) js bs t (open_value js inside r, ops) lower
          (λ sound. ap (λ k. k ∷ turns t.part.operands)
          (zero_turned (slice_get marks n) n (turns t.part.operands) ∙ not_marked (marked n) refl r sound)))

      open_group : (ks ds : List Kind) → AllAs ks ds → ds ≡ [] → Inside n → read n ≡ readings.Group →
          ReadAs (zero_of readings.Open n ks) (group (Some n))
      open_group [] ds as_is none inside r = inr (n, refl, inside, inr (refl, r))
      open_group (k ∷ ks) [] as_is none inside r = absurd as_is
      open_group (k ∷ ks) (d ∷ ds) as_is none inside r = absurd (cc none)

      group_loaded : Inside n → read n ≡ readings.Group → t.part.operands ≡ [] →
          Three (load_zero site_open s) (load_zero at t) (load_zero by_marks u)
      group_loaded inside r none =
          subst (λ q. Three (load_zero site_open s) (next at (zero_of q n t.part.operands ∷ t.part.operands) t) (load_zero by_marks u)) (sym r)
          (next_three (zero_of readings.Open n js ∷ js) (group (Some n) ∷ t.part.operands)
          (zero_of (read_by (slice_get marks n)) n (turns t.part.operands) ∷ turns t.part.operands) js bs t
          (open_group js t.part.operands ops none inside r, ops) lower
          (λ sound. ap (λ k. k ∷ turns t.part.operands) (zero_turned (slice_get marks n) n (turns t.part.operands))))

      zero_by : Inside n → shape_at sh n ≡ Some t → (read n ≡ readings.Value) ⊎ (read n ≡ readings.Group) →
          Three (load_zero site_open s) (load_zero at t) (load_zero by_marks u)
      zero_by inside there (inl r) = value_loaded inside r
      zero_by inside there (inr r) = group_loaded inside r (bottom n t r there)

      names_three : (o : Option (List (List ℕ))) → Has sh (load_names o at t) →
          Three (load_names o site_open s) (load_names o at t) (load_names o by_marks u)
      names_three (Some xs) h = push_three (names (length xs)) tt refl
      names_three None h = absurd h

      value_three : Inside n → shape_at sh n ≡ Some t → (v : Val) → Has sh (load_value at v t) →
          Three (load_value site_open v s) (load_value at v t) (load_value by_marks v u)
      value_three inside there v h =
          chosen (is_zero v) (load_zero site_open s) (next site_open (value ∷ js) s) (load_zero at t) (next at (value ∷ t.part.operands) t)
          (load_zero by_marks u) (next by_marks (value ∷ turns t.part.operands) u) h (λ _ _. zero_by inside there (settled n))
          (λ _ _. push_three value tt refl)

      load_on_three : Inside n → shape_at sh n ≡ Some t → (v : Val) → Has sh (load_on at v t) →
          Three (load_on site_open v s) (load_on at v t) (load_on by_marks v u)
      load_on_three inside there v h =
          chosen (between && is_one v) (next site_open (one ∷ js) s) (load_value site_open v s) (next at (one ∷ t.part.operands) t)
          (load_value at v t) (next by_marks (one ∷ turns t.part.operands) u) (load_value by_marks v u) h (λ _ _. push_three one tt refl)
          (λ _ h. value_three inside there v h)

      load_three : Inside n → shape_at sh n ≡ Some t → (v : Val) → Has sh (load at v t) →
          Three (load site_open v s) (load at v t) (load by_marks v u)
      load_three inside there v h =
          chosen (builds rest) (load_names (names_in v) site_open s) (load_on site_open v s) (load_names (names_in v) at t) (load_on at v t)
          (load_names (names_in v) by_marks u) (load_on by_marks v u) h (λ _ h. names_three (names_in v) h)
          (λ _ h. load_on_three inside there v h)

      closure_three : Has sh (flow_of at i.GetClosure t) →
          Three (flow_of site_open i.GetClosure s) (flow_of at i.GetClosure t) (flow_of by_marks i.GetClosure u)
      closure_three h =
          chosen (builds_after rest) (next site_open (closure ∷ js) s) (next site_open (value ∷ js) s) (next at (closure ∷ t.part.operands) t)
          (next at (value ∷ t.part.operands) t) (next by_marks (closure ∷ turns t.part.operands) u)
          (next by_marks (value ∷ turns t.part.operands) u) h (λ _ _. push_three closure tt refl) (λ _ _. push_three value tt refl)

      -- ---------------------------------------------------------------- what stands together
      two_swapped : (ks ds : List Kind) → AllAs ks ds →
          Three (next site_open (value ∷ value ∷ ks) s) (next at (value ∷ value ∷ ds) t) (next by_marks (value ∷ value ∷ turns ds) u)
      two_swapped ks ds r =
          next_three (value ∷ value ∷ ks) (value ∷ value ∷ ds) (value ∷ value ∷ turns ds) js bs t (value_as, (value_as, r)) lower (λ _. refl)

      opened_three : (o : Option ℕ) (ks ds : List Kind) → Settled (opened o) → AllAs ks ds →
          Three (next site_open (opened o ∷ ks) s) (next at (opened o ∷ ds) t) (next by_marks (opened o ∷ turns ds) u)
      opened_three o ks ds st r =
          next_three (opened o ∷ ks) (opened o ∷ ds) (opened o ∷ turns ds) js bs t (inl (refl, st), r) lower (λ _. refl)

      group_swapped : (o : Option ℕ) (ks ds : List Kind) → Settled (opened o) → AllAs ks ds → Has sh (swap_group at t o ds) →
          Three (swap_group site_open s o ks) (swap_group at t o ds) (swap_group by_marks u o (turns ds))
      group_swapped o ks ds st r h =
          chosen (in_row at) (next site_open (opened o ∷ ks) s) refused (next at (opened o ∷ ds) t) refused (next by_marks (opened o ∷ turns ds) u)
          refused h (λ _ _. opened_three o ks ds st r) (λ _ h. absurd h)

      over_same : (d : Kind) (ks ds : List Kind) → Settled d → AllAs ks ds → Has sh (swap_over at t (d ∷ ds)) →
          Three (swap_over site_open s (d ∷ ks)) (swap_over at t (d ∷ ds)) (swap_over by_marks u (turns (d ∷ ds)))
      over_same value ks ds st r h = two_swapped ks ds r
      over_same (nothing p) ks ds st r h = absurd st
      over_same (group None) ks ds st r h = group_swapped None ks ds tt r h
      over_same (group (Some p)) ks ds st r h = rw st (group_swapped (Some p) ks ds st r h)
      over_same closure ks ds st r h = absurd h
      over_same (names m) ks ds st r h = absurd h
      over_same (opened o) ks ds st r h = absurd h
      over_same one ks ds st r h = two_swapped ks ds r

      -- a 0 that is read as a value, where no row stands
      zero_value : (p : ℕ) (ks ds : List Kind) (b : Bool) → (b ≡ true → ⊥) → AllAs ks ds →
          Three (choose b (λ _. takes p (next site_open (opened (Some p) ∷ ks) s)) (λ _. next site_open (value ∷ value ∷ ks) s))
          (next at (value ∷ value ∷ ds) t) (next by_marks (value ∷ value ∷ turns ds) u)
      zero_value p ks ds true never r = absurd (never refl)
      zero_value p ks ds false never r = two_swapped ks ds r

      -- and one that is read as a group, where one stands
      zero_group : (p : ℕ) (ks ds : List Kind) (R : Flow) (b : Bool) → read p ≡ readings.Group → Inside p → AllAs ks ds →
          (marked p ≡ true → R ≡ choose b (λ _. next by_marks (opened (Some p) ∷ turns ds) u) (λ _. refused)) →
          Has sh (choose b (λ _. next at (opened (Some p) ∷ ds) t) (λ _. refused)) →
          Three (choose b (λ _. takes p (next site_open (opened (Some p) ∷ ks) s)) (λ _. next site_open (value ∷ value ∷ ks) s))
          (choose b (λ _. next at (opened (Some p) ∷ ds) t) (λ _. refused)) R
      zero_group p ks ds R false g inside r is h = absurd h
      zero_group p ks ds R true g inside r is h = (
        g,
        inside,
        λ e. subst (λ R. Three (next site_open (opened (Some p) ∷ ks) s) (next at (opened (Some p) ∷ ds) t) R) (sym (is e))
            (opened_three (Some p) ks ds e r),
      )

      marked_over : (p : ℕ) (ds : List Kind) → marked p ≡ true →
          swap_over by_marks u (turned_group (marked p) p ∷ turns ds) ≡ swap_group by_marks u (Some p) (turns ds)
      marked_over p ds e = rw e refl

      over_by : (j d : Kind) (ks ds : List Kind) → ReadAs j d → AllAs ks ds → ((more : List Kind) → in_row at ≡ true → d ∷ ds ≡ value ∷ more → ⊥) →
          Has sh (swap_over at t (d ∷ ds)) →
          Three (swap_over site_open s (j ∷ ks)) (swap_over at t (d ∷ ds)) (swap_over by_marks u (turns (d ∷ ds)))
      over_by j d ks ds (inl (same, st)) r never h =
          subst (λ j. Three (swap_over site_open s (j ∷ ks)) (swap_over at t (d ∷ ds)) (swap_over by_marks u (turns (d ∷ ds)))) (sym same)
          (over_same d ks ds (subst Settled same st) r h)
      over_by j d ks ds (inr (p, zero_is, inside, inl (is, v))) r never h =
          subst (λ j. Three (swap_over site_open s (j ∷ ks)) (swap_over at t (d ∷ ds)) (swap_over by_marks u (turns (d ∷ ds)))) (sym zero_is)
          (subst (λ d. Three (swap_over site_open s (nothing p ∷ ks)) (swap_over at t (d ∷ ds)) (swap_over by_marks u (turns (d ∷ ds)))) (sym is)
          (zero_value p ks ds (in_row at) (λ row. never ds row (ap (λ d. d ∷ ds) is)) r))
      over_by j d ks ds (inr (p, zero_is, inside, inr (is, g))) r never h =
          let h1 : Has sh (swap_group at t (Some p) ds) = subst (λ d. Has sh (swap_over at t (d ∷ ds))) is h in
          subst (λ j. Three (swap_over site_open s (j ∷ ks)) (swap_over at t (d ∷ ds)) (swap_over by_marks u (turns (d ∷ ds)))) (sym zero_is)
          (subst (λ d. Three (swap_over site_open s (nothing p ∷ ks)) (swap_over at t (d ∷ ds)) (swap_over by_marks u (turns (d ∷ ds)))) (sym is)
          (zero_group p ks ds (swap_over by_marks u (turned_group (marked p) p ∷ turns ds)) (in_row at) g inside r (marked_over p ds) h1))

      over_three : (ks ds : List Kind) → AllAs ks ds → ((more : List Kind) → in_row at ≡ true → ds ≡ value ∷ more → ⊥) →
          Has sh (swap_over at t ds) → Three (swap_over site_open s ks) (swap_over at t ds) (swap_over by_marks u (turns ds))
      over_three [] [] r never h = absurd h
      over_three [] (d ∷ ds) r never h = absurd r
      over_three (j ∷ ks) [] r never h = absurd r
      over_three (j ∷ ks) (d ∷ ds) r never h = over_by j d ks ds r.0 r.1 never h

      swap_three : (ks ds : List Kind) → AllAs ks ds → ((d : Kind) (more : List Kind) → in_row at ≡ true → ds ≡ d ∷ value ∷ more → ⊥) →
          Has sh (pop ds (swap_over at t)) →
          Three (pop ks (swap_over site_open s)) (pop ds (swap_over at t)) (pop (turns ds) (swap_over by_marks u))
      swap_three [] [] r never h = absurd h
      swap_three [] (d ∷ ds) r never h = absurd r
      swap_three (j ∷ ks) [] r never h = absurd r
      swap_three (j ∷ ks) (d ∷ ds) r never h =
          popped_by j d (swap_over site_open s ks) (swap_over at t ds) (swap_over by_marks u (turns ds)) r.0 (is_value d) refl h (λ h1.
          over_three ks ds r.1 (λ more row e. never d more row (ap (λ x. d ∷ x) e)) h1)

      two_added : (ks ds : List Kind) → AllAs ks ds → Has sh (pops 2 ds (λ ks. next at (value ∷ ks) t)) →
          Three (pops 2 ks (λ ks. next site_open (value ∷ ks) s)) (pops 2 ds (λ ks. next at (value ∷ ks) t))
          (pops 2 (turns ds) (λ ks. next by_marks (value ∷ ks) u))
      two_added ks ds r h =
          pops_three 2 (λ ks. next site_open (value ∷ ks) s) (λ ks. next at (value ∷ ks) t) (λ ks. next by_marks (value ∷ ks) u)
          (λ ks ds r h. next_three (value ∷ ks) (value ∷ ds) (value ∷ turns ds) js bs t (value_as, r) lower (λ _. refl)) ks ds r h

      counted_added : (o : Option ℕ) (ks ds : List Kind) → Settled (group o) → turn (group o) ≡ group o → AllAs ks ds →
          Three (next site_open (group o ∷ ks) s) (next at (group o ∷ ds) t) (next by_marks (group o ∷ turns ds) u)
      counted_added o ks ds st same r =
          next_three (group o ∷ ks) (group o ∷ ds) (group o ∷ turns ds) js bs t (inl (refl, st), r) lower
          (λ _. ap (λ k. k ∷ turns ds) (sym same))

      marked_group : (p : ℕ) → marked p ≡ true → turn (group (Some p)) ≡ group (Some p)
      marked_group p e = rw e refl

      one_same : (d : Kind) (ks ds : List Kind) → Settled d → AllAs ks ds → Has sh (add at t (one ∷ d ∷ ds)) →
          Three (add site_open s (one ∷ d ∷ ks)) (add at t (one ∷ d ∷ ds)) (add by_marks u (turns (one ∷ d ∷ ds)))
      one_same value ks ds st r h = two_added (one ∷ value ∷ ks) (one ∷ value ∷ ds) (inl (refl, tt), (value_as, r)) h
      one_same (nothing p) ks ds st r h = absurd st
      one_same (group o) ks ds st r h = absurd h
      one_same closure ks ds st r h = absurd h
      one_same (names m) ks ds st r h = absurd h
      one_same (opened None) ks ds st r h = counted_added None ks ds tt refl r
      one_same (opened (Some p)) ks ds st r h = counted_added (Some p) ks ds st (marked_group p st) r
      one_same one ks ds st r h = two_added (one ∷ one ∷ ks) (one ∷ one ∷ ds) (inl (refl, tt), (inl (refl, tt), r)) h

      one_by : (j d : Kind) (ks ds : List Kind) → ReadAs j d → AllAs ks ds → Has sh (add at t (one ∷ d ∷ ds)) →
          Three (add site_open s (one ∷ j ∷ ks)) (add at t (one ∷ d ∷ ds)) (add by_marks u (turns (one ∷ d ∷ ds)))
      one_by j d ks ds (inl (same, st)) r h =
          subst (λ j. Three (add site_open s (one ∷ j ∷ ks)) (add at t (one ∷ d ∷ ds)) (add by_marks u (turns (one ∷ d ∷ ds)))) (sym same)
          (one_same d ks ds (subst Settled same st) r h)
      one_by j d ks ds (inr (p, zero_is, inside, inl (is, v))) r h =
          let h1 : Has sh (add at t (one ∷ value ∷ ds)) = subst (λ d. Has sh (add at t (one ∷ d ∷ ds))) is h in
          subst (λ j. Three (add site_open s (one ∷ j ∷ ks)) (add at t (one ∷ d ∷ ds)) (add by_marks u (turns (one ∷ d ∷ ds)))) (sym zero_is)
          (subst (λ d. Three (add site_open s (one ∷ nothing p ∷ ks)) (add at t (one ∷ d ∷ ds)) (add by_marks u (turns (one ∷ d ∷ ds)))) (sym is)
          (two_added (one ∷ nothing p ∷ ks) (one ∷ value ∷ ds) (inl (refl, tt), (inr (p, refl, inside, inl (refl, v)), r)) h1))
      one_by j d ks ds (inr (p, zero_is, inside, inr (is, g))) r h = absurd (subst (λ d. Has sh (add at t (one ∷ d ∷ ds))) is h)

      one_three : (ks ds : List Kind) → AllAs ks ds → Has sh (add at t (one ∷ ds)) →
          Three (add site_open s (one ∷ ks)) (add at t (one ∷ ds)) (add by_marks u (turns (one ∷ ds)))
      one_three [] [] r h = absurd h
      one_three [] (d ∷ ds) r h = absurd r
      one_three (j ∷ ks) [] r h = absurd r
      one_three (j ∷ ks) (d ∷ ds) r h = one_by j d ks ds r.0 r.1 h

      add_same : (d : Kind) (ks ds : List Kind) → Settled d → AllAs ks ds → Has sh (add at t (d ∷ ds)) →
          Three (add site_open s (d ∷ ks)) (add at t (d ∷ ds)) (add by_marks u (turns (d ∷ ds)))
      add_same value ks ds st r h = two_added (value ∷ ks) (value ∷ ds) (value_as, r) h
      add_same (nothing p) ks ds st r h = absurd st
      add_same (group o) ks ds st r h = absurd h
      add_same closure ks ds st r h = absurd h
      add_same (names m) ks ds st r h = absurd h
      add_same (opened o) ks ds st r h = absurd h
      add_same one ks ds st r h = one_three ks ds r h

      add_by : (j d : Kind) (ks ds : List Kind) → ReadAs j d → AllAs ks ds → Has sh (add at t (d ∷ ds)) →
          Three (add site_open s (j ∷ ks)) (add at t (d ∷ ds)) (add by_marks u (turns (d ∷ ds)))
      add_by j d ks ds (inl (same, st)) r h =
          subst (λ j. Three (add site_open s (j ∷ ks)) (add at t (d ∷ ds)) (add by_marks u (turns (d ∷ ds)))) (sym same)
          (add_same d ks ds (subst Settled same st) r h)
      add_by j d ks ds (inr (p, zero_is, inside, inl (is, v))) r h =
          let h1 : Has sh (add at t (value ∷ ds)) = subst (λ d. Has sh (add at t (d ∷ ds))) is h in
          subst (λ j. Three (add site_open s (j ∷ ks)) (add at t (d ∷ ds)) (add by_marks u (turns (d ∷ ds)))) (sym zero_is)
          (subst (λ d. Three (add site_open s (nothing p ∷ ks)) (add at t (d ∷ ds)) (add by_marks u (turns (d ∷ ds)))) (sym is)
          (two_added (nothing p ∷ ks) (value ∷ ds) (inr (p, refl, inside, inl (refl, v)), r) h1))
      add_by j d ks ds (inr (p, zero_is, inside, inr (is, g))) r h = absurd (subst (λ d. Has sh (add at t (d ∷ ds))) is h)

      add_three : (ks ds : List Kind) → AllAs ks ds → Has sh (add at t ds) →
          Three (add site_open s ks) (add at t ds) (add by_marks u (turns ds))
      add_three [] [] r h = absurd h
      add_three [] (d ∷ ds) r h = absurd r
      add_three (j ∷ ks) [] r h = absurd r
      add_three (j ∷ ks) (d ∷ ds) r h = add_by j d ks ds r.0 r.1 h

      -- ---------------------------------------------------------------- macros and jumps
      both_three : (a1 a2 b1 b2 c1 c2 : Flow) → Three a1 b1 c1 → Three a2 b2 c2 → Three (both a1 a2) (both b1 b2) (both c1 c2)
      both_three a1 a2 b1 b2 c1 c2 x y = (b1, b2, c1, c2, refl, refl, x, y)

      plain_as : (j d : Kind) → ReadAs j d → (d ≡ value → ⊥) → ((p : ℕ) → d ≡ group (Some p) → ⊥) → j ≡ d
      plain_as j d (inl (same, st)) v g = same
      plain_as j d (inr (p, zero_is, inside, inl (is, r))) v g = absurd (v is)
      plain_as j d (inr (p, zero_is, inside, inr (is, r))) v g = absurd (g p is)

      entry_three : (place m : ℕ) → Three (leads place (entry_shape m)) (leads place (entry_shape m)) (leads place (entry_shape m))
      entry_three place m = leads_three place (pushed m []) [] (entry_shape m) (entry_shape m) (pushed_as m [] [] tt) tt (λ _. entry_turned m)

      macro_at : (ds : List Kind) (place : ℕ) → Has sh (build_macro at place t ds) → (m : ℕ) × (more : List Kind) × (ds ≡ names m ∷ closure ∷ more)
      macro_at (names m ∷ closure ∷ ds) place h = (m, ds, refl)
      macro_at ds place h = absurd h

      named_as : (ks : List Kind) (m : ℕ) (more : List Kind) → AllAs ks (names m ∷ closure ∷ more) →
          (rest : List Kind) × (ks ≡ names m ∷ closure ∷ rest) × AllAs rest more
      named_as [] m more r = absurd r
      named_as (j ∷ []) m more r = absurd r.1
      named_as (j ∷ k ∷ ks) m more r =
          let a : j ≡ names m = plain_as j (names m) r.0 (λ e. cc e) (λ p e. cc e) in
          let b : k ≡ closure = plain_as k closure r.1.0 (λ e. cc e) (λ p e. cc e) in
          (ks, ap (λ j. j ∷ k ∷ ks) a ∙ ap (λ k. names m ∷ k ∷ ks) b, r.1.1)

      macro_three : (place : ℕ) (ks ds : List Kind) → AllAs ks ds → Has sh (build_macro at place t ds) →
          Three (build_macro site_open place s ks) (build_macro at place t ds) (build_macro by_marks place u (turns ds))
      macro_three place ks ds r h =
          let d = macro_at ds place h in
          let k = named_as ks d.0 d.1 (subst (AllAs ks) d.2 r) in
          subst (λ ks. Three (build_macro site_open place s ks) (build_macro at place t ds) (build_macro by_marks place u (turns ds))) (sym k.1)
          (subst (λ ds. Three (build_macro site_open place s (names d.0 ∷ closure ∷ k.0)) (build_macro at place t ds)
          (build_macro by_marks place u (turns ds))) (sym d.2)
          (both_three (next site_open (value ∷ k.0) s) (leads place (entry_shape d.0)) (next at (value ∷ d.1) t) (leads place (entry_shape d.0))
          (next by_marks (value ∷ turns d.1) u) (leads place (entry_shape d.0))
          (next_three (value ∷ k.0) (value ∷ d.1) (value ∷ turns d.1) js bs t (value_as, k.2) lower (λ _. refl)) (entry_three place d.0)))

      stay_three : (ks ds : List Kind) → AllAs ks ds → Three (next site_open ks s) (next at ds t) (next by_marks (turns ds) u)
      stay_three ks ds r = next_three ks ds (turns ds) js bs t r lower (λ _. refl)

      there_three : (m : ℕ) (ks ds : List Kind) → AllAs ks ds →
          Three (leads m (with_operands ks s)) (leads m (with_operands ds t)) (leads m (with_operands (turns ds) u))
      there_three m ks ds r = leads_three m ks bs (with_operands ds t) (with_operands (turns ds) u) r lower (λ _. refl)

      jump_if_three : (m : ℕ) → Has sh (flow_of at (i.JumpIfFalse m) t) →
          Three (flow_of site_open (i.JumpIfFalse m) s) (flow_of at (i.JumpIfFalse m) t) (flow_of by_marks (i.JumpIfFalse m) u)
      jump_if_three m h =
          pop_three (λ ks. both (next site_open ks s) (leads m (with_operands ks s))) (λ ks. both (next at ks t) (leads m (with_operands ks t)))
          (λ ks. both (next by_marks ks u) (leads m (with_operands ks u)))
          (λ ks ds r h. both_three (next site_open ks s) (leads m (with_operands ks s)) (next at ds t) (leads m (with_operands ds t))
          (next by_marks (turns ds) u) (leads m (with_operands (turns ds) u)) (stay_three ks ds r) (there_three m ks ds r))
          js t.part.operands ops h

      jump_or_pop_three : (m : ℕ) → Has sh (flow_of at (i.JumpIfFalseOrPop m) t) →
          Three (flow_of site_open (i.JumpIfFalseOrPop m) s) (flow_of at (i.JumpIfFalseOrPop m) t) (flow_of by_marks (i.JumpIfFalseOrPop m) u)
      jump_or_pop_three m h =
          pop_three (λ ks. both (next site_open ks s) (leads m (with_operands (value ∷ ks) s)))
          (λ ks. both (next at ks t) (leads m (with_operands (value ∷ ks) t)))
          (λ ks. both (next by_marks ks u) (leads m (with_operands (value ∷ ks) u)))
          (λ ks ds r h. both_three (next site_open ks s) (leads m (with_operands (value ∷ ks) s)) (next at ds t)
          (leads m (with_operands (value ∷ ds) t)) (next by_marks (turns ds) u) (leads m (with_operands (value ∷ turns ds) u)) (stay_three ks ds r)
          (there_three m (value ∷ ks) (value ∷ ds) (value_as, r)))
          js t.part.operands ops h

      -- ---------------------------------------------------------------- scopes, loops, captures and escapes
      -- with the same operands
      on_three : (t2 : Shape) → t2.part.operands ≡ t.part.operands → t2.below ≡ t.below →
          Three (on site_open (wide js bs t2)) (on at t2) (on by_marks (turn_shape t2))
      on_three t2 e b =
          leads_three (n + 1) js bs t2 (turn_shape t2) (subst (AllAs js) (sym e) ops) (subst (PartsAs bs) (sym b) lower) (λ _. refl)

      frame_three : (fs : List Frame) → Has sh (pop_frame at t fs) →
          Three (pop_frame site_open s fs) (pop_frame at t fs) (pop_frame by_marks u fs)
      frame_three [] h = absurd h
      frame_three (scope ∷ fs) h = on_three (with_frames fs t) refl refl
      frame_three (loop m c e ∷ fs) h = absurd h

      begun_three : (b : Bool) (ks ds : List Kind) → AllAs ks ds →
          Three (on site_open (loop_begun b (with_operands ks s))) (on at (loop_begun b (with_operands ds t)))
          (on by_marks (loop_begun b (with_operands (turns ds) u)))
      begun_three true ks ds r =
          leads_three (n + 1) [] (record t.part { operands = ks } ∷ bs) (loop_begun true (with_operands ds t))
          (loop_begun true (with_operands (turns ds) u)) tt (record { operands = r; is = refl }, lower) (λ _. refl)
      begun_three false ks ds r =
          subst (λ m. Three (on site_open (with_frames (loop m (length t.part.captures) t.part.escapes ∷ t.part.frames) (with_operands ks s)))
          (on at (loop_begun false (with_operands ds t))) (on by_marks (loop_begun false (with_operands (turns ds) u)))) (sym (as_long ks ds r))
          (leads_three (n + 1) ks bs (loop_begun false (with_operands ds t)) (loop_begun false (with_operands (turns ds) u)) r lower
          (λ _. ap (λ m. with_frames (loop m (length t.part.captures) t.part.escapes ∷ t.part.frames) (with_operands (turns ds) u)) (turned_long ds)))

      push_loop_three : (b : Bool) → Has sh (pop t.part.operands (λ ks. on at (loop_begun b (with_operands ks t)))) →
          Three (pop js (λ ks. on site_open (loop_begun b (with_operands ks s))))
          (pop t.part.operands (λ ks. on at (loop_begun b (with_operands ks t))))
          (pop (turns t.part.operands) (λ ks. on by_marks (loop_begun b (with_operands ks u))))
      push_loop_three b h =
          pop_three (λ ks. on site_open (loop_begun b (with_operands ks s))) (λ ks. on at (loop_begun b (with_operands ks t)))
          (λ ks. on by_marks (loop_begun b (with_operands ks u))) (λ ks ds r h. begun_three b ks ds r) js t.part.operands ops h

      in_part_three : (A B C : Flow) (ps qs : List Part) → PartsAs ps qs → Has sh (in_part qs B) → Three A B C →
          Three (in_part ps A) (in_part qs B) (in_part (turn_parts qs) C)
      in_part_three A B C [] [] r h k = absurd h
      in_part_three A B C [] (q ∷ qs) r h k = absurd r
      in_part_three A B C (p ∷ ps) [] r h k = absurd r
      in_part_three A B C (p ∷ ps) (q ∷ qs) r h k = k

      on_loop_three : (A B C : Flow) (fs : List Frame) → Has sh (on_loop fs t.below B) → Three A B C →
          Three (on_loop fs bs A) (on_loop fs t.below B) (on_loop fs (turn_parts t.below) C)
      on_loop_three A B C [] h k = in_part_three A B C bs t.below lower h k
      on_loop_three A B C (scope ∷ fs) h k = absurd h
      on_loop_three A B C (loop m c e ∷ fs) h k = k

      iterate_three : (m : ℕ) → Has sh (flow_of at (i.Iterate m) t) →
          Three (flow_of site_open (i.Iterate m) s) (flow_of at (i.Iterate m) t) (flow_of by_marks (i.Iterate m) u)
      iterate_three m h =
          on_loop_three (both (next site_open (value ∷ js) s) (leads m s)) (both (next at (value ∷ t.part.operands) t) (leads m t))
          (both (next by_marks (value ∷ turns t.part.operands) u) (leads m u)) t.part.frames h
          (both_three (next site_open (value ∷ js) s) (leads m s) (next at (value ∷ t.part.operands) t) (leads m t)
          (next by_marks (value ∷ turns t.part.operands) u) (leads m u) (push_three value tt refl)
          (leads_three m js bs t u ops lower (λ _. refl)))

      did_not_three : Has sh (flow_of at i.PushDidNotIterate t) →
          Three (flow_of site_open i.PushDidNotIterate s) (flow_of at i.PushDidNotIterate t) (flow_of by_marks i.PushDidNotIterate u)
      did_not_three h =
          on_loop_three (next site_open (value ∷ js) s) (next at (value ∷ t.part.operands) t) (next by_marks (value ∷ turns t.part.operands) u)
          t.part.frames h (push_three value tt refl)

      part_left : (p q : Part) (ps qs : List Part) → PartAs p q → PartsAs ps qs →
          Three (on site_open (over_part js p ps)) (on at (over_part t.part.operands q qs))
          (on by_marks (over_part (turns t.part.operands) (turn_part q) (turn_parts qs)))
      part_left p q ps qs r rs =
          subst (λ (x : Part). Three (on site_open (record { part = record x { operands = js ++ p.operands }; below = ps }))
          (on at (over_part t.part.operands q qs)) (on by_marks (over_part (turns t.part.operands) (turn_part q) (turn_parts qs)))) (sym r.is)
          (leads_three (n + 1) (js ++ p.operands) ps (over_part t.part.operands q qs)
          (over_part (turns t.part.operands) (turn_part q) (turn_parts qs)) (over_as js t.part.operands p.operands q.operands ops r.operands) rs
          (λ _. ap (λ ks. record { part = record q { operands = ks }; below = turn_parts qs }) (over_turned t.part.operands q.operands)))

      part_three : (ps qs : List Part) → PartsAs ps qs → Has sh (pop_part at t qs) →
          Three (pop_part site_open s ps) (pop_part at t qs) (pop_part by_marks u (turn_parts qs))
      part_three [] [] r h = absurd h
      part_three [] (q ∷ qs) r h = absurd r
      part_three (p ∷ ps) [] r h = absurd r
      part_three (p ∷ ps) (q ∷ qs) r h =
          chosen (is_empty t.part.captures && nat_eq t.part.escapes 0) (on site_open (over_part js p ps)) refused
          (on at (over_part t.part.operands q qs)) refused (on by_marks (over_part (turns t.part.operands) (turn_part q) (turn_parts qs))) refused h
          (λ _ _. part_left p q ps qs r.0 r.1) (λ _ h. absurd h)

      pop_loop_three : (fs : List Frame) → Has sh (pop_loop at t fs) →
          Three (pop_loop site_open s fs) (pop_loop at t fs) (pop_loop by_marks u fs)
      pop_loop_three [] h = part_three bs t.below lower h
      pop_loop_three (scope ∷ fs) h = absurd h
      pop_loop_three (loop m c e ∷ fs) h =
          chosen (nat_eq (length t.part.captures) c && nat_eq t.part.escapes e) (on site_open (with_frames fs s)) refused
          (on at (with_frames fs t)) refused (on by_marks (with_frames fs u)) refused h (λ _ _. on_three (with_frames fs t) refl refl)
          (λ _ h. absurd h)

      capture_three : (ms : List CaptureMode) → Has sh (end_capture at t ms) →
          Three (end_capture site_open s ms) (end_capture at t ms) (end_capture by_marks u ms)
      capture_three [] h = absurd h
      capture_three (m ∷ ms) h =
          next_three (value ∷ js) (value ∷ t.part.operands) (value ∷ turns t.part.operands) js bs (with_captures ms t) (value_as, ops) lower
          (λ _. refl)

      push_escape_three : Has sh (flow_of at i.PushAutoEscape t) →
          Three (flow_of site_open i.PushAutoEscape s) (flow_of at i.PushAutoEscape t) (flow_of by_marks i.PushAutoEscape u)
      push_escape_three h =
          pop_three (λ ks. next site_open ks (with_escapes (suc t.part.escapes) s)) (λ ks. next at ks (with_escapes (suc t.part.escapes) t))
          (λ ks. next by_marks ks (with_escapes (suc t.part.escapes) u))
          (λ ks ds r h. next_three ks ds (turns ds) js bs (with_escapes (suc t.part.escapes) t) r lower (λ _. refl)) js t.part.operands ops h

      pop_escape_three : (m : ℕ) → Has sh (pop_escape at t m) →
          Three (pop_escape site_open s m) (pop_escape at t m) (pop_escape by_marks u m)
      pop_escape_three zero h = absurd h
      pop_escape_three (suc m) h = on_three (with_escapes m t) refl refl

      -- ---------------------------------------------------------------- ends
      closed_open : is_closed s ≡ is_closed t
      closed_open =
          ap (λ b. is_empty t.part.frames && is_empty t.part.captures && nat_eq t.part.escapes 0 && b) (sym (none_as bs t.below lower))

      both_are : (a b : Bool) → (a && b) ≡ true → (a ≡ true) × (b ≡ true)
      both_are true b e = (refl, e)
      both_are false b e = absurd (cc e)

      return_by : (b : Bool) → (is_closed t && are returned t.part.operands) ≡ b → Has sh (choose b (λ _. ends) (λ _. refused)) →
          Three (choose (is_closed s && true) (λ _. ends) (λ _. refused)) (choose b (λ _. ends) (λ _. refused))
          (choose (is_closed u && are returned (turns t.part.operands)) (λ _. ends) (λ _. refused))
      return_by false e h = absurd h
      return_by true e h =
          let z = both_are (is_closed t) (are returned t.part.operands) e in
          let a : is_closed s ≡ true = closed_open ∙ z.0 in
          let b : is_closed u ≡ true = closed_turned t ∙ z.0 in
          let c : are returned (turns t.part.operands) ≡ true = are_turned returned t.part.operands ∙ z.1 in
          rw (a, b, c) (refl, refl)

      return_three : Has sh (flow_of at i.Return t) →
          Three (flow_of site_open i.Return s) (flow_of at i.Return t) (flow_of by_marks i.Return u)
      return_three h = return_by (is_closed t && are returned t.part.operands) refl h

      -- ---------------------------------------------------------------- the table
      -- Where no value lies under a value that a row swaps.
      pub flow_three : (x : Instruction) → slice_get code n ≡ Some x →
          (x ≡ i.Swap → (d : Kind) (more : List Kind) → in_row at ≡ true → t.part.operands ≡ d ∷ value ∷ more → ⊥) →
          shape_at sh n ≡ Some t → Has sh (flow_of at x t) → Three (flow_of site_open x s) (flow_of at x t) (flow_of by_marks x u)
      flow_three (i.LoadConst v) at_it never there h = load_three (place_inside code n (i.LoadConst v) at_it) there v h
      flow_three (i.BuildList c) at_it never there h = replaces_counted_three c h
      flow_three (i.UnpackLists c) at_it never there h = unpack_three c h
      flow_three i.Add at_it never there h = add_three js t.part.operands ops h
      flow_three i.Swap at_it never there h = swap_three js t.part.operands ops (never refl) h
      flow_three (i.Jump m) at_it never there h = leads_three m js bs t u ops lower (λ _. refl)
      flow_three (i.JumpIfFalse m) at_it never there h = jump_if_three m h
      flow_three (i.JumpIfFalseOrPop m) at_it never there h = jump_or_pop_three m h
      flow_three (i.JumpIfTrueOrPop m) at_it never there h = jump_or_pop_three m h
      flow_three (i.CallFunction x c) at_it never there h = replaces_counted_three c h
      flow_three (i.CallMethod x c) at_it never there h = replaces_counted_three c h
      flow_three (i.CallObject c) at_it never there h = replaces_counted_three c h
      flow_three (i.ApplyFilter x c cache) at_it never there h = replaces_counted_three c h
      flow_three (i.PerformTest x c cache) at_it never there h = replaces_counted_three c h
      flow_three i.GetClosure at_it never there h = closure_three h
      flow_three (i.BuildMacro x place caller) at_it never there h = macro_three place js t.part.operands ops h
      flow_three i.Return at_it never there h = return_three h
      flow_three i.PushWith at_it never there h = on_three (with_frames (scope ∷ t.part.frames) t) refl refl
      flow_three i.PopFrame at_it never there h = frame_three t.part.frames h
      flow_three (i.PushLoop flags) at_it never there h = push_loop_three flags.recursive h
      flow_three (i.Iterate m) at_it never there h = iterate_three m h
      flow_three i.PushDidNotIterate at_it never there h = did_not_three h
      flow_three i.PopLoopFrame at_it never there h = pop_loop_three t.part.frames h
      flow_three (i.BeginCapture mode) at_it never there h = on_three (with_captures (mode ∷ t.part.captures) t) refl refl
      flow_three i.EndCapture at_it never there h = capture_three t.part.captures h
      flow_three i.PushAutoEscape at_it never there h = push_escape_three h
      flow_three i.PopAutoEscape at_it never there h = pop_escape_three t.part.escapes h
      flow_three (i.BuildTuple c) at_it never there h = replaces_three c 1 h
      flow_three (i.BuildMap c) at_it never there h = replaces_three (c + c) 1 h
      flow_three (i.BuildKwargs c) at_it never there h = replaces_three (c + c) 1 h
      flow_three (i.MergeKwargs c) at_it never there h = replaces_three c 1 h
      flow_three (i.UnpackList c) at_it never there h = replaces_three 1 c h
      flow_three x at_it never there h = replaces_three (taken_by x) (left_by x) h
