-- What a step leaves where it is looked for as what each 0 is taken.
use Rattle.std.proofs.Common.{◌≡◌, ℕ, zero, suc, ◌+◌, ◌≤◌, List, [], ◌∷◌, length, Option, Some, None, Bool, true, false}
use Rattle.std.proofs.Common.{replicate, refl, sym, ap, ◌∙◌, subst, arith}
use Rattle.std.specs.Prelude.{option_and_then, slice_get, slice_set}
use Rattle.tm_trees.specs.Instructions.{Instruction}
use Rattle.tm_shapes.specs.Accepts.{Asked, Seeds, all_seeds, ask_openly, groups_in, no_groups, no_shapes, noted, site_of}
use Rattle.tm_shapes.specs.Cells.{Grown}
use Rattle.tm_shapes.specs.Flows.{Flow, refused, ends, leads, both, takes, flow_of}
use Rattle.tm_shapes.specs.Marks.{with_mark}
use Rattle.tm_shapes.specs.Search.{Seen, note_by, glance_by, wander}
use Rattle.tm_shapes.specs.Searched.{AllShown, IsSeen, glance_of, note_of, trace_of, unshaped}
use Rattle.tm_shapes.specs.Shapes.{Shape, itself, shape_at}
use Rattle.tm_shapes.specs.Shown.{Shows}
use Rattle.tm_shapes.specs.Told.{Tells, TellsBy, TellsWay}
use Rattle.tm_shapes.specs.declared.cells.Cell.{Cell}
use Rattle.tm_shapes.specs.declared.flow.Flow.{Flow as Made}
use Rattle.tm_shapes.specs.declared.flow.Way.{Way}
use Rattle.tm_shapes.specs.declared.search.Seen.{Seen as Seeing}
use Rattle.tm_shapes.specs.declared.shape.Shape.{Shape as Stacked}
use Rattle.tm_shapes.proofs.Searching.{AtShown, all_grown, all_unmet, none_shown, open_at, put_open, put_shown, shown_at, shown_unmet, unmet}

abbrev pub left : Seen → ℕ
left f = unmet f.shapes + length f.work

abbrev pub left_in : Seeing → ℕ
left_in f = unmet f.shapes.items + length f.work

pub left_shown : (made : Seeing) (f : Seen) → IsSeen made f → left_in made ≡ left f
left_shown made f h =
    let a : unmet made.shapes.items ≡ unmet f.shapes = shown_unmet made.cells made.shapes.items f.shapes h.shapes in
    let b : length made.work ≡ length f.work = ap length h.work in
    omega (arith, a, b)

-- what is the same in memory is the same
pub seen_as : (made new : Seeing) (f : Seen) → new.cells ≡ made.cells → new.shapes.items ≡ made.shapes.items → new.work ≡ made.work →
    new.groups.items ≡ made.groups.items → IsSeen made f → IsSeen new f
seen_as made new f cells shapes work groups h = record {
  shapes = subst (λ cells. AllShown cells new.shapes.items f.shapes) (sym cells)
      (subst (λ ms. AllShown made.cells ms f.shapes) (sym shapes) h.shapes);
  work = work ∙ h.work;
  groups = groups ∙ h.groups;
}

pub seen_grown : (made new : Seeing) (f : Seen) → new.shapes.items ≡ made.shapes.items → new.work ≡ made.work →
    new.groups.items ≡ made.groups.items → Grown made.cells new.cells → IsSeen made f → IsSeen new f
seen_grown made new f shapes work groups grown h = record {
  shapes = subst (λ ms. AllShown new.cells ms f.shapes) (sym shapes) (all_grown made.cells new.cells grown made.shapes.items f.shapes h.shapes);
  work = work ∙ h.work;
  groups = groups ∙ h.groups;
}

pub seen_taken : (made new : Seeing) (f : Seen) (o : Option ℕ) → new.cells ≡ made.cells → new.shapes.items ≡ made.shapes.items →
    new.work ≡ made.work → new.groups.items ≡ with_mark o made.groups.items → IsSeen made f →
    IsSeen new (record f { groups = with_mark o f.groups })
seen_taken made new f o cells shapes work groups h = record {
  shapes = subst (λ cells. AllShown cells new.shapes.items f.shapes) (sym cells)
      (subst (λ ms. AllShown made.cells ms f.shapes) (sym shapes) h.shapes);
  work = work ∙ h.work;
  groups = groups ∙ ap (with_mark o) h.groups;
}

module _ (a : Asked) (code : List Instruction) where
  abbrev pub note_of_by : Option (Option Shape) → ℕ → Shape → Seen → Seen
  note_of_by o n s f = note_by code (site_of a code) o n s f

  abbrev pub glance_of_by : Option Instruction → ℕ → Option Shape → Seen → Seen
  glance_of_by i n o f = glance_by code (site_of a code) i n o f

  -- ---------------------------------------------------------------- noting
  past_by : (cells : List Cell) (n : ℕ) (s : Shape) (f : Seen) (o : Option (Option Shape)) → AtShown cells None o → note_of_by o n s f ≡ f
  past_by cells n s f None h = refl
  past_by cells n s f (Some p) h = absurd h

  known_by : (cells : List Cell) (n : ℕ) (s : Shape) (f : Seen) (m : Stacked) (o : Option (Option Shape)) → AtShown cells (Some (Some m)) o →
      note_of_by o n s f ≡ f
  known_by cells n s f m None h = absurd h
  known_by cells n s f m (Some None) h = absurd h
  known_by cells n s f m (Some (Some t)) h = refl

  pub note_past : (made new : Seeing) (f : Seen) (n : ℕ) (s : Shape) → IsSeen made f → slice_get made.shapes.items n ≡ None →
      new.cells ≡ made.cells → new.shapes.items ≡ made.shapes.items → new.work ≡ made.work → new.groups.items ≡ made.groups.items →
      IsSeen new (note_of a code n s f)
  note_past made new f n s h e cells shapes work groups =
      let same = past_by made.cells n s f (slice_get f.shapes n)
      (subst (λ o. AtShown made.cells o (slice_get f.shapes n)) e (shown_at made.cells made.shapes.items f.shapes n h.shapes)) in
      subst (IsSeen new) (sym same) (seen_as made new f cells shapes work groups h)

  pub note_known : (made new : Seeing) (f : Seen) (n : ℕ) (s : Shape) (m : Stacked) → IsSeen made f →
      slice_get made.shapes.items n ≡ Some (Some m) →
      new.cells ≡ made.cells → new.shapes.items ≡ made.shapes.items → new.work ≡ made.work → new.groups.items ≡ made.groups.items →
      IsSeen new (note_of a code n s f)
  note_known made new f n s m h e cells shapes work groups =
      let same = known_by made.cells n s f m (slice_get f.shapes n)
      (subst (λ o. AtShown made.cells o (slice_get f.shapes n)) e (shown_at made.cells made.shapes.items f.shapes n h.shapes)) in
      subst (IsSeen new) (sym same) (seen_as made new f cells shapes work groups h)

  pub note_first : (made new : Seeing) (f : Seen) (n : ℕ) (s : Shape) (m : Stacked) → IsSeen made f →
      slice_get made.shapes.items n ≡ Some None → Shows made.cells m s → new.cells ≡ made.cells →
      new.shapes.items ≡ slice_set made.shapes.items n (Some m) → new.work ≡ n ∷ made.work → new.groups.items ≡ made.groups.items →
      IsSeen new (note_of a code n s f)
  note_first made new f n s m h e x same put work groups =
      let now : IsSeen new (record f { shapes = slice_set f.shapes n (Some s); work = n ∷ f.work }) = record {
        shapes = subst (λ cells. AllShown cells new.shapes.items (slice_set f.shapes n (Some s))) (sym same)
            (subst (λ ms. AllShown made.cells ms (slice_set f.shapes n (Some s))) (sym put)
            (put_shown made.cells made.shapes.items f.shapes n m s h.shapes x));
        work = work ∙ ap (λ w. n ∷ w) h.work;
        groups = groups ∙ h.groups;
      } in
      subst (IsSeen new) (sym (ap (λ o. note_of_by o n s f) (open_at a code made.cells made.shapes.items f.shapes n h.shapes e))) now

  -- ---------------------------------------------------------------- tracing
  abbrev pub Taking : List Cell → ℕ → Option ℕ → Way → Flow → Type 0
  Taking cells n o way x =
      (y : Flow) × TellsWay cells n way y × ((f : Seen) → trace_of a code x f ≡ trace_of a code y (record f { groups = with_mark o f.groups }))

  taking_by : (cells : List Cell) (n : ℕ) (o : Option ℕ) (way : Way) (x : Flow) → TellsBy cells n o way x → Taking cells n o way x
  taking_by cells n None way x h = (x, h, λ f. refl)
  taking_by cells n (Some p) way x (y, is, h) = (y, h, λ f. ap (λ x. trace_of a code x f) is)

  pub taking : (cells : List Cell) (n : ℕ) (made : Made) (x : Flow) → Tells cells n made x → Taking cells n made.taken made.way x
  taking cells n made x h = taking_by cells n made.taken made.way x h

  -- ---------------------------------------------------------------- how much is left
  note_left_by : (n : ℕ) (s : Shape) (f : Seen) (o : Option (Option Shape)) → slice_get f.shapes n ≡ o → left (note_of_by o n s f) ≡ left f
  note_left_by n s f None at = refl
  note_left_by n s f (Some None) at = omega (arith, put_open f.shapes n s at)
  note_left_by n s f (Some (Some t)) at = refl

  pub note_left : (n : ℕ) (s : Shape) (f : Seen) → left (note_of a code n s f) ≡ left f
  note_left n s f = note_left_by n s f (slice_get f.shapes n) refl

  trace_left : (x : Flow) (f : Seen) → left (trace_of a code x f) ≡ left f
  trace_left refused f = refl
  trace_left ends f = refl
  trace_left (leads n s) f = note_left n s f
  trace_left (both x y) f = trace_left y (trace_of a code x f) ∙ trace_left x f
  trace_left (takes p x) f = trace_left x (record f { groups = slice_set f.groups p true })

  glance_left_by : (i : Option Instruction) (n : ℕ) (o : Option Shape) (f : Seen) → left (glance_of_by i n o f) ≡ left f
  glance_left_by None n None f = refl
  glance_left_by None n (Some s) f = refl
  glance_left_by (Some x) n None f = refl
  glance_left_by (Some x) n (Some s) f = trace_left (flow_of (site_of a code n) x s) f

  pub glance_left : (n : ℕ) (f : Seen) → left (glance_of a code n f) ≡ left f
  glance_left n f = glance_left_by (slice_get code n) n (shape_at f.shapes n) f

  -- ---------------------------------------------------------------- glancing
  no_shape_by : (i : Option Instruction) (n : ℕ) (f : Seen) → glance_of_by i n None f ≡ f
  no_shape_by None n f = refl
  no_shape_by (Some x) n f = refl

  unshaped_by : (cells : List Cell) (i : Option Instruction) (n : ℕ) (f : Seen) (o : Option (Option Stacked)) → option_and_then itself o ≡ None →
      (p : Option (Option Shape)) → AtShown cells o p → glance_of_by i n (option_and_then itself p) f ≡ f
  unshaped_by cells i n f o e None h = no_shape_by i n f
  unshaped_by cells i n f o e (Some None) h = no_shape_by i n f
  unshaped_by cells i n f None e (Some (Some t)) h = absurd h
  unshaped_by cells i n f (Some None) e (Some (Some t)) h = absurd h
  unshaped_by cells i n f (Some (Some m)) e (Some (Some t)) h = absurd (cc e)

  pub glance_unshaped : (made : Seeing) (f : Seen) (n : ℕ) → IsSeen made f → option_and_then itself (slice_get made.shapes.items n) ≡ None →
      glance_of a code n f ≡ f
  glance_unshaped made f n h e =
      unshaped_by made.cells (slice_get code n) n f (slice_get made.shapes.items n) e (slice_get f.shapes n)
      (shown_at made.cells made.shapes.items f.shapes n h.shapes)

  past_end_by : (n : ℕ) (o : Option Shape) (f : Seen) → glance_of_by None n o f ≡ f
  past_end_by n None f = refl
  past_end_by n (Some s) f = refl

  pub glance_past : (n : ℕ) (f : Seen) → slice_get code n ≡ None → glance_of a code n f ≡ f
  glance_past n f e = ap (λ i. glance_of_by i n (shape_at f.shapes n) f) e ∙ past_end_by n (shape_at f.shapes n) f

  pub glance_on : (n : ℕ) (f : Seen) (x : Instruction) (s : Shape) → slice_get code n ≡ Some x → shape_at f.shapes n ≡ Some s →
      glance_of a code n f ≡ trace_of a code (flow_of (site_of a code n) x s) f
  glance_on n f x s i o = ap (λ i. glance_of_by i n (shape_at f.shapes n) f) i ∙ ap (λ o. glance_of_by (Some x) n o f) o

-- ---------------------------------------------------------------- the loops
abbrev pub nothing_seen : List Instruction → Seen
nothing_seen code = record { shapes = no_shapes code; work = []; groups = no_groups code }

-- What the seeds so far have left: the others go on from there.
abbrev pub Begins : List Instruction → Seeds → Seeds → Seeing → Type 0
Begins code all rest made =
    (f : Seen) × IsSeen made f × (noted code all (nothing_seen code) ≡ noted code rest f) × (left f ≡ length (no_shapes code))

-- what is found from so many places
abbrev pub groups_from : List Instruction → Seeds → List Bool
groups_from code all =
    let f = noted code all (nothing_seen code) in (wander code (site_of ask_openly code) (length (no_shapes code)) f.work f).groups

-- As much as is left can be done.
abbrev pub Goes : List Instruction → Seeds → Seeing → Type 0
Goes code all made =
    (f : Seen) × (k : ℕ) × IsSeen made f × (left f ≤ k)
    × (groups_from code all ≡ (wander code (site_of ask_openly code) k f.work f).groups)

pub no_groups_are : {A : Type 0} → (xs : List A) → replicate (length xs) false ≡ no_groups xs
no_groups_are [] = refl
no_groups_are (x ∷ xs) = ap (λ bs. false ∷ bs) (no_groups_are xs)

pub begins : (code : List Instruction) (all : Seeds) (made : Seeing) → made.shapes.items ≡ unshaped code → made.work ≡ [] →
    made.groups.items ≡ no_groups code → Begins code all all made
begins code all made shapes work groups = (
  nothing_seen code,
  record {
    shapes = subst (λ ms. AllShown made.cells ms (no_shapes code)) (sym shapes) (none_shown made.cells code);
    work = work;
    groups = groups;
  },
  refl,
  omega (arith, all_unmet code),
)

pub begins_on : (code : List Instruction) (all rest more : Seeds) (e : ℕ × Shape) (made new : Seeing) → rest ≡ e ∷ more →
    (b : Begins code all rest made) → IsSeen new (note_of ask_openly code e.0 e.1 b.0) → Begins code all more new
begins_on code all rest more e made new is (f, shown, same, much) now = (
  note_of ask_openly code e.0 e.1 f,
  now,
  same ∙ ap (λ es. noted code es f) is,
  note_left ask_openly code e.0 e.1 f ∙ much,
)

pub goes : (code : List Instruction) (all rest : Seeds) (made : Seeing) → rest ≡ [] → Begins code all rest made → Goes code all made
goes code all rest made is (f, shown, same, much) = (
  f,
  length (no_shapes code),
  shown,
  omega (arith, much),
  ap (λ (f : Seen). (wander code (site_of ask_openly code) (length (no_shapes code)) f.work f).groups) (same ∙ ap (λ es. noted code es f) is),
)

-- a place is taken from the work
pub taken_off : (made new : Seeing) (f : Seen) (n : ℕ) (work : List ℕ) → IsSeen made f → new.cells ≡ made.cells →
    new.shapes.items ≡ made.shapes.items → new.work ≡ work → new.groups.items ≡ made.groups.items → IsSeen new (record f { work = work })
taken_off made new f n work h cells shapes now groups = record {
  shapes = subst (λ cells. AllShown cells new.shapes.items f.shapes) (sym cells)
      (subst (λ ms. AllShown made.cells ms f.shapes) (sym shapes) h.shapes);
  work = now;
  groups = groups ∙ h.groups;
}

abbrev GoesFrom : List Instruction → Seeds → Seen → Type 0
GoesFrom code all g = (k : ℕ) × (left g ≤ k) × (groups_from code all ≡ (wander code (site_of ask_openly code) k g.work g).groups)

step_by : (code : List Instruction) (all : Seeds) (n : ℕ) (work : List ℕ) (f : Seen) (k : ℕ) → suc (unmet f.shapes + length work) ≤ k →
    groups_from code all ≡ (wander code (site_of ask_openly code) k (n ∷ work) f).groups →
    GoesFrom code all (glance_of ask_openly code n (record f { work = work }))
step_by code all n work f zero enough is = absurd (omega (arith, enough))
step_by code all n work f (suc k) enough is = (k, omega (arith, enough, glance_left ask_openly code n (record f { work = work })), is)

pub goes_on : (code : List Instruction) (all : Seeds) (made new : Seeing) (n : ℕ) (work : List ℕ) → made.work ≡ n ∷ work →
    (b : Goes code all made) → IsSeen new (glance_of ask_openly code n (record b.0 { work = work })) → Goes code all new
goes_on code all made new n work is (f, k, shown, enough, same) now =
    let works : f.work ≡ n ∷ work = sym shown.work ∙ is in
    let much : length f.work ≡ suc (length work) = ap length works in
    let more = step_by code all n work f k (omega (arith, much, enough))
    (same ∙ ap (λ w. (wander code (site_of ask_openly code) k w f).groups) works) in
    (glance_of ask_openly code n (record f { work = work }), more.0, now, more.1, more.2)

-- a step leaves less to do
pub goes_less : (code : List Instruction) (all : Seeds) (made new : Seeing) (n : ℕ) (work : List ℕ) → made.work ≡ n ∷ work →
    (b : Goes code all made) → IsSeen new (glance_of ask_openly code n (record b.0 { work = work })) → suc (left_in new) ≤ left_in made
goes_less code all made new n work is (f, k, shown, enough, same) now =
    let works : f.work ≡ n ∷ work = sym shown.work ∙ is in
    let less : left (glance_of ask_openly code n (record f { work = work })) ≡ unmet f.shapes + length work =
    glance_left ask_openly code n (record f { work = work }) in
    let much : length f.work ≡ suc (length work) = ap length works in
    omega (arith, less, much, left_shown made f shown, left_shown new (glance_of ask_openly code n (record f { work = work })) now)

pub goes_home : (code : List Instruction) (all : Seeds) (made : Seeing) → made.work ≡ [] → Goes code all made → all ≡ all_seeds code →
    made.groups.items ≡ groups_in code
goes_home code all made is (f, k, shown, enough, same) seeds =
    shown.groups ∙ sym (same ∙ ap (λ w. (wander code (site_of ask_openly code) k w f).groups) (sym shown.work ∙ is))
    ∙ ap (groups_from code) seeds
