-- What a step of a search in memory leaves.
use Rattle.std.proofs.Common.{◌≡◌, ℕ, zero, suc, ◌+◌, ◌<◌, ◌≤◌, List, [], ◌∷◌, length, drop, Option, Some, None, Bool, true, false}
use Rattle.std.proofs.Common.{refl, sym, ap, ◌∙◌, subst, arith}
use Rattle.std.proofs.Common.{◌-◌, drop-cons, get_or, IfErr, OnOk, take, length-drop, Bor, Result, Ok, Err, IsErrAnd, option_copied}
use Rattle.std.proofs.lemmas.Option.{slice_get_past}
use Rattle.std.specs.Slice.{IsItemAt}
use Rattle.std.specs.Prelude.{slice_get, slice_set, option_and_then, nat_eq, ◌&&◌, is_some}
use Rattle.tm_trees.specs.Instructions.{Instruction}
use Rattle.tm_shapes.specs.Accepts.{Asked, Seeds, begun, ends_with, found, no_shapes, same_shape, site_of}
use Rattle.tm_shapes.specs.Cells.{Grown}
use Rattle.tm_shapes.specs.Flows.{Flow, refused, ends, leads, both, takes, flow_of}
use Rattle.tm_shapes.specs.Search.{Found, met, reach_by, look_by, search}
use Rattle.tm_shapes.specs.Searched.{AllShown, Comes, IsAsked, IsFound, follow_of, look_of, reach_of, reading_of, seeds_of, unshaped}
use Rattle.tm_shapes.specs.Shapes.{Shape, Shapes, entry_shape, itself, shape_at}
use Rattle.tm_shapes.specs.Shown.{Shows}
use Rattle.tm_shapes.specs.Told.{Tells, TellsBy, TellsWay}
use Rattle.tm_shapes.specs.declared.cells.Cell.{Cell}
use Rattle.tm_shapes.specs.declared.flow.Flow.{Flow as Made}
use Rattle.tm_shapes.specs.declared.flow.Way.{Way}
use Rattle.tm_shapes.specs.declared.flow.Way.TheVariants as ways
use Rattle.tm_shapes.specs.declared.refusal.Refusal.{Refusal}
use Rattle.tm_shapes.specs.declared.refusal.Refusal.TheVariants as refusals
use Rattle.tm_shapes.specs.declared.search.Asked.{Asked as Question}
use Rattle.tm_shapes.specs.declared.search.Found.{Found as Finding}
use Rattle.tm_shapes.specs.declared.search.Seed.{Seed}
use Rattle.tm_shapes.specs.declared.shape.Shape.{Shape as Stacked}
use Rattle.tm_shapes.proofs.Levels.{shows-grown}
use Rattle.tm_shapes.proofs.Rests.{item_at}

-- ---------------------------------------------------------------- shapes by their stacks
abbrev pub OneShown : List Cell → Option Stacked → Option Shape → Type 0
OneShown cells None None = Unit {0}
OneShown cells (Some m) (Some s) = Shows cells m s
OneShown cells o p = ⊥

abbrev pub AtShown : List Cell → Option (Option Stacked) → Option (Option Shape) → Type 0
AtShown cells None None = Unit {0}
AtShown cells (Some o) (Some p) = OneShown cells o p
AtShown cells o p = ⊥

abbrev first_and_rest : (cells : List Cell) (o : Option Stacked) (p : Option Shape) (ms : List (Option Stacked)) (sh : Shapes) →
    AllShown cells (o ∷ ms) (p ∷ sh) → OneShown cells o p × AllShown cells ms sh
first_and_rest cells None None ms sh h = (tt, h)
first_and_rest cells (Some m) (Some s) ms sh h = h
first_and_rest cells None (Some s) ms sh h = absurd h
first_and_rest cells (Some m) None ms sh h = absurd h

both_shown : (cells : List Cell) (o : Option Stacked) (p : Option Shape) (ms : List (Option Stacked)) (sh : Shapes) →
    OneShown cells o p → AllShown cells ms sh → AllShown cells (o ∷ ms) (p ∷ sh)
both_shown cells None None ms sh x h = h
both_shown cells (Some m) (Some s) ms sh x h = (x, h)
both_shown cells None (Some s) ms sh x h = absurd x
both_shown cells (Some m) None ms sh x h = absurd x

pub shown_at : (cells : List Cell) (ms : List (Option Stacked)) (sh : Shapes) (n : ℕ) → AllShown cells ms sh →
    AtShown cells (slice_get ms n) (slice_get sh n)
shown_at cells [] [] n h = tt
shown_at cells [] (p ∷ sh) n h = absurd h
shown_at cells (o ∷ ms) [] n h = absurd h
shown_at cells (o ∷ ms) (p ∷ sh) zero h = (first_and_rest cells o p ms sh h).0
shown_at cells (o ∷ ms) (p ∷ sh) (suc n) h = shown_at cells ms sh n (first_and_rest cells o p ms sh h).1

pub put_shown : (cells : List Cell) (ms : List (Option Stacked)) (sh : Shapes) (n : ℕ) (m : Stacked) (s : Shape) → AllShown cells ms sh →
    Shows cells m s → AllShown cells (slice_set ms n (Some m)) (slice_set sh n (Some s))
put_shown cells [] [] n m s h x = tt
put_shown cells [] (p ∷ sh) n m s h x = absurd h
put_shown cells (o ∷ ms) [] n m s h x = absurd h
put_shown cells (o ∷ ms) (p ∷ sh) zero m s h x = (x, (first_and_rest cells o p ms sh h).1)
put_shown cells (o ∷ ms) (p ∷ sh) (suc n) m s h x =
    let both = first_and_rest cells o p ms sh h in
    both_shown cells o p (slice_set ms n (Some m)) (slice_set sh n (Some s)) both.0 (put_shown cells ms sh n m s both.1 x)

one_grown : (old new : List Cell) → Grown old new → (o : Option Stacked) (p : Option Shape) → OneShown old o p → OneShown new o p
one_grown old new g None None h = h
one_grown old new g (Some m) (Some s) h = shows-grown old new g m s h
one_grown old new g None (Some s) h = absurd h
one_grown old new g (Some m) None h = absurd h

pub all_grown : (old new : List Cell) → Grown old new → (ms : List (Option Stacked)) (sh : Shapes) → AllShown old ms sh → AllShown new ms sh
all_grown old new g [] [] h = tt
all_grown old new g [] (p ∷ sh) h = absurd h
all_grown old new g (o ∷ ms) [] h = absurd h
all_grown old new g (o ∷ ms) (p ∷ sh) h =
    let both = first_and_rest old o p ms sh h in
    both_shown new o p ms sh (one_grown old new g o p both.0) (all_grown old new g ms sh both.1)

pub none_shown : {A : Type 0} → (cells : List Cell) (xs : List A) → AllShown cells (unshaped xs) (no_shapes xs)
none_shown cells [] = tt
none_shown cells (x ∷ xs) = none_shown cells xs

-- ---------------------------------------------------------------- no shapes
abbrev pub nones : {A : Type 0} → List A → List (Option Stacked)
nones [] = []
nones (x ∷ xs) = None ∷ nones xs

pub unshaped_is : {A : Type 0} → (xs : List A) → unshaped xs ≡ None ∷ nones xs
unshaped_is [] = refl
unshaped_is (x ∷ xs) = ap (λ os. None ∷ os) (unshaped_is xs)

pub nones_on : {A : Type 0} → (n : ℕ) (xs : List A) → n < length xs → nones (drop n xs) ≡ None ∷ nones (drop (n + 1) xs)
nones_on n [] h = absurd (omega (arith, h))
nones_on zero (x ∷ xs) h = refl
nones_on (suc n) (x ∷ xs) h =
    let same : suc (n + 1) ≡ suc n + 1 = omega arith in
    subst (λ k. nones (drop (suc n) (x ∷ xs)) ≡ None ∷ nones (drop k (x ∷ xs))) same (nones_on n xs (omega (arith, h)))

-- ---------------------------------------------------------------- how much is left
-- how many places have no shape
abbrev pub unmet : {A : Type 0} → List (Option A) → ℕ
unmet [] = 0
unmet (None ∷ os) = suc (unmet os)
unmet (Some x ∷ os) = unmet os

pub put_open : {A : Type 0} → (os : List (Option A)) (n : ℕ) (x : A) → slice_get os n ≡ Some None →
    suc (unmet (slice_set os n (Some x))) ≡ unmet os
put_open [] n x e = absurd (cc e)
put_open (None ∷ os) zero x e = refl
put_open (Some t ∷ os) zero x e = absurd (cc e)
put_open (None ∷ os) (suc n) x e = ap suc (put_open os n x e)
put_open (Some t ∷ os) (suc n) x e = put_open os n x e

pub shown_unmet : (cells : List Cell) (ms : List (Option Stacked)) (sh : Shapes) → AllShown cells ms sh → unmet ms ≡ unmet sh
shown_unmet cells [] [] h = refl
shown_unmet cells [] (p ∷ sh) h = absurd h
shown_unmet cells (o ∷ ms) [] h = absurd h
shown_unmet cells (None ∷ ms) (None ∷ sh) h = ap suc (shown_unmet cells ms sh h)
shown_unmet cells (None ∷ ms) (Some s ∷ sh) h = absurd h
shown_unmet cells (Some m ∷ ms) (None ∷ sh) h = absurd h
shown_unmet cells (Some m ∷ ms) (Some s ∷ sh) h = shown_unmet cells ms sh h.1

pub all_unmet : {A : Type 0} → (xs : List A) → unmet (no_shapes xs) ≡ length (no_shapes xs)
all_unmet [] = refl
all_unmet (x ∷ xs) = ap suc (all_unmet xs)

abbrev pub left : Found → ℕ
left f = unmet f.shapes + length f.work

abbrev pub left_in : Finding → ℕ
left_in f = unmet f.shapes.items + length f.work

pub left_shown : (made : Finding) (f : Found) → IsFound made f → left_in made ≡ left f
left_shown made f h =
    let a : unmet made.shapes.items ≡ unmet f.shapes = shown_unmet made.cells made.shapes.items f.shapes h.shapes in
    let b : length made.work ≡ length f.work = ap length h.work in
    omega (arith, a, b)

-- ---------------------------------------------------------------- what is asked
abbrev pub asked_of : Question → Asked
asked_of q = record { read = reading_of q.read; returned = q.returned; left = q.left; enters = q.enters }

pub asked_is : (q : Question) → IsAsked q (asked_of q)
asked_is q = record { read = λ n. refl; returned = refl; left = refl; enters = refl }

-- ---------------------------------------------------------------- the search, step by step
module _ (a : Asked) (code : List Instruction) where
  abbrev pub met_of : Bool → Found → Option Found
  met_of b f = met same_shape code (site_of a code) (ends_with a.left) b f

  abbrev pub reach_of_by : Option (Option Shape) → ℕ → Shape → Found → Option Found
  reach_of_by o n s f = reach_by same_shape code (site_of a code) (ends_with a.left) o n s f

  abbrev pub look_of_by : Option Instruction → ℕ → Option Shape → Found → Option Found
  look_of_by i n o f = look_by same_shape code (site_of a code) (ends_with a.left) i n o f

  abbrev pub search_of : ℕ → List ℕ → Shapes → Option Shapes
  search_of k work sh = search same_shape code (site_of a code) (ends_with a.left) k work sh

  -- ---------------------------------------------------------------- reaching
  past_by : (cells : List Cell) (n : ℕ) (s : Shape) (f : Found) (o : Option (Option Shape)) → AtShown cells None o → reach_of_by o n s f ≡ None
  past_by cells n s f None h = refl
  past_by cells n s f (Some p) h = absurd h

  known_by : (cells : List Cell) (n : ℕ) (s : Shape) (f : Found) (m : Stacked) (b : Bool) → ((t : Shape) → Shows cells m t → b ≡ same_shape s t) →
      (o : Option (Option Shape)) → AtShown cells (Some (Some m)) o → reach_of_by o n s f ≡ met_of b f
  known_by cells n s f m b k None h = absurd h
  known_by cells n s f m b k (Some None) h = absurd h
  known_by cells n s f m b k (Some (Some t)) h = ap (λ b. met_of b f) (sym (k t h))

  pub is_open : (cells : List Cell) (o : Option (Option Shape)) → AtShown cells (Some None) o → o ≡ Some None
  is_open cells None h = absurd h
  is_open cells (Some None) h = refl
  is_open cells (Some (Some t)) h = absurd h

  pub reach_past : (made : Finding) (f : Found) (n : ℕ) (s : Shape) → IsFound made f → slice_get made.shapes.items n ≡ None →
      reach_of a code n s f ≡ None
  reach_past made f n s h e =
      past_by made.cells n s f (slice_get f.shapes n)
      (subst (λ o. AtShown made.cells o (slice_get f.shapes n)) e (shown_at made.cells made.shapes.items f.shapes n h.shapes))

  pub reach_known : (made : Finding) (f : Found) (n : ℕ) (s : Shape) (m : Stacked) (b : Bool) → IsFound made f →
      slice_get made.shapes.items n ≡ Some (Some m) → ((t : Shape) → Shows made.cells m t → b ≡ same_shape s t) → reach_of a code n s f ≡ met_of b f
  reach_known made f n s m b h e k =
      known_by made.cells n s f m b k (slice_get f.shapes n)
      (subst (λ o. AtShown made.cells o (slice_get f.shapes n)) e (shown_at made.cells made.shapes.items f.shapes n h.shapes))

  pub open_at : (cells : List Cell) (ms : List (Option Stacked)) (sh : Shapes) (n : ℕ) → AllShown cells ms sh → slice_get ms n ≡ Some None →
      slice_get sh n ≡ Some None
  open_at cells ms sh n h e = is_open cells (slice_get sh n) (subst (λ o. AtShown cells o (slice_get sh n)) e (shown_at cells ms sh n h))

  -- a place gets its shape
  pub reach_first : (made new : Finding) (f : Found) (n : ℕ) (s : Shape) (m : Stacked) → IsFound made f →
      slice_get made.shapes.items n ≡ Some None → Shows made.cells m s → new.cells ≡ made.cells →
      new.shapes.items ≡ slice_set made.shapes.items n (Some m) → new.work ≡ n ∷ made.work →
      (g : Found) × (reach_of a code n s f ≡ Some g) × IsFound new g
  reach_first made new f n s m h e x same put work = (
    record { shapes = slice_set f.shapes n (Some s); work = n ∷ f.work },
    ap (λ o. reach_of_by o n s f) (open_at made.cells made.shapes.items f.shapes n h.shapes e),
    record {
      shapes = subst (λ cells. AllShown cells new.shapes.items (slice_set f.shapes n (Some s))) (sym same)
          (subst (λ ms. AllShown made.cells ms (slice_set f.shapes n (Some s))) (sym put)
          (put_shown made.cells made.shapes.items f.shapes n m s h.shapes x));
      work = work ∙ ap (λ w. n ∷ w) h.work;
    },
  )

  -- ---------------------------------------------------------------- following
  abbrev pub Taking : List Cell → ℕ → Way → Flow → Type 0
  Taking cells n way x = (y : Flow) × TellsWay cells n way y × ((f : Found) → follow_of a code x f ≡ follow_of a code y f)

  taking_by : (cells : List Cell) (n : ℕ) (o : Option ℕ) (way : Way) (x : Flow) → TellsBy cells n o way x → Taking cells n way x
  taking_by cells n None way x h = (x, h, λ f. refl)
  taking_by cells n (Some p) way x (y, is, h) = (y, h, λ f. ap (λ x. follow_of a code x f) is)

  -- what is taken as a group doesn't matter here
  pub taking : (cells : List Cell) (n : ℕ) (made : Made) (x : Flow) → Tells cells n made x → Taking cells n made.way x
  taking cells n made x h = taking_by cells n made.taken made.way x h

  -- ---------------------------------------------------------------- how much is left
  met_left : (b : Bool) (f g : Found) → met_of b f ≡ Some g → left g ≡ left f
  met_left true f g e = let x : f ≡ g = cc e in ap left (sym x)
  met_left false f g e = absurd (cc e)

  reach_left_by : (n : ℕ) (s : Shape) (f g : Found) (o : Option (Option Shape)) → slice_get f.shapes n ≡ o → reach_of_by o n s f ≡ Some g →
      left g ≡ left f
  reach_left_by n s f g None at e = absurd (cc e)
  reach_left_by n s f g (Some None) at e =
      let x : record { shapes = slice_set f.shapes n (Some s); work = n ∷ f.work } ≡ g = cc e in
      ap left (sym x) ∙ omega (arith, put_open f.shapes n s at)
  reach_left_by n s f g (Some (Some t)) at e = met_left (same_shape s t) f g e

  pub reach_left : (n : ℕ) (s : Shape) (f g : Found) → reach_of a code n s f ≡ Some g → left g ≡ left f
  reach_left n s f g e = reach_left_by n s f g (slice_get f.shapes n) refl e

  both_left : (y : Flow) (f g : Found) (o : Option Found) → option_and_then (follow_of a code y) o ≡ Some g →
      ((h : Found) → o ≡ Some h → left h ≡ left f) → ((h : Found) → follow_of a code y h ≡ Some g → left g ≡ left h) → left g ≡ left f
  both_left y f g None e k l = absurd (cc e)
  both_left y f g (Some h) e k l = l h e ∙ k h refl

  follow_left : (x : Flow) (f g : Found) → follow_of a code x f ≡ Some g → left g ≡ left f
  follow_left refused f g e = absurd (cc e)
  follow_left ends f g e = let x : f ≡ g = cc e in ap left (sym x)
  follow_left (leads n s) f g e = reach_left n s f g e
  follow_left (both x y) f g e = both_left y f g (follow_of a code x f) e (λ h z. follow_left x f h z) (λ h z. follow_left y h g z)
  follow_left (takes p x) f g e = follow_left x f g e

  look_left_by : (i : Option Instruction) (n : ℕ) (o : Option Shape) (f g : Found) → look_of_by i n o f ≡ Some g → left g ≡ left f
  look_left_by i n None f g e = absurd (cc e)
  look_left_by (Some x) n (Some s) f g e = follow_left (flow_of (site_of a code n) x s) f g e
  look_left_by None n (Some s) f g e = met_left (nat_eq n (length code) && ends_with a.left s) f g e

  pub look_left : (n : ℕ) (f g : Found) → look_of a code n f ≡ Some g → left g ≡ left f
  look_left n f g e = look_left_by (slice_get code n) n (shape_at f.shapes n) f g e

  -- ---------------------------------------------------------------- looking
  unshaped_by : (cells : List Cell) (i : Option Instruction) (n : ℕ) (f : Found) (o : Option (Option Stacked)) → option_and_then itself o ≡ None →
      (p : Option (Option Shape)) → AtShown cells o p → look_of_by i n (option_and_then itself p) f ≡ None
  unshaped_by cells i n f o e None h = refl
  unshaped_by cells i n f o e (Some None) h = refl
  unshaped_by cells i n f None e (Some (Some t)) h = absurd h
  unshaped_by cells i n f (Some None) e (Some (Some t)) h = absurd h
  unshaped_by cells i n f (Some (Some m)) e (Some (Some t)) h = absurd (cc e)

  pub look_unshaped : (made : Finding) (f : Found) (n : ℕ) → IsFound made f → option_and_then itself (slice_get made.shapes.items n) ≡ None →
      look_of a code n f ≡ None
  look_unshaped made f n h e =
      unshaped_by made.cells (slice_get code n) n f (slice_get made.shapes.items n) e (slice_get f.shapes n)
      (shown_at made.cells made.shapes.items f.shapes n h.shapes)

  abbrev pub HasShown : List Cell → Stacked → Shapes → ℕ → Type 0
  HasShown cells m sh n = (s : Shape) × (shape_at sh n ≡ Some s) × Shows cells m s

  abbrev HasAt : List Cell → Stacked → Option (Option Shape) → Type 0
  HasAt cells m o = (s : Shape) × (option_and_then itself o ≡ Some s) × Shows cells m s

  has_by : (cells : List Cell) (m : Stacked) (o : Option (Option Stacked)) → option_and_then itself o ≡ Some m → (p : Option (Option Shape)) →
      AtShown cells o p → HasAt cells m p
  has_by cells m None e p h = absurd (cc e)
  has_by cells m (Some None) e p h = absurd (cc e)
  has_by cells m (Some (Some r)) e None h = absurd h
  has_by cells m (Some (Some r)) e (Some None) h = absurd h
  has_by cells m (Some (Some r)) e (Some (Some t)) h =
      let same : r ≡ m = cc e in (t, refl, subst (λ m. Shows cells m t) same h)

  pub has_shown : (cells : List Cell) (ms : List (Option Stacked)) (sh : Shapes) (n : ℕ) (m : Stacked) → AllShown cells ms sh →
      option_and_then itself (slice_get ms n) ≡ Some m → HasShown cells m sh n
  has_shown cells ms sh n m h e = has_by cells m (slice_get ms n) e (slice_get sh n) (shown_at cells ms sh n h)

  pub look_on : (n : ℕ) (f : Found) (x : Instruction) (s : Shape) → slice_get code n ≡ Some x → shape_at f.shapes n ≡ Some s →
      look_of a code n f ≡ follow_of a code (flow_of (site_of a code n) x s) f
  look_on n f x s i o = ap (λ i. look_of_by i n (shape_at f.shapes n) f) i ∙ ap (λ o. look_of_by (Some x) n o f) o

  pub look_end : (n : ℕ) (f : Found) (s : Shape) (b : Bool) → slice_get code n ≡ None → shape_at f.shapes n ≡ Some s →
      (nat_eq n (length code) && ends_with a.left s) ≡ b → look_of a code n f ≡ met_of b f
  look_end n f s b i o e =
      ap (λ i. look_of_by i n (shape_at f.shapes n) f) i ∙ ap (λ o. look_of_by None n o f) o ∙ ap (λ b. met_of b f) e

-- ---------------------------------------------------------------- the loops
-- What the seeds so far have begun: the others go on from there.
abbrev pub Begins : Asked → List Instruction → Seeds → Seeds → Finding → Type 0
Begins a code all rest made =
    (f : Found) × IsFound made f × (begun a code all (record { shapes = no_shapes code; work = [] }) ≡ begun a code rest f)
    × (left f ≡ length (no_shapes code))

-- As much as is left can be done.
abbrev pub Goes : Asked → List Instruction → Seeds → Finding → Type 0
Goes a code all made =
    (f : Found) × (k : ℕ) × IsFound made f × (left f ≤ k) × (found a code all ≡ search_of a code k f.work f.shapes)

abbrev pub seed_of : Seed → ℕ × Shape
seed_of e = (e.place, entry_shape e.values)

abbrev pub no_seed : Seed
no_seed = record { place = 0; values = 0 }

pub seeds_next : (seeds : List Seed) (k : ℕ) → k < length seeds →
    seeds_of (drop k seeds) ≡ seed_of (get_or seeds k no_seed) ∷ seeds_of (drop (k + 1) seeds)
seeds_next seeds k lt =
    let next : drop k seeds ≡ get_or seeds k no_seed ∷ drop (k + 1) seeds = grind (arith, drop-cons seeds k no_seed lt) in
    ap seeds_of next

pub begins : (a : Asked) (code : List Instruction) (all : Seeds) (made : Finding) → made.shapes.items ≡ unshaped code → made.work ≡ [] →
    Begins a code all all made
begins a code all made shapes work = (
  record { shapes = no_shapes code; work = [] },
  record { shapes = subst (λ ms. AllShown made.cells ms (no_shapes code)) (sym shapes) (none_shown made.cells code); work = work },
  refl,
  omega (arith, all_unmet code),
)

pub begins_on : (a : Asked) (code : List Instruction) (all rest more : Seeds) (e : ℕ × Shape) (made new : Finding) → rest ≡ e ∷ more →
    (b : Begins a code all rest made) → ((g : Found) × (reach_of a code e.0 e.1 b.0 ≡ Some g) × IsFound new g) → Begins a code all more new
begins_on a code all rest more e made new is (f, shown, same, much) (g, reached, now) = (
  g,
  now,
  same ∙ ap (λ es. begun a code es f) is ∙ ap (option_and_then (begun a code more)) reached,
  reach_left a code e.0 e.1 f g reached ∙ much,
)

pub begins_none : (a : Asked) (code : List Instruction) (all rest more : Seeds) (e : ℕ × Shape) (made : Finding) → rest ≡ e ∷ more →
    (b : Begins a code all rest made) → reach_of a code e.0 e.1 b.0 ≡ None → is_some (found a code all) ≡ false
begins_none a code all rest more e made is (f, shown, same, much) refuses =
    let none : begun a code all (record { shapes = no_shapes code; work = [] }) ≡ None =
    same ∙ ap (λ es. begun a code es f) is ∙ ap (option_and_then (begun a code more)) refuses in
    ap (λ o. is_some (option_and_then (λ (f : Found). search_of a code (length (no_shapes code)) f.work f.shapes) o)) none

pub goes : (a : Asked) (code : List Instruction) (all rest : Seeds) (made : Finding) → rest ≡ [] → Begins a code all rest made →
    Goes a code all made
goes a code all rest made is (f, shown, same, much) = (
  f,
  length (no_shapes code),
  shown,
  omega (arith, much),
  ap (option_and_then (λ (f : Found). search_of a code (length (no_shapes code)) f.work f.shapes)) (same ∙ ap (λ es. begun a code es f) is),
)

-- a place is taken from the work
pub taken_off : (made new : Finding) (f : Found) (n : ℕ) (work : List ℕ) → IsFound made f → made.work ≡ n ∷ work → new.cells ≡ made.cells →
    new.shapes.items ≡ made.shapes.items → new.work ≡ work → IsFound new (record { shapes = f.shapes; work = work })
taken_off made new f n work h is cells shapes now = record {
  shapes = subst (λ cells. AllShown cells new.shapes.items f.shapes) (sym cells)
      (subst (λ ms. AllShown made.cells ms f.shapes) (sym shapes) h.shapes);
  work = now;
}

abbrev GoesFrom : Asked → List Instruction → Seeds → Found → Type 0
GoesFrom a code all g = (k : ℕ) × (left g ≤ k) × (found a code all ≡ search_of a code k g.work g.shapes)

step_by : (a : Asked) (code : List Instruction) (all : Seeds) (sh : Shapes) (n : ℕ) (work : List ℕ) (g : Found) (k : ℕ) →
    look_of a code n (record { shapes = sh; work = work }) ≡ Some g → suc (left g) ≤ k → found a code all ≡ search_of a code k (n ∷ work) sh →
    GoesFrom a code all g
step_by a code all sh n work g zero e enough is = absurd (omega (arith, enough))
step_by a code all sh n work g (suc k) e enough is =
    (k, omega (arith, enough), is ∙ ap (option_and_then (λ (g : Found). search_of a code k g.work g.shapes)) e)

pub goes_on : (a : Asked) (code : List Instruction) (all : Seeds) (made new : Finding) (n : ℕ) (work : List ℕ) → made.work ≡ n ∷ work →
    (b : Goes a code all made) →
    ((g : Found) × (look_of a code n (record { shapes = b.0.shapes; work = work }) ≡ Some g) × IsFound new g) → Goes a code all new
goes_on a code all made new n work is (f, k, shown, enough, same) (g, looked, now) =
    let works : f.work ≡ n ∷ work = sym shown.work ∙ is in
    let less : left g ≡ unmet f.shapes + length work = look_left a code n (record { shapes = f.shapes; work = work }) g looked in
    let much : length f.work ≡ suc (length work) = ap length works in
    let more = step_by a code all f.shapes n work g k looked (omega (arith, less, much, enough))
    (same ∙ ap (λ w. search_of a code k w f.shapes) works) in
    (g, more.0, now, more.1, more.2)

stop_by : (a : Asked) (code : List Instruction) (sh : Shapes) (n : ℕ) (work : List ℕ) (k : ℕ) →
    look_of a code n (record { shapes = sh; work = work }) ≡ None → search_of a code k (n ∷ work) sh ≡ None
stop_by a code sh n work zero e = refl
stop_by a code sh n work (suc k) e = ap (option_and_then (λ (g : Found). search_of a code k g.work g.shapes)) e

pub goes_none : (a : Asked) (code : List Instruction) (all : Seeds) (made : Finding) (n : ℕ) (work : List ℕ) → made.work ≡ n ∷ work →
    (b : Goes a code all made) → look_of a code n (record { shapes = b.0.shapes; work = work }) ≡ None → is_some (found a code all) ≡ false
goes_none a code all made n work is (f, k, shown, enough, same) refuses =
    let works : f.work ≡ n ∷ work = sym shown.work ∙ is in
    ap is_some (same ∙ ap (λ w. search_of a code k w f.shapes) works ∙ stop_by a code f.shapes n work k refuses)

pub goes_home : (a : Asked) (code : List Instruction) (all : Seeds) (made : Finding) → made.work ≡ [] → Goes a code all made →
    is_some (found a code all) ≡ true
goes_home a code all made is (f, k, shown, enough, same) =
    ap is_some (same ∙ ap (λ w. search_of a code k w f.shapes) (sym shown.work ∙ is))

-- a step leaves less to do
pub goes_less : (a : Asked) (code : List Instruction) (all : Seeds) (made new : Finding) (n : ℕ) (work : List ℕ) → made.work ≡ n ∷ work →
    (b : Goes a code all made) →
    ((g : Found) × (look_of a code n (record { shapes = b.0.shapes; work = work }) ≡ Some g) × IsFound new g) → suc (left_in new) ≤ left_in made
goes_less a code all made new n work is (f, k, shown, enough, same) (g, looked, now) =
    let works : f.work ≡ n ∷ work = sym shown.work ∙ is in
    let less : left g ≡ unmet f.shapes + length work = look_left a code n (record { shapes = f.shapes; work = work }) g looked in
    let much : length f.work ≡ suc (length work) = ap length works in
    omega (arith, less, much, left_shown made f shown, left_shown new g now)

-- ---------------------------------------------------------------- what is read in memory
pub got : {X : Type 0} → (xs : List X) (k : ℕ) (r : Option (Bor X)) → IsItemAt xs k r → slice_get xs k ≡ option_copied r
got xs k None h = slice_get_past xs k h.3
got xs k (Some x) h = item_at xs k x.now h.3.0 h.1

pub got_in : {X : Type 0} → (xs read : List X) (k : ℕ) (r : Option (Bor X)) → read ≡ xs → IsItemAt read k r → slice_get xs k ≡ option_copied r
got_in xs read k r is h = ap (λ xs. slice_get xs k) (sym is) ∙ got read k r h

pub on_ok : {A E : Type 0} → (r : Result A E) (P Q : Type 0) → (P → Q) → OnOk r P → OnOk r Q
on_ok (Ok x) P Q k h = k h
on_ok (Err e) P Q k h = tt

take_whole : {X : Type 0} → (xs : List X) → take (length xs) xs ≡ xs
take_whole [] = refl
take_whole (x ∷ xs) = ap (λ ys. x ∷ ys) (take_whole xs)

-- the part from a place on is what is left there
pub part_is : {X : Type 0} → (xs : List X) (k : ℕ) → take (length xs - k) (drop k xs) ≡ drop k xs
part_is xs k = ap (λ n. take n (drop k xs)) (sym (length-drop k xs)) ∙ take_whole (drop k xs)

pub left_at : {X : Type 0} → (xs : List X) (n k : ℕ) → slice_get (drop n xs) k ≡ slice_get xs (n + k)
left_at xs zero k = ap (slice_get xs) (omega arith)
left_at [] (suc n) k = refl
left_at (x ∷ xs) (suc n) k =
    let same : suc (n + k) ≡ suc n + k = omega arith in
    subst (λ m. slice_get (drop n xs) k ≡ slice_get (x ∷ xs) m) same (left_at xs n k)

-- an error that is passed on
pub passed_on : {A : Type 0} → (new : Finding) (o : Option Found) (r : Result A Refusal) (e : Refusal) → IsErrAnd r (λ x. x ≡ e) →
    Comes {A = A} new o (Err e) → Comes new o r
passed_on new o (Ok x) e p q = absurd p
passed_on {A = A} new o (Err y) e p q = subst (λ y. Comes {A = A} new o (Err y)) (sym p) q

pub comes_as : {A : Type 0} → (new : Finding) (o p : Option Found) (r : Result A Refusal) → p ≡ o → Comes new o r → Comes new p r
comes_as new o p r is h = subst (λ o. Comes new o r) (sym is) h

module _ (a : Asked) (code : List Instruction) where
  -- ---------------------------------------------------------------- ways
  abbrev pub OneWay : List Cell → Stacked → ℕ → Flow → Type 0
  OneWay cells r m x = (s : Shape) × Shows cells r s × (x ≡ leads m s)

  abbrev pub TwoWays : List Cell → Stacked → ℕ → Stacked → ℕ → Flow → Type 0
  TwoWays cells r n q m x = (s : Shape) × (t : Shape) × Shows cells r s × Shows cells q t × (x ≡ both (leads n s) (leads m t))

  abbrev pub way_on : (cells : List Cell) (n : ℕ) (way : Way) (x : Flow) (r : Stacked) →
      way ≡ ways.On r → TellsWay cells n way x → OneWay cells r (n + 1) x
  way_on cells n way x r is h = subst (λ way. TellsWay cells n way x) is h

  abbrev pub way_to : (cells : List Cell) (n : ℕ) (way : Way) (x : Flow) (m : ℕ) (r : Stacked) →
      way ≡ ways.To m r → TellsWay cells n way x → OneWay cells r m x
  way_to cells n way x m r is h = subst (λ way. TellsWay cells n way x) is h

  abbrev pub way_either : (cells : List Cell) (n : ℕ) (way : Way) (x : Flow) (r : Stacked) (m : ℕ) (q : Stacked) → way ≡ ways.Either r m q →
      TellsWay cells n way x → TwoWays cells r (n + 1) q m x
  way_either cells n way x r m q is h = subst (λ way. TellsWay cells n way x) is h

  -- ---------------------------------------------------------------- what follows a way
  pub first_fails : (A : Type 0) (new : Finding) (x : Flow) (f : Found) (n m : ℕ) (s t : Shape) (e : Refusal) →
      x ≡ both (leads n s) (leads m t) → Comes {A = A} new (reach_of a code n s f) (Err e) → Comes {A = A} new (follow_of a code x f) (Err e)
  first_fails A new x f n m s t refusals.BadStream is h =
      ap (λ x. follow_of a code x f) is ∙ ap (option_and_then (follow_of a code (leads m t))) h
  first_fails A new x f n m s t refusals.OutOfMemory is h = tt

  pub first_done : (x : Flow) (f g : Found) (n m : ℕ) (s t : Shape) → x ≡ both (leads n s) (leads m t) → reach_of a code n s f ≡ Some g →
      follow_of a code x f ≡ reach_of a code m t g
  first_done x f g n m s t is h =
      ap (λ x. follow_of a code x f) is ∙ ap (option_and_then (follow_of a code (leads m t))) h

-- What is found stays found as cells grow.
pub found_grown : (made new : Finding) (f : Found) → new.shapes.items ≡ made.shapes.items → new.work ≡ made.work → Grown made.cells new.cells →
    IsFound made f → IsFound new f
found_grown made new f shapes work grown h = record {
  shapes = subst (λ ms. AllShown new.cells ms f.shapes) (sym shapes) (all_grown made.cells new.cells grown made.shapes.items f.shapes h.shapes);
  work = work ∙ h.work;
}

pub passed_fault : {T E : Type 0} → (r : Result T E) (Q : E → Type 0) (e : E) → IsErrAnd r (λ x. x ≡ e) → Q e → IfErr r Q
passed_fault (Ok x) Q e p q = tt
passed_fault (Err y) Q e p q = subst Q (sym p) q

pub refused_when : (new : Finding) (o : Option Found) (e : Refusal) → Comes {A = Unit {0}} new o (Err e) → e ≡ refusals.BadStream → o ≡ None
refused_when new o e h is = subst (λ e. Comes {A = Unit {0}} new o (Err e)) is h
