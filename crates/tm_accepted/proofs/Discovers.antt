-- Where shapes fit with each 0 read as a value or a group, shapes are found with each 0 read as it is taken.
use Rattle.std.proofs.Common.{◌≡◌, ◌⊎◌, inl, inr, ℕ, zero, suc, ◌+◌, ◌≤◌, List, [], ◌∷◌, length, Option, Some, None, Bool, true, false}
use Rattle.std.proofs.Common.{refl, sym, ap, ◌∙◌, subst, arith}
use Rattle.std.specs.Prelude.{slice_get, slice_set, option_and_then, is_some, drop, ◌||◌}
use Rattle.tm_trees.specs.Instructions.{Instruction}
use Rattle.tm_trees.specs.Instructions.instructions as i
use Rattle.tm_shapes.specs.declared.kind.Kind.{Kind}
use Rattle.tm_shapes.specs.declared.kind.Kind.TheVariants.{Value as value}
use Rattle.tm_shapes.specs.declared.kind.Form.{Form}
use Rattle.tm_shapes.specs.declared.kind.Form.TheVariants as forms
use Rattle.tm_shapes.specs.declared.kind.Reading.TheVariants as readings
use Rattle.tm_shapes.specs.Shapes.{Part, Shape, Shapes, shape_at, entry_shape, itself}
use Rattle.tm_shapes.specs.Flows.{Flow, refused, ends, leads, both, takes, are, flow_of, in_row, is_closed}
use Rattle.tm_shapes.specs.Placed.{is_entered}
use Rattle.tm_shapes.specs.Search.{Has, Seen, put_shape}
use Rattle.tm_shapes.specs.Search as finder
use Rattle.tm_shapes.specs.Accepts.{Asked, Fits, HasSome, Readings, Seeds, all_seeds, ask, ask_all, ask_openly, ends_with}
use Rattle.tm_shapes.specs.Accepts.{entry_seed, entry_seeds_from, found, groups_in, is_between, left_by, no_groups, no_shapes, noted}
use Rattle.tm_shapes.specs.Accepts.{read_groups, site_of}
use Rattle.tm_accepted.proofs.Accepted.{both_true, some_found, no_shape_at}
use Rattle.tm_accepted.proofs.Finds.{Among, Grows, HasShape, put_there, put_is, put_grows, unmet, put_open, put_long, past, within}
use Rattle.tm_accepted.proofs.Taken as taken
use Rattle.tm_accepted.proofs.Taken.{mark_of}

-- ---------------------------------------------------------------- marks
set_there : (bs : List Bool) (p : ℕ) → suc p ≤ length bs → slice_get (slice_set bs p true) p ≡ Some true
set_there [] p h = absurd (omega (arith, h))
set_there (b ∷ bs) zero h = refl
set_there (b ∷ bs) (suc p) h = set_there bs p (omega (arith, h))

set_keeps : (bs : List Bool) (p q : ℕ) → slice_get bs q ≡ Some true → slice_get (slice_set bs p true) q ≡ Some true
set_keeps [] p q e = absurd (cc e)
set_keeps (b ∷ bs) zero zero e = refl
set_keeps (b ∷ bs) zero (suc q) e = e
set_keeps (b ∷ bs) (suc p) zero e = e
set_keeps (b ∷ bs) (suc p) (suc q) e = set_keeps bs p q e

set_one_on : (p q : ℕ) (A : Type 0) → (q ≡ p) ⊎ A → (suc q ≡ suc p) ⊎ A
set_one_on p q A (inl e) = inl (ap suc e)
set_one_on p q A (inr h) = inr h

set_is : (bs : List Bool) (p q : ℕ) → slice_get (slice_set bs p true) q ≡ Some true → (q ≡ p) ⊎ (slice_get bs q ≡ Some true)
set_is [] p q e = inr e
set_is (b ∷ bs) zero zero e = inl refl
set_is (b ∷ bs) zero (suc q) e = inr e
set_is (b ∷ bs) (suc p) zero e = inr e
set_is (b ∷ bs) (suc p) (suc q) e = set_one_on p q (slice_get bs q ≡ Some true) (set_is bs p q e)

set_long : (bs : List Bool) (p : ℕ) → length (slice_set bs p true) ≡ length bs
set_long [] p = refl
set_long (b ∷ bs) zero = refl
set_long (b ∷ bs) (suc p) = ap suc (set_long bs p)

no_mark : {A : Type 0} (xs : List A) (p : ℕ) → slice_get (no_groups xs) p ≡ Some true → ⊥
no_mark [] p e = cc e
no_mark (x ∷ xs) zero e = cc e
no_mark (x ∷ xs) (suc p) e = no_mark xs p e

no_marks_long : {A : Type 0} (xs : List A) → length (no_groups xs) ≡ length xs
no_marks_long [] = refl
no_marks_long (x ∷ xs) = ap suc (no_marks_long xs)

is_marked : (o : Option Bool) → mark_of o ≡ true → o ≡ Some true
is_marked None e = absurd (cc e)
is_marked (Some true) e = refl
is_marked (Some false) e = absurd (cc e)

all_unmet : (xs : List Instruction) → unmet (no_shapes xs) ≡ length (no_shapes xs)
all_unmet [] = refl
all_unmet (x ∷ xs) = ap suc (all_unmet xs)

-- ---------------------------------------------------------------- where runs begin
-- over values alone
abbrev AllPlain : Seeds → Type 0
AllPlain [] = Unit {0}
AllPlain (e ∷ es) = ((m : ℕ) × (e.1 ≡ entry_shape m)) × AllPlain es

plain_by : (o : Option ℕ) (place : ℕ) (es : Seeds) → AllPlain es → AllPlain (entry_seed o place es)
plain_by None place es h = h
plain_by (Some m) place es h = ((m, refl), h)

all_plain : (o : Option ℕ) (code : List Instruction) → AllPlain (entry_seeds_from o code)
all_plain o [] = tt
all_plain o (i.BuildMacro x place caller ∷ more) = plain_by o place (entry_seeds_from None more) (all_plain None more)
all_plain o (i.LoadConst v ∷ more) = all_plain (Some (Rattle.tm_syntax.specs.Entries.name_count v)) more
all_plain o (x ∷ more) = all_plain None more

plain_at : (es : Seeds) (k : ℕ) (e : ℕ × Shape) → AllPlain es → slice_get es k ≡ Some e → (m : ℕ) × (e.1 ≡ entry_shape m)
plain_at [] k e h q = absurd (cc q)
plain_at (d ∷ es) zero e h q = subst (λ (d : ℕ × Shape). (m : ℕ) × (d.1 ≡ entry_shape m)) (let one : d ≡ e = cc q in one) h.0
plain_at (d ∷ es) (suc k) e h q = plain_at es k e h.1 q

module _ (code : List Instruction) where
  abbrev trace : Flow → Seen → Seen
  trace flow f = finder.trace code (site_of ask_openly code) flow f

  abbrev note_by : Option (Option Shape) → ℕ → Shape → Seen → Seen
  note_by o n s f = finder.note_by code (site_of ask_openly code) o n s f

  abbrev note : ℕ → Shape → Seen → Seen
  note n s f = finder.note code (site_of ask_openly code) n s f

  abbrev glance_by : Option Instruction → ℕ → Option Shape → Seen → Seen
  glance_by o n t f = finder.glance_by code (site_of ask_openly code) o n t f

  abbrev glance : ℕ → Seen → Seen
  glance n f = finder.glance code (site_of ask_openly code) n f

  abbrev wander : ℕ → List ℕ → Seen → Seen
  wander k work f = finder.wander code (site_of ask_openly code) k work f

  -- ---------------------------------------------------------------- marks stay
  note_groups : (o : Option (Option Shape)) (n : ℕ) (s : Shape) (f : Seen) → (note_by o n s f).groups ≡ f.groups
  note_groups None n s f = refl
  note_groups (Some None) n s f = refl
  note_groups (Some (Some t)) n s f = refl

  trace_marks : (flow : Flow) (f : Seen) (p : ℕ) → slice_get f.groups p ≡ Some true → slice_get (trace flow f).groups p ≡ Some true
  trace_marks refused f p e = e
  trace_marks ends f p e = e
  trace_marks (leads n s) f p e = ap (λ bs. slice_get bs p) (note_groups (slice_get f.shapes n) n s f) ∙ e
  trace_marks (both a b) f p e = trace_marks b (trace a f) p (trace_marks a f p e)
  trace_marks (takes q a) f p e = trace_marks a (record f { groups = slice_set f.groups q true }) p (set_keeps f.groups q p e)

  glance_marks : (o : Option Instruction) (n : ℕ) (t : Option Shape) (f : Seen) (p : ℕ) → slice_get f.groups p ≡ Some true →
      slice_get (glance_by o n t f).groups p ≡ Some true
  glance_marks None n t f p e = e
  glance_marks (Some x) n None f p e = e
  glance_marks (Some x) n (Some s) f p e = trace_marks (flow_of (site_of ask_openly code n) x s) f p e

  wander_marks : (k : ℕ) (work : List ℕ) (f : Seen) (p : ℕ) → slice_get f.groups p ≡ Some true → slice_get (wander k work f).groups p ≡ Some true
  wander_marks k [] f p e = e
  wander_marks zero (n ∷ work) f p e = e
  wander_marks (suc k) (n ∷ work) f p e =
      let f1 : Seen = record f { work = work } in
      let g = glance n f1 in
      wander_marks k g.work g p (glance_marks (slice_get code n) n (shape_at f.shapes n) f1 p e)

  -- ================================================================ shapes that fit
  module _ (read : Readings) (form : Form) (returned : Option ℕ) (sh : Shapes)
      (settled : (n : ℕ) → (read n ≡ readings.Value) ⊎ (read n ≡ readings.Group))
      (bottom : (n : ℕ) (t : Shape) → read n ≡ readings.Group → shape_at sh n ≡ Some t → t.part.operands ≡ [])
      (never : (n : ℕ) (t : Shape) (k : Kind) (ks : List Kind) → slice_get code n ≡ Some i.Swap →
      in_row (site_of (ask read returned true form) code n) ≡ true → shape_at sh n ≡ Some t → t.part.operands ≡ k ∷ value ∷ ks → ⊥)
      (fits : Fits (ask read returned true form) code (all_seeds code) sh) (marks : List Bool) where
    abbrev marked : ℕ → Bool
    marked p = mark_of (slice_get marks p)

    abbrev As : Shape → Shape → Type 0
    As s t = taken.ShapeAs code read sh marks s t

    abbrev Three : Flow → Flow → Flow → Type 0
    Three a d r = taken.Three code read sh marks a d r

    abbrev turned : Shape → Shape
    turned t = taken.turn_shape code read sh marks t

    -- as asked, with the marks
    abbrev by_marks : Asked
    by_marks = ask (read_groups marks) returned true form

    flow_here : (n : ℕ) (x : Instruction) (s t : Shape) → slice_get code n ≡ Some x → shape_at sh n ≡ Some t → As s t →
        Three (flow_of (site_of ask_openly code n) x s) (flow_of (site_of (ask read returned true form) code n) x t)
        (flow_of (site_of by_marks code n) x (turned t))
    flow_here n x s t at there r =
        let swapped : x ≡ i.Swap → (d : Kind) (more : List Kind) → in_row (site_of (ask read returned true form) code n) ≡ true →
        t.part.operands ≡ d ∷ value ∷ more → ⊥ =
        λ is d more row e. never n t d more (at ∙ ap (λ x. Some x) is) row there e in
        subst (λ (q : Part). Three (flow_of (site_of ask_openly code n) x (record { part = q; below = s.below }))
        (flow_of (site_of (ask read returned true form) code n) x t) (flow_of (site_of by_marks code n) x (turned t))) (sym r.part.is)
        (taken.flow_three code read sh marks settled bottom n (drop (n + 1) code) (is_entered code (n + 1) || is_entered code (n + 2))
        (is_between code n) returned s.below t r.below s.part.operands r.part.operands x at swapped there (fits.steps n x t at there))

    -- ---------------------------------------------------------------- what wandering keeps
    -- all that it marks is marked
    abbrev Covered : Seen → Type 0
    Covered f = (p : ℕ) → slice_get f.groups p ≡ Some true → marked p ≡ true

    -- The places met so far have shapes that are read as those that fit, and groups alone are marked.
    record Kept (f : Seen) : Type 0 where
      known : (n : ℕ) (s : Shape) → shape_at f.shapes n ≡ Some s → (t : Shape) × (shape_at sh n ≡ Some t) × As s t
      long : length f.shapes ≡ length sh
      size : length f.groups ≡ length code
      grouped : (p : ℕ) → slice_get f.groups p ≡ Some true → read p ≡ readings.Group

    -- the places of a flow are met, and its groups marked
    abbrev Met : Shapes → Flow → Type 0
    Met now refused = ⊥
    Met now ends = Unit {0}
    Met now (leads n s) = HasShape now n
    Met now (both a b) = Met now a × Met now b
    Met now (takes p a) = (marked p ≡ true) × Met now a

    abbrev Done : Shapes → ℕ → Option Instruction → Shape → Type 0
    Done now n (Some x) s = Met now (flow_of (site_of ask_openly code n) x s)
    Done now n None s = Unit {0}

    met_grows : (old new : Shapes) → Grows old new → (f : Flow) → Met old f → Met new f
    met_grows old new g refused h = h
    met_grows old new g ends h = h
    met_grows old new g (leads n s) h = (h.0, g n h.0 h.1)
    met_grows old new g (both a b) h = (met_grows old new g a h.0, met_grows old new g b h.1)
    met_grows old new g (takes p a) h = (h.0, met_grows old new g a h.1)

    done_grows : (old new : Shapes) → Grows old new → (n : ℕ) (o : Option Instruction) (s : Shape) → Done old n o s → Done new n o s
    done_grows old new g n (Some x) s h = met_grows old new g (flow_of (site_of ask_openly code n) x s) h
    done_grows old new g n None s h = h

    record Traced (flow : Flow) (f g : Seen) : Type 0 where
      grows : Grows f.shapes g.shapes
      meets : Met g.shapes flow
      fresh : (n : ℕ) (s : Shape) → shape_at g.shapes n ≡ Some s → (shape_at f.shapes n ≡ Some s) ⊎ Among n g.work
      keeps : (n : ℕ) → Among n f.work → Among n g.work
      added : (n : ℕ) → Among n g.work → Among n f.work ⊎ HasShape g.shapes n
      less : unmet g.shapes + length g.work ≡ unmet f.shapes + length f.work
      kept : Kept g

    same_traced : (flow : Flow) (f : Seen) → Met f.shapes flow → Kept f → Traced flow f f
    same_traced flow f h kept = record {
      grows = λ n s e. e;
      meets = h;
      fresh = λ n s e. inl e;
      keeps = λ n h. h;
      added = λ n h. inl h;
      less = refl;
      kept = kept;
    }

    fresh_by : (n : ℕ) (s : Shape) (f : Seen) (m : ℕ) (t : Shape) → ((m ≡ n) × (t ≡ s)) ⊎ (shape_at f.shapes m ≡ Some t) →
        (shape_at f.shapes m ≡ Some t) ⊎ Among m (n ∷ f.work)
    fresh_by n s f m t (inl h) = inr (inl h.0)
    fresh_by n s f m t (inr h) = inl h

    added_by : (n : ℕ) (s : Shape) (f : Seen) → slice_get f.shapes n ≡ Some None → (m : ℕ) → Among m (n ∷ f.work) →
        Among m f.work ⊎ HasShape (put_shape n s f.shapes) m
    added_by n s f at m (inl is) = inr (s, ap (shape_at (put_shape n s f.shapes)) is ∙ put_there f.shapes n s at)
    added_by n s f at m (inr a) = inl a

    known_by : (n : ℕ) (s t : Shape) (f : Seen) (m : ℕ) (u : Shape) → shape_at sh n ≡ Some t → As s t → Kept f →
        ((m ≡ n) × (u ≡ s)) ⊎ (shape_at f.shapes m ≡ Some u) → (v : Shape) × (shape_at sh m ≡ Some v) × As u v
    known_by n s t f m u there r kept (inl h) = (t, ap (shape_at sh) h.0 ∙ there, subst (λ s. As s t) (sym h.1) r)
    known_by n s t f m u there r kept (inr h) = kept.known m u h

    note_traced : (n : ℕ) (s t : Shape) (f : Seen) (o : Option (Option Shape)) → slice_get f.shapes n ≡ o → shape_at sh n ≡ Some t → As s t → Kept f →
        Traced (leads n s) f (note_by o n s f)
    note_traced n s t f None at there r kept = absurd (omega (arith, past f.shapes n at, within sh n t there, kept.long))
    note_traced n s t f (Some (Some u)) at there r kept = same_traced (leads n s) f (u, ap (option_and_then itself) at) kept
    note_traced n s t f (Some None) at there r kept = record {
      grows = put_grows f.shapes n s at;
      meets = (s, put_there f.shapes n s at);
      fresh = λ m u e. fresh_by n s f m u (put_is f.shapes n m s u at e);
      keeps = λ m h. inr h;
      added = λ m h. added_by n s f at m h;
      less = omega (arith, put_open f.shapes n s at);
      kept = record {
        known = λ m u e. known_by n s t f m u there r kept (put_is f.shapes n m s u at e);
        long = put_long f.shapes n s ∙ kept.long;
        size = kept.size;
        grouped = kept.grouped;
      };
    }

    kept_fresh : (f h : Seen) (n : ℕ) (s : Shape) (work : List ℕ) → ((m : ℕ) → Among m h.work → Among m work) →
        (shape_at f.shapes n ≡ Some s) ⊎ Among n h.work → (shape_at f.shapes n ≡ Some s) ⊎ Among n work
    kept_fresh f h n s work keeps (inl e) = inl e
    kept_fresh f h n s work keeps (inr a) = inr (keeps n a)

    both_fresh : (f h : Seen) (n : ℕ) (s : Shape) (work : List ℕ) → ((m : ℕ) → Among m h.work → Among m work) →
        ((shape_at h.shapes n ≡ Some s) → (shape_at f.shapes n ≡ Some s) ⊎ Among n h.work) → (shape_at h.shapes n ≡ Some s) ⊎ Among n work →
        (shape_at f.shapes n ≡ Some s) ⊎ Among n work
    both_fresh f h n s work keeps k (inl e) = kept_fresh f h n s work keeps (k e)
    both_fresh f h n s work keeps k (inr a) = inr a

    one_added : (f h g : Seen) (n : ℕ) → Grows h.shapes g.shapes → Among n f.work ⊎ HasShape h.shapes n → Among n f.work ⊎ HasShape g.shapes n
    one_added f h g n grows (inl a) = inl a
    one_added f h g n grows (inr s) = inr (s.0, grows n s.0 s.1)

    both_added : (f h g : Seen) (n : ℕ) → Grows h.shapes g.shapes → (Among n h.work → Among n f.work ⊎ HasShape h.shapes n) →
        Among n h.work ⊎ HasShape g.shapes n → Among n f.work ⊎ HasShape g.shapes n
    both_added f h g n grows k (inl a) = one_added f h g n grows (k a)
    both_added f h g n grows k (inr s) = inr s

    then_traced : (a b : Flow) (f h g : Seen) → Traced a f h → Traced b h g → Traced (both a b) f g
    then_traced a b f h g x y = record {
      grows = λ n s e. y.grows n s (x.grows n s e);
      meets = (met_grows h.shapes g.shapes y.grows a x.meets, y.meets);
      fresh = λ n s e. both_fresh f h n s g.work y.keeps (x.fresh n s) (y.fresh n s e);
      keeps = λ n e. y.keeps n (x.keeps n e);
      added = λ n e. both_added f h g n y.grows (x.added n) (y.added n e);
      less = y.less ∙ x.less;
      kept = y.kept;
    }

    abbrev taken_in : ℕ → Seen → Seen
    taken_in p f = record f { groups = slice_set f.groups p true }

    grouped_by : (f : Seen) (p q : ℕ) → read p ≡ readings.Group → Kept f → (q ≡ p) ⊎ (slice_get f.groups q ≡ Some true) →
        read q ≡ readings.Group
    grouped_by f p q r kept (inl e) = ap read e ∙ r
    grouped_by f p q r kept (inr e) = kept.grouped q e

    taken_kept : (p : ℕ) (f : Seen) → read p ≡ readings.Group → Kept f → Kept (taken_in p f)
    taken_kept p f r kept = record {
      known = kept.known;
      long = kept.long;
      size = set_long f.groups p ∙ kept.size;
      grouped = λ q e. grouped_by f p q r kept (set_is f.groups p q e);
    }

    taken_traced : (p : ℕ) (a : Flow) (f g : Seen) → marked p ≡ true → Traced a (taken_in p f) g → Traced (takes p a) f g
    taken_traced p a f g m x = record {
      grows = x.grows;
      meets = (m, x.meets);
      fresh = x.fresh;
      keeps = x.keeps;
      added = x.added;
      less = x.less;
      kept = x.kept;
    }

    traced : (flow d r : Flow) (f : Seen) → Three flow d r → Has sh d → Kept f → Covered (trace flow f) → Traced flow f (trace flow f)
    traced refused d r f x h kept cover = absurd x
    traced ends d r f x h kept cover = same_traced ends f tt kept
    traced (leads n s) d r f (t, is, as_is, on) h kept cover =
        note_traced n s t f (slice_get f.shapes n) refl (subst (Has sh) is h) as_is kept
    traced (both a b) d r f (d1, d2, r1, r2, is, r_is, x, y) h kept cover =
        let h1 : Has sh d1 × Has sh d2 = subst (Has sh) is h in
        let one = traced a d1 r1 f x h1.0 kept (λ p e. cover p (trace_marks b (trace a f) p e)) in
        let two = traced b d2 r2 (trace a f) y h1.1 one.kept cover in
        then_traced a b f (trace a f) (trace b (trace a f)) one two
    traced (takes p a) d r f (group_is, inside, x) h kept cover =
        let f1 = taken_in p f in
        let m = cover p (trace_marks a f1 p (set_there f.groups p (omega (arith, kept.size, inside)))) in
        taken_traced p a f (trace a f1) m (traced a d r f1 (x m) h (taken_kept p f group_is kept) cover)

    -- ---------------------------------------------------------------- where runs begin
    entry_turned : (m : ℕ) → entry_shape m ≡ turned (entry_shape m)
    entry_turned m = taken.entry_turned code read sh marks m

    entry_as : (m : ℕ) → As (entry_shape m) (entry_shape m)
    entry_as m = taken.entry_as code read sh marks m

    -- All that has a shape is to be looked at, and the steps are enough.
    record Going (f : Seen) : Type 0 where
      kept : Kept f
      fresh : (n : ℕ) (s : Shape) → shape_at f.shapes n ≡ Some s → Among n f.work
      met : (n : ℕ) → Among n f.work → HasShape f.shapes n
      enough : unmet f.shapes + length f.work ≡ length (no_shapes code)

    going_fresh : (f g : Seen) (m : ℕ) (t : Shape) → ((n : ℕ) (s : Shape) → shape_at f.shapes n ≡ Some s → Among n f.work) →
        ((k : ℕ) → Among k f.work → Among k g.work) → (shape_at f.shapes m ≡ Some t) ⊎ Among m g.work → Among m g.work
    going_fresh f g m t fresh keeps (inl old) = keeps m (fresh m t old)
    going_fresh f g m t fresh keeps (inr a) = a

    going_met : (f g : Seen) (m : ℕ) → ((n : ℕ) → Among n f.work → HasShape f.shapes n) → Grows f.shapes g.shapes →
        Among m f.work ⊎ HasShape g.shapes m → HasShape g.shapes m
    going_met f g m met grows (inl a) = let s = met m a in (s.0, grows m s.0 s.1)
    going_met f g m met grows (inr s) = s

    going_on : (flow : Flow) (f g : Seen) → Traced flow f g → Going f → Going g
    going_on flow f g x going = record {
      kept = x.kept;
      fresh = λ m t e. going_fresh f g m t going.fresh x.keeps (x.fresh m t e);
      met = λ m a. going_met f g m going.met x.grows (x.added m a);
      enough = x.less ∙ going.enough;
    }

    record Noted (es : Seeds) (f g : Seen) : Type 0 where
      going : Going g
      grows : Grows f.shapes g.shapes
      there : (k : ℕ) (e : ℕ × Shape) → slice_get es k ≡ Some e → HasShape g.shapes e.0

    noted_there : (d : ℕ × Shape) (es : Seeds) (f h g : Seen) → Traced (leads d.0 d.1) f h → Noted es h g → (k : ℕ) (e : ℕ × Shape) →
        slice_get (d ∷ es) k ≡ Some e → HasShape g.shapes e.0
    noted_there d es f h g x more zero e q =
        let one : d ≡ e = cc q in
        subst (λ (e : ℕ × Shape). HasShape g.shapes e.0) one (x.meets.0, more.grows d.0 x.meets.0 x.meets.1)
    noted_there d es f h g x more (suc k) e q = more.there k e q

    all_noted : (es : Seeds) (f : Seen) → AllPlain es → ((k : ℕ) (e : ℕ × Shape) → slice_get es k ≡ Some e → shape_at sh e.0 ≡ Some e.1) →
        Going f → Noted es f (noted code es f)
    all_noted [] f plain starts going = record { going = going; grows = λ n s e. e; there = λ k e q. absurd (cc q) }
    all_noted (d ∷ es) f plain starts going =
        let same : As d.1 d.1 = subst (λ s. As s s) (sym plain.0.1) (entry_as plain.0.0) in
        let x : Traced (leads d.0 d.1) f (note d.0 d.1 f) =
        note_traced d.0 d.1 d.1 f (slice_get f.shapes d.0) refl (starts 0 d refl) same going.kept in
        let h = note d.0 d.1 f in
        let more = all_noted es h plain.1 (λ k e q. starts (suc k) e q) (going_on (leads d.0 d.1) f h x going) in
        record {
          going = more.going;
          grows = λ n s e. more.grows n s (x.grows n s e);
          there = noted_there d es f h (noted code es h) x more;
        }

    -- ---------------------------------------------------------------- wandering
    record Ready (work : List ℕ) (f : Seen) : Type 0 where
      kept : Kept f
      met : (n : ℕ) → Among n work → HasShape f.shapes n
      fit : (n : ℕ) (s : Shape) → shape_at f.shapes n ≡ Some s → Among n work ⊎ Done f.shapes n (slice_get code n) s

    abbrev Glanced : ℕ → Shape → Seen → Seen → Type 0
    Glanced n s f g = (flow : Flow) × Traced flow f g × Done g.shapes n (slice_get code n) s

    glanced_by : (n : ℕ) (s : Shape) (f : Seen) (o : Option Instruction) → slice_get code n ≡ o → shape_at f.shapes n ≡ Some s → Kept f →
        Covered (glance_by o n (Some s) f) → Glanced n s f (glance_by o n (Some s) f)
    glanced_by n s f None ci at kept cover =
        (ends, same_traced ends f tt kept, subst (λ o. Done f.shapes n o s) (sym ci) tt)
    glanced_by n s f (Some x) ci at kept cover =
        let t = kept.known n s at in
        let flow = flow_of (site_of ask_openly code n) x s in
        let y = traced flow (flow_of (site_of (ask read returned true form) code n) x t.0) (flow_of (site_of by_marks code n) x (turned t.0)) f
        (flow_here n x s t.0 ci t.1 t.2) (fits.steps n x t.0 ci t.1) kept cover in
        (flow, y, subst (λ o. Done (trace flow f).shapes n o s) (sym ci) y.meets)

    glanced : (n : ℕ) (s : Shape) (f : Seen) → shape_at f.shapes n ≡ Some s → Kept f → Covered (glance n f) → Glanced n s f (glance n f)
    glanced n s f at kept cover =
        subst (λ o. Covered (glance_by (slice_get code n) n o f) → Glanced n s f (glance_by (slice_get code n) n o f)) (sym at)
        (λ cover. glanced_by n s f (slice_get code n) refl at kept cover) cover

    fit_old : (n : ℕ) (s : Shape) (work : List ℕ) (f g : Seen) (flow : Flow) → Traced flow (record f { work = work }) g →
        shape_at f.shapes n ≡ Some s → Done g.shapes n (slice_get code n) s → (m : ℕ) (t : Shape) → shape_at g.shapes m ≡ Some t →
        Among m (n ∷ work) ⊎ Done f.shapes m (slice_get code m) t → Among m g.work ⊎ Done g.shapes m (slice_get code m) t
    fit_old n s work f g flow x at here m t there (inl (inl is)) =
        let same : s ≡ t = (let q = x.grows n s at in cc (sym q ∙ ap (shape_at g.shapes) (sym is) ∙ there)) in
        inr (subst (λ k. Done g.shapes k (slice_get code k) t) (sym is) (subst (λ t. Done g.shapes n (slice_get code n) t) same here))
    fit_old n s work f g flow x at here m t there (inl (inr a)) = inl (x.keeps m a)
    fit_old n s work f g flow x at here m t there (inr done) = inr (done_grows f.shapes g.shapes x.grows m (slice_get code m) t done)

    fit_by : (n : ℕ) (s : Shape) (work : List ℕ) (f g : Seen) (flow : Flow) → Traced flow (record f { work = work }) g →
        shape_at f.shapes n ≡ Some s → Done g.shapes n (slice_get code n) s → Ready (n ∷ work) f → (m : ℕ) (t : Shape) →
        shape_at g.shapes m ≡ Some t → (shape_at f.shapes m ≡ Some t) ⊎ Among m g.work → Among m g.work ⊎ Done g.shapes m (slice_get code m) t
    fit_by n s work f g flow x at here ready m t there (inl old) = fit_old n s work f g flow x at here m t there (ready.fit m t old)
    fit_by n s work f g flow x at here ready m t there (inr a) = inl a

    met_after : (n : ℕ) (work : List ℕ) (f g : Seen) (flow : Flow) → Traced flow (record f { work = work }) g → Ready (n ∷ work) f → (m : ℕ) →
        Among m work ⊎ HasShape g.shapes m → HasShape g.shapes m
    met_after n work f g flow x ready m (inl a) = let s = ready.met m (inr a) in (s.0, x.grows m s.0 s.1)
    met_after n work f g flow x ready m (inr s) = s

    ready_on : (n : ℕ) (s : Shape) (work : List ℕ) (f g : Seen) → shape_at f.shapes n ≡ Some s → Glanced n s (record f { work = work }) g →
        Ready (n ∷ work) f → Ready g.work g
    ready_on n s work f g at (flow, x, here) ready = record {
      kept = x.kept;
      met = λ m a. met_after n work f g flow x ready m (x.added m a);
      fit = λ m t e. fit_by n s work f g flow x at here ready m t e (x.fresh m t e);
    }

    wandered : (k : ℕ) (work : List ℕ) (f : Seen) → unmet f.shapes + length work ≤ k → Ready work f → Covered (wander k work f) →
        Ready [] (wander k work f) × Grows f.shapes (wander k work f).shapes
    wandered k [] f enough ready cover = (ready, λ n s e. e)
    wandered zero (n ∷ work) f enough ready cover = absurd (omega (arith, enough))
    wandered (suc k) (n ∷ work) f enough ready cover =
        let f1 : Seen = record f { work = work } in
        let g = glance n f1 in
        let s = ready.met n (inl refl) in
        let kept1 : Kept f1 =
        record { known = ready.kept.known; long = ready.kept.long; size = ready.kept.size; grouped = ready.kept.grouped } in
        let x : Glanced n s.0 f1 g = glanced n s.0 f1 s.1 kept1 (λ p e. cover p (wander_marks k g.work g p e)) in
        let more = wandered k g.work g (omega (arith, enough, x.1.less)) (ready_on n s.0 work f g s.1 x ready) cover in
        (more.0, λ m t e. more.1 m t (x.1.grows m t e))

    -- ---------------------------------------------------------------- the shapes that are found
    abbrev kept_one : Option Shape → Option Shape → Option Shape
    kept_one (Some s) (Some t) = Some (turned t)
    kept_one o p = None

    -- of the places that are met, where a group is one that is marked
    abbrev kept_shapes : Shapes → Shapes → Shapes
    kept_shapes [] ts = []
    kept_shapes (o ∷ os) [] = []
    kept_shapes (o ∷ os) (p ∷ ps) = kept_one o p ∷ kept_shapes os ps

    kept_long : (os ps : Shapes) → length os ≡ length ps → length (kept_shapes os ps) ≡ length ps
    kept_long [] ps e = e
    kept_long (o ∷ os) [] e = absurd (cc e)
    kept_long (o ∷ os) (p ∷ ps) e = ap suc (kept_long os ps (omega (arith, e)))

    kept_there : (os ps : Shapes) (n : ℕ) (s t : Shape) → shape_at os n ≡ Some s → shape_at ps n ≡ Some t →
        shape_at (kept_shapes os ps) n ≡ Some (turned t)
    kept_there [] ps n s t e h = absurd (cc e)
    kept_there (o ∷ os) [] n s t e h = absurd (cc h)
    kept_there (o ∷ os) (p ∷ ps) zero s t e h = ap (λ o. kept_one o p) e ∙ ap (kept_one (Some s)) h
    kept_there (o ∷ os) (p ∷ ps) (suc n) s t e h = kept_there os ps n s t e h

    abbrev From : Option Shape → Option Shape → Shape → Type 0
    From o p u = (s : Shape) × (t : Shape) × (o ≡ Some s) × (p ≡ Some t) × (u ≡ turned t)

    one_from : (o p : Option Shape) (u : Shape) → kept_one o p ≡ Some u → From o p u
    one_from None p u e = absurd (cc e)
    one_from (Some s) None u e = absurd (cc e)
    one_from (Some s) (Some t) u e = (s, t, refl, refl, cc (sym e))

    kept_from : (os ps : Shapes) (n : ℕ) (u : Shape) → shape_at (kept_shapes os ps) n ≡ Some u → From (shape_at os n) (shape_at ps n) u
    kept_from [] ps n u e = absurd (cc e)
    kept_from (o ∷ os) [] n u e = absurd (cc e)
    kept_from (o ∷ os) (p ∷ ps) zero u e = one_from o p u e
    kept_from (o ∷ os) (p ∷ ps) (suc n) u e = kept_from os ps n u e

    has_kept : (now : Shapes) (flow d r : Flow) → taken.Sound code read sh marks → Three flow d r → Has sh d → Met now flow →
        Has (kept_shapes now sh) r
    has_kept now refused d r sound x h m = absurd x
    has_kept now ends d r sound x h m = subst (Has (kept_shapes now sh)) (sym x.1) tt
    has_kept now (leads n s) d r sound (t, is, as_is, on) h m =
        let there : shape_at sh n ≡ Some t = subst (Has sh) is h in
        subst (Has (kept_shapes now sh)) (sym (on sound)) (kept_there now sh n m.0 t m.1 there)
    has_kept now (both a b) d r sound (d1, d2, r1, r2, is, r_is, x, y) h m =
        let h1 : Has sh d1 × Has sh d2 = subst (Has sh) is h in
        subst (Has (kept_shapes now sh)) (sym r_is)
        (has_kept now a d1 r1 sound x h1.0 m.0, has_kept now b d2 r2 sound y h1.1 m.1)
    has_kept now (takes p a) d r sound (group_is, inside, x) h m = has_kept now a d r sound (x m.0) h m.1

    none_left : (n : ℕ) (A : Type 0) → Among n [] ⊎ A → A
    none_left n A (inl h) = absurd h
    none_left n A (inr h) = h

    ends_turned : (m : ℕ) (t : Shape) → ends_with m t ≡ true → ends_with m (turned t) ≡ true
    ends_turned m t e =
        let z = both_true (is_closed t) (are (Some m) t.part.operands) e in
        let a : is_closed (turned t) ≡ true = taken.closed_turned code read sh marks t ∙ z.0 in
        let b : are (Some m) (turned t).part.operands ≡ true = taken.are_turned code read sh marks (Some m) t.part.operands ∙ z.1 in
        rw (a, b) refl

    -- What was met when all is looked at.
    kept_fit : (f : Seen) → Ready [] f → ((k : ℕ) (e : ℕ × Shape) → slice_get (all_seeds code) k ≡ Some e → HasShape f.shapes e.0) →
        taken.Sound code read sh marks → Fits by_marks code (all_seeds code) (kept_shapes f.shapes sh)
    kept_fit f ready begun sound = record {
      long = kept_long f.shapes sh ready.kept.long ∙ fits.long;
      starts = λ k e q.
          let m = plain_at (all_seeds code) k e ((0, refl), all_plain None code) q in
          let same : turned e.1 ≡ e.1 = subst (λ s. turned s ≡ s) (sym m.1) (sym (entry_turned m.0)) in
          let h = begun k e q in
          kept_there f.shapes sh e.0 h.0 e.1 h.1 (fits.starts k e q) ∙ ap (λ x. Some x) same;
      steps = λ n x u at there.
          let k = kept_from f.shapes sh n u there in
          let done : Done f.shapes n (slice_get code n) k.0 =
          none_left n (Done f.shapes n (slice_get code n) k.0) (ready.fit n k.0 k.2) in
          let met : Met f.shapes (flow_of (site_of ask_openly code n) x k.0) = subst (λ o. Done f.shapes n o k.0) at done in
          let known = ready.kept.known n k.0 k.2 in
          let same : known.0 ≡ k.1 = cc (sym known.1 ∙ k.3) in
          let as_is : As k.0 k.1 = subst (As k.0) same known.2 in
          subst (λ u. Has (kept_shapes f.shapes sh) (flow_of (site_of by_marks code n) x u)) (sym k.4)
          (has_kept f.shapes (flow_of (site_of ask_openly code n) x k.0) (flow_of (site_of (ask read returned true form) code n) x k.1)
          (flow_of (site_of by_marks code n) x (turned k.1)) sound (flow_here n x k.0 k.1 at k.3 as_is) (fits.steps n x k.1 at k.3) met);
      last = λ n u at there.
          let k = kept_from f.shapes sh n u there in
          let l = fits.last n k.1 at k.3 in
          (l.0, subst (λ u. ends_with (left_by form) u ≡ true) (sym k.4) (ends_turned (left_by form) k.1 l.1));
    }

  -- ---------------------------------------------------------------- all of it
  abbrev nothing_seen : Seen
  nothing_seen = record { shapes = no_shapes code; work = []; groups = no_groups code }

  discovered : (read : Readings) (form : Form) (returned : Option ℕ) (sh : Shapes) →
      ((n : ℕ) → (read n ≡ readings.Value) ⊎ (read n ≡ readings.Group)) →
      ((n : ℕ) (t : Shape) → read n ≡ readings.Group → shape_at sh n ≡ Some t → t.part.operands ≡ []) →
      ((n : ℕ) (t : Shape) (k : Kind) (ks : List Kind) → slice_get code n ≡ Some i.Swap →
      in_row (site_of (ask read returned true form) code n) ≡ true → shape_at sh n ≡ Some t → t.part.operands ≡ k ∷ value ∷ ks → ⊥) →
      Fits (ask read returned true form) code (all_seeds code) sh →
      HasSome (ask (read_groups (groups_in code)) returned true form) code (all_seeds code)
  discovered read form returned sh settled bottom never fits =
      let marks = groups_in code in
      let nothing_yet : Going read form returned sh settled bottom never fits marks nothing_seen = record {
        kept = record {
          known = λ n s e. absurd (no_shape_at code n s e);
          long = sym fits.long;
          size = no_marks_long code;
          grouped = λ p e. absurd (no_mark code p e);
        };
        fresh = λ n s e. absurd (no_shape_at code n s e);
        met = λ n a. absurd a;
        enough = omega (arith, all_unmet code);
      } in
      let begin = all_noted read form returned sh settled bottom never fits marks (all_seeds code) nothing_seen ((0, refl), all_plain None code)
      fits.starts nothing_yet in
      let f = noted code (all_seeds code) nothing_seen in
      let ready : Ready read form returned sh settled bottom never fits marks f.work f =
      record { kept = begin.going.kept; met = begin.going.met; fit = λ n s e. inl (begin.going.fresh n s e) } in
      let steps = length (no_shapes code) in
      let end = wandered read form returned sh settled bottom never fits marks steps f.work f (omega (arith, begin.going.enough)) ready
      (λ p e. ap mark_of e) in
      let g = wander steps f.work f in
      let sound : taken.Sound code read sh marks = λ p e. end.0.kept.grouped p (is_marked (slice_get marks p) e) in (
        kept_shapes read form returned sh settled bottom never fits marks g.shapes sh,
        kept_fit read form returned sh settled bottom never fits marks g end.0
            (λ k e q. let h = begin.there k e q in (h.0, end.1 e.0 h.0 h.1)) sound,
      )

pub takes_fit : (code : List Instruction) (read : Readings) (form : Form) (sh : Shapes) →
    ((n : ℕ) → (read n ≡ readings.Value) ⊎ (read n ≡ readings.Group)) →
    ((n : ℕ) (t : Shape) → read n ≡ readings.Group → shape_at sh n ≡ Some t → t.part.operands ≡ []) →
    ((n : ℕ) (t : Shape) (k : Kind) (ks : List Kind) → slice_get code n ≡ Some i.Swap → in_row (site_of (ask_all read form) code n) ≡ true →
    shape_at sh n ≡ Some t → t.part.operands ≡ k ∷ value ∷ ks → ⊥) → Fits (ask_all read form) code (all_seeds code) sh →
    HasSome (ask_all (read_groups (groups_in code)) form) code (all_seeds code)
takes_fit code read forms.Template sh settled bottom never fits =
    discovered code read forms.Template (Some 0) sh settled bottom never fits
takes_fit code read forms.Expression sh settled bottom never fits =
    discovered code read forms.Expression None sh settled bottom never fits

pub takes_found : (code : List Instruction) (read : Readings) (form : Form) (sh : Shapes) →
    ((n : ℕ) → (read n ≡ readings.Value) ⊎ (read n ≡ readings.Group)) →
    ((n : ℕ) (t : Shape) → read n ≡ readings.Group → shape_at sh n ≡ Some t → t.part.operands ≡ []) →
    ((n : ℕ) (t : Shape) (k : Kind) (ks : List Kind) → slice_get code n ≡ Some i.Swap → in_row (site_of (ask_all read form) code n) ≡ true →
    shape_at sh n ≡ Some t → t.part.operands ≡ k ∷ value ∷ ks → ⊥) → Fits (ask_all read form) code (all_seeds code) sh →
    is_some (found (ask_all (read_groups (groups_in code)) form) code (all_seeds code)) ≡ true
takes_found code read form sh settled bottom never fits =
    some_found (ask_all (read_groups (groups_in code)) form) code (all_seeds code) (takes_fit code read form sh settled bottom never fits)
