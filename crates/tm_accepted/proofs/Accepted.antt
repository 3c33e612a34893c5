-- A stream that is accepted has shapes.
use Rattle.std.proofs.Common.{◌≡◌, ◌⊎◌, inl, inr, ℕ, zero, suc, ◌+◌, List, [], ◌∷◌, length, Option, Some, None, Bool, true, false, refl, sym, ap}
use Rattle.std.proofs.Common.{◌∙◌, subst, arith, eqb-true}
use Rattle.std.specs.Prelude.{slice_get, option_and_then, nat_eq, nat_lt, not, is_some, ◌&&◌, ◌||◌, ◌++◌, if◌then◌else◌}
use Rattle.std.proofs.lemmas.Slice.Eq.{bytes_eq-Decides}
use Rattle.std.proofs.lemmas.Bool.Decides.{nat_tests}
use Rattle.tm_trees.specs.Instructions.{Instruction, CaptureMode}
use Rattle.tm_trees.specs.Instructions.instructions as i
use Rattle.tm_syntax.specs.CacheNumbers.{no_cache, cache_count}
use Rattle.tm_trees.specs.Instructions.modes.{Capture, Discard}
use Rattle.tm_syntax.specs.Named.{same_name}
use Rattle.tm_shapes.specs.declared.kind.Kind.{Kind}
use Rattle.tm_shapes.specs.declared.kind.Kind.TheVariants.{Value as value, Zero as nothing, Group as group, Closure as closure, Names as names}
use Rattle.tm_shapes.specs.declared.kind.Kind.TheVariants.{Opened as opened, One as one}
use Rattle.tm_shapes.specs.declared.kind.Form.{Form}
use Rattle.tm_shapes.specs.declared.kind.Form.TheVariants as forms
use Rattle.tm_shapes.specs.declared.kind.Frame.{Frame}
use Rattle.tm_shapes.specs.declared.kind.Frame.TheVariants.{Scope as scope, Loop as loop}
use Rattle.tm_shapes.specs.Shapes.{Part, Shape, Shapes, first_shape}
use Rattle.tm_shapes.specs.Shapes.{entry_shape, shape_at}
use Rattle.tm_shapes.specs.Flows.{Flow, refused, ends, leads, both, takes, are, flow_of, is_closed}
use Rattle.tm_shapes.specs.Shaped.{Meets, HasCache, UsesCache, IsShaped}
use Rattle.tm_shapes.specs.Search.{Found, Has, search}
use Rattle.tm_shapes.specs.declared.before.Before.TheVariants as befores
use Rattle.tm_shapes.specs.Placed.{Numbered, agrees, caches_fit, filter_of, filters_in, is_placed, parts_fit, targets_within, test_of, tests_in}
use Rattle.tm_shapes.specs.Accepts.{Asked, Fits, HasSome, MeetsRules, Readings, ReturnsFit, Seeds, accepts, all_seeds, all_values, ask_all, ask_some}
use Rattle.tm_shapes.specs.Accepts.{begun, ends_with, entry_seeds, fits, fits_as_taken, found, groups_in, has_zero, no_shapes, nothing_found}
use Rattle.tm_shapes.specs.Accepts.{same_frames, same_kind, same_kinds, same_mode, same_modes, same_part, same_parts, same_place, same_shape, site_of}
use Rattle.tm_shapes.specs.Accepts.{read_groups, reaching, returns_fit, start_seed}
use Rattle.tm_accepted.proofs.Readings.{to_there}
use Rattle.tm_accepted.proofs.Begins.{entry_begins}
use Rattle.tm_accepted.proofs.Finds as finds

-- ---------------------------------------------------------------- both of two tests
pub both_true : (a b : Bool) → (a && b) ≡ true → (a ≡ true) × (b ≡ true)
both_true true b e = (refl, e)
both_true false b e = absurd (cc e)

-- ---------------------------------------------------------------- shapes that are the same
place_is : (o p : Option ℕ) → same_place o p ≡ true → o ≡ p
place_is None None e = refl
place_is None (Some n) e = absurd (cc e)
place_is (Some n) None e = absurd (cc e)
place_is (Some n) (Some m) e = ap (λ x. Some x) (eqb-true n m e)

kind_is : (j k : Kind) → same_kind j k ≡ true → j ≡ k
kind_is value value e = refl
kind_is (nothing p) (nothing q) e = ap nothing (eqb-true p q e)
kind_is (group o) (group p) e = ap group (place_is o p e)
kind_is closure closure e = refl
kind_is (names n) (names m) e = ap names (eqb-true n m e)
kind_is (opened o) (opened p) e = ap opened (place_is o p e)
kind_is one one e = refl
kind_is j k e = absurd (cc e)

kinds_are : (js ks : List Kind) → same_kinds js ks ≡ true → js ≡ ks
kinds_are [] [] e = refl
kinds_are [] (k ∷ ks) e = absurd (cc e)
kinds_are (j ∷ js) [] e = absurd (cc e)
kinds_are (j ∷ js) (k ∷ ks) e =
    let h = both_true (same_kind j k) (same_kinds js ks) e in
    ap (λ x. x ∷ js) (kind_is j k h.0) ∙ ap (λ xs. k ∷ xs) (kinds_are js ks h.1)

mode_is : (a b : CaptureMode) → same_mode a b ≡ true → a ≡ b
mode_is Capture Capture e = refl
mode_is Discard Discard e = refl
mode_is Capture Discard e = absurd (cc e)
mode_is Discard Capture e = absurd (cc e)

frames_are : (fs gs : List Frame) → same_frames fs gs ≡ true → fs ≡ gs
frames_are [] [] e = refl
frames_are [] (g ∷ gs) e = absurd (cc e)
frames_are (scope ∷ fs) [] e = absurd (cc e)
frames_are (loop a b c ∷ fs) [] e = absurd (cc e)
frames_are (scope ∷ fs) (scope ∷ gs) e = ap (λ xs. scope ∷ xs) (frames_are fs gs e)
frames_are (scope ∷ fs) (loop l m n ∷ gs) e = absurd (cc e)
frames_are (loop a b c ∷ fs) (scope ∷ gs) e = absurd (cc e)
frames_are (loop a b c ∷ fs) (loop l m n ∷ gs) e =
    let h = both_true (nat_eq a l && nat_eq b m && nat_eq c n) (same_frames fs gs) e in
    let j = both_true (nat_eq a l && nat_eq b m) (nat_eq c n) h.0 in
    let k = both_true (nat_eq a l) (nat_eq b m) j.0 in
    ap (λ x. loop x b c ∷ fs) (eqb-true a l k.0) ∙ ap (λ x. loop l x c ∷ fs) (eqb-true b m k.1)
    ∙ ap (λ x. loop l m x ∷ fs) (eqb-true c n j.1) ∙ ap (λ xs. loop l m n ∷ xs) (frames_are fs gs h.1)

modes_are : (xs ys : List CaptureMode) → same_modes xs ys ≡ true → xs ≡ ys
modes_are [] [] e = refl
modes_are [] (y ∷ ys) e = absurd (cc e)
modes_are (x ∷ xs) [] e = absurd (cc e)
modes_are (x ∷ xs) (y ∷ ys) e =
    let h = both_true (same_mode x y) (same_modes xs ys) e in
    ap (λ z. z ∷ xs) (mode_is x y h.0) ∙ ap (λ zs. y ∷ zs) (modes_are xs ys h.1)

part_is : (p q : Part) → same_part p q ≡ true → p ≡ q
part_is p q e =
    let h = both_true (same_kinds p.operands q.operands && same_frames p.frames q.frames && same_modes p.captures q.captures)
    (nat_eq p.escapes q.escapes) e in
    let k = both_true (same_kinds p.operands q.operands && same_frames p.frames q.frames) (same_modes p.captures q.captures) h.0 in
    let l = both_true (same_kinds p.operands q.operands) (same_frames p.frames q.frames) k.0 in
    let a : Part = record p { operands = q.operands } in
    let b : Part = record a { frames = q.frames } in
    ap (λ x. record p { operands = x }) (kinds_are p.operands q.operands l.0)
    ∙ ap (λ x. record a { frames = x }) (frames_are p.frames q.frames l.1)
    ∙ ap (λ x. record b { captures = x }) (modes_are p.captures q.captures k.1)
    ∙ ap (λ x. record b { captures = q.captures; escapes = x }) (eqb-true p.escapes q.escapes h.1)

parts_are : (ps qs : List Part) → same_parts ps qs ≡ true → ps ≡ qs
parts_are [] [] e = refl
parts_are [] (q ∷ qs) e = absurd (cc e)
parts_are (p ∷ ps) [] e = absurd (cc e)
parts_are (p ∷ ps) (q ∷ qs) e =
    let h = both_true (same_part p q) (same_parts ps qs) e in
    ap (λ x. x ∷ ps) (part_is p q h.0) ∙ ap (λ xs. q ∷ xs) (parts_are ps qs h.1)

pub shape_is : (s t : Shape) → same_shape s t ≡ true → s ≡ t
shape_is s t e =
    let h = both_true (same_part s.part t.part) (same_parts s.below t.below) e in
    ap (λ x. record s { part = x }) (part_is s.part t.part h.0)
    ∙ ap (λ xs. record { part = t.part; below = xs }) (parts_are s.below t.below h.1)

number_same : (n : ℕ) → nat_eq n n ≡ true
number_same n = grind (arith, nat_tests)

place_same : (o : Option ℕ) → same_place o o ≡ true
place_same None = refl
place_same (Some n) = number_same n

kind_same : (k : Kind) → same_kind k k ≡ true
kind_same value = refl
kind_same (nothing p) = number_same p
kind_same (group o) = place_same o
kind_same closure = refl
kind_same (names n) = number_same n
kind_same (opened o) = place_same o
kind_same one = refl

kinds_same : (ks : List Kind) → same_kinds ks ks ≡ true
kinds_same [] = refl
kinds_same (k ∷ ks) = rw (kind_same k) (kinds_same ks)

frames_same : (fs : List Frame) → same_frames fs fs ≡ true
frames_same [] = refl
frames_same (scope ∷ fs) = frames_same fs
frames_same (loop a b c ∷ fs) = rw (number_same a, number_same b, number_same c) (frames_same fs)

mode_same : (m : CaptureMode) → same_mode m m ≡ true
mode_same Capture = refl
mode_same Discard = refl

modes_same : (ms : List CaptureMode) → same_modes ms ms ≡ true
modes_same [] = refl
modes_same (m ∷ ms) = rw (mode_same m) (modes_same ms)

part_itself : (p : Part) → same_part p p ≡ true
part_itself p = rw (kinds_same p.operands, frames_same p.frames, modes_same p.captures, number_same p.escapes) refl

parts_same : (ps : List Part) → same_parts ps ps ≡ true
parts_same [] = refl
parts_same (p ∷ ps) = rw (part_itself p) (parts_same ps)

pub is_shape : (s : Shape) → same_shape s s ≡ true
is_shape s = rw (part_itself s.part, parts_same s.below) refl

-- ---------------------------------------------------------------- cache numbers
-- the first name of a number
abbrev pub name_at : Numbered → ℕ → List ℕ
name_at [] k = []
name_at (u ∷ more) k = if nat_eq u.1 k then u.0 else name_at more k

abbrev In : List ℕ × ℕ → Numbered → Type 0
In u [] = ⊥
In u (v ∷ more) = (u ≡ v) ⊎ In u more

in_right : (u : List ℕ × ℕ) (us vs : Numbered) → In u vs → In u (us ++ vs)
in_right u [] vs h = h
in_right u (v ∷ us) vs h = inr (in_right u us vs h)

in_filters : (code : List Instruction) (n : ℕ) (x : List ℕ) (m : Option ℕ) (k : ℕ) → slice_get code n ≡ Some (i.ApplyFilter x m k) →
    In (x, k) (filters_in code)
in_filters [] n x m k e = absurd (cc e)
in_filters (y ∷ more) zero x m k e =
    let is : y ≡ i.ApplyFilter x m k = cc e in
    subst (λ z. In (x, k) (filter_of z ++ filters_in more)) (sym is) (inl refl)
in_filters (y ∷ more) (suc n) x m k e = in_right (x, k) (filter_of y) (filters_in more) (in_filters more n x m k e)

in_tests : (code : List Instruction) (n : ℕ) (x : List ℕ) (m : Option ℕ) (k : ℕ) → slice_get code n ≡ Some (i.PerformTest x m k) →
    In (x, k) (tests_in code)
in_tests [] n x m k e = absurd (cc e)
in_tests (y ∷ more) zero x m k e =
    let is : y ≡ i.PerformTest x m k = cc e in
    subst (λ z. In (x, k) (test_of z ++ tests_in more)) (sym is) (inl refl)
in_tests (y ∷ more) (suc n) x m k e = in_right (x, k) (test_of y) (tests_in more) (in_tests more n x m k e)

agree_is : (x : List ℕ) (k : ℕ) (us : Numbered) (u : List ℕ × ℕ) → agrees x k us ≡ true → In u us → u.1 ≡ k → u.0 ≡ x
agree_is x k [] u e h is = absurd h
agree_is x k (v ∷ more) u e (inl here) is =
    let there : v.1 ≡ k = ap (λ (w : List ℕ × ℕ). w.1) (sym here) ∙ is in
    let same : nat_eq v.1 k ≡ true = subst (λ n. nat_eq n k ≡ true) (sym there) (number_same k) in
    let either = (both_true (not (nat_eq v.1 k) || same_name v.0 x) (agrees x k more) e).0 in
    let named : same_name v.0 x ≡ true = subst (λ t. (not t || same_name v.0 x) ≡ true) same either in
    ap (λ (w : List ℕ × ℕ). w.0) here ∙ (bytes_eq-Decides v.0 x).0 named
agree_is x k (v ∷ more) u e (inr h) is =
    agree_is x k more u (both_true (not (nat_eq v.1 k) || same_name v.0 x) (agrees x k more) e).1 h is

-- the first one, by whether it has a cache
first_cache : (v : List ℕ × ℕ) (more : Numbered) (none : Bool) → nat_eq v.1 no_cache ≡ none →
    (none || (nat_lt v.1 cache_count && agrees v.0 v.1 more)) ≡ true → HasCache (name_at (v ∷ more)) v.0 v.1
first_cache v more true e h = inl (eqb-true v.1 no_cache e)
first_cache v more false e h =
    inr ((both_true (nat_lt v.1 cache_count) (agrees v.0 v.1 more) h).0, rw (number_same v.1) refl)

-- a later one, by whether the first has its number, and a cache
later_named : (v u : List ℕ × ℕ) (more : Numbered) (same : Bool) → nat_eq v.1 u.1 ≡ same → name_at more u.1 ≡ u.0 →
    (v.1 ≡ u.1 → v.0 ≡ u.0) → (if same then v.0 else name_at more u.1) ≡ u.0
later_named v u more true e h k = k (eqb-true v.1 u.1 e)
later_named v u more false e h k = h

later_cache : (v u : List ℕ × ℕ) (more : Numbered) (none : Bool) → nat_eq v.1 no_cache ≡ none →
    (none || (nat_lt v.1 cache_count && agrees v.0 v.1 more)) ≡ true → In u more → HasCache (name_at more) u.0 u.1 →
    HasCache (name_at (v ∷ more)) u.0 u.1
later_cache v u more none e h at (inl is) = inl is
later_cache v u more false e h at (inr (less, is)) =
    let agree = (both_true (nat_lt v.1 cache_count) (agrees v.0 v.1 more) h).1 in
    inr (less, later_named v u more (nat_eq v.1 u.1) refl is (λ same. sym (agree_is v.0 v.1 more u agree at (sym same))))
later_cache v u more true e h at (inr (less, is)) =
    later_none v u more (nat_eq v.1 u.1) refl (eqb-true v.1 no_cache e) less is
  where
    later_none : (v u : List ℕ × ℕ) (more : Numbered) (same : Bool) → nat_eq v.1 u.1 ≡ same → v.1 ≡ no_cache →
        nat_lt u.1 cache_count ≡ true → name_at more u.1 ≡ u.0 → HasCache (name_at (v ∷ more)) u.0 u.1
    later_none v u more true e none less is = inl (sym (eqb-true v.1 u.1 e) ∙ none)
    later_none v u more false e none less is = inr (less, rw e is)

has_cache : (us : Numbered) (u : List ℕ × ℕ) → caches_fit us ≡ true → In u us → HasCache (name_at us) u.0 u.1
has_cache [] u e h = absurd h
has_cache (v ∷ more) u e (inl here) =
    let a = (both_true (nat_eq v.1 no_cache || (nat_lt v.1 cache_count && agrees v.0 v.1 more)) (caches_fit more) e).0 in
    subst (λ (w : List ℕ × ℕ). HasCache (name_at (v ∷ more)) w.0 w.1) (sym here) (first_cache v more (nat_eq v.1 no_cache) refl a)
has_cache (v ∷ more) u e (inr h) =
    let a = both_true (nat_eq v.1 no_cache || (nat_lt v.1 cache_count && agrees v.0 v.1 more)) (caches_fit more) e in
    later_cache v u more (nat_eq v.1 no_cache) refl a.0 h (has_cache more u a.1 h)

-- ---------------------------------------------------------------- what is found
some_is : (o : Option Shapes) (out : Shapes) → o ≡ Some out → is_some o ≡ true
some_is (Some d) out e = refl
some_is None out e = absurd (cc e)

found_is : (o : Option Shapes) → is_some o ≡ true → (out : Shapes) × (o ≡ Some out)
found_is None e = absurd (cc e)
found_is (Some out) e = (out, refl)

then_some : (o : Option Found) (f : Found) (on : Found → Option Shapes) (out : Shapes) → o ≡ Some f → on f ≡ Some out →
    is_some (option_and_then on o) ≡ true
then_some None f on out e h = absurd (cc e)
then_some (Some g) f on out e h = let one : g ≡ f = cc e in some_is (on g) out (ap on one ∙ h)

first_is : (o : Option Found) (on : Found → Option Shapes) (out : Shapes) → option_and_then on o ≡ Some out →
    (f : Found) × (o ≡ Some f) × (on f ≡ Some out)
first_is None on out e = absurd (cc e)
first_is (Some f) on out e = (f, refl, e)

pub no_shape_at : (xs : List Instruction) (n : ℕ) (s : Shape) → shape_at (no_shapes xs) n ≡ Some s → ⊥
no_shape_at [] zero s e = cc e
no_shape_at [] (suc n) s e = cc e
no_shape_at (x ∷ xs) zero s e = cc e
no_shape_at (x ∷ xs) (suc n) s e = no_shape_at xs n s e

has_meets : (shapes : Shapes) (flow : Flow) → Has shapes flow → Meets shapes flow
has_meets shapes refused h = h
has_meets shapes ends h = tt
has_meets shapes (leads n s) h = to_there shapes n s h
has_meets shapes (both a b) h = (has_meets shapes a h.0, has_meets shapes b h.1)
has_meets shapes (takes p a) h = has_meets shapes a h

module _ (a : Asked) (code : List Instruction) where
  abbrev Followed : Flow → Found → Found → Type 0
  Followed flow f g = finds.Followed same_shape shape_is is_shape code (site_of a code) (ends_with a.left) flow f g

  abbrev Among : ℕ → List ℕ → Type 0
  Among n work = finds.Among n work

  -- what has a shape is to be looked at
  abbrev AllFresh : Found → Type 0
  AllFresh f = (n : ℕ) (s : Shape) → shape_at f.shapes n ≡ Some s → Among n f.work

  reached : (n : ℕ) (s : Shape) (f g : Found) → reaching a code n s f ≡ Some g → Followed (leads n s) f g
  reached n s f g e =
      finds.reach_followed same_shape shape_is is_shape code (site_of a code) (ends_with a.left) n s f g (slice_get f.shapes n) refl e

  fresh_by : (f g : Found) (m : ℕ) (t : Shape) → AllFresh f → ((k : ℕ) → Among k f.work → Among k g.work) →
      (shape_at f.shapes m ≡ Some t) ⊎ Among m g.work → Among m g.work
  fresh_by f g m t fresh keeps (inl old) = keeps m (fresh m t old)
  fresh_by f g m t fresh keeps (inr a) = a

  fresh_after : (flow : Flow) (f g : Found) → Followed flow f g → AllFresh f → AllFresh g
  fresh_after flow f g x fresh m t e = fresh_by f g m t fresh x.keeps (x.fresh m t e)

  -- after the seeds: they have their shapes, and all that has one is to be looked at
  record Started (es : Seeds) (f g : Found) : Type 0 where
    fresh : AllFresh g
    grows : (n : ℕ) (s : Shape) → shape_at f.shapes n ≡ Some s → shape_at g.shapes n ≡ Some s
    there : (k : ℕ) (e : ℕ × Shape) → slice_get es k ≡ Some e → shape_at g.shapes e.0 ≡ Some e.1

  seed_there : (e : ℕ × Shape) (es : Seeds) (h g : Found) → shape_at h.shapes e.0 ≡ Some e.1 → Started es h g →
      (k : ℕ) (d : ℕ × Shape) → slice_get (e ∷ es) k ≡ Some d → shape_at g.shapes d.0 ≡ Some d.1
  seed_there e es h g at more zero d is =
      let same : e ≡ d = cc is in
      subst (λ (d : ℕ × Shape). shape_at g.shapes d.0 ≡ Some d.1) same (more.grows e.0 e.1 at)
  seed_there e es h g at more (suc k) d is = more.there k d is

  started_by : (e : ℕ × Shape) (es : Seeds) (f g : Found) (o : Option Found) → reaching a code e.0 e.1 f ≡ o →
      option_and_then (begun a code es) o ≡ Some g → AllFresh f →
      ((h : Found) → begun a code es h ≡ Some g → AllFresh h → Started es h g) → Started (e ∷ es) f g
  started_by e es f g None at is fresh k = absurd (cc is)
  started_by e es f g (Some h) at is fresh k =
      let x = reached e.0 e.1 f h at in
      let more = k h is (fresh_after (leads e.0 e.1) f h x fresh) in
      record {
        fresh = more.fresh;
        grows = λ n s q. more.grows n s (x.grows n s q);
        there = seed_there e es h g x.meets more;
      }

  started : (es : Seeds) (f g : Found) → begun a code es f ≡ Some g → AllFresh f → Started es f g
  started [] f g is fresh =
      let same : f ≡ g = cc is in
      subst (Started [] f) same (record { fresh = fresh; grows = λ n s e. e; there = λ k e q. absurd (cc q) })
  started (e ∷ es) f g is fresh =
      started_by e es f g (reaching a code e.0 e.1 f) refl is fresh (λ h q new. started es h g q new)

  -- ---------------------------------------------------------------- what is found meets the rules
  last_is : (n : ℕ) (s : Shape) → (nat_eq n (length code) && ends_with a.left s) ≡ true → (n ≡ length code) × (ends_with a.left s ≡ true)
  last_is n s e =
      let h = both_true (nat_eq n (length code)) (ends_with a.left s) e in
      (eqb-true n (length code) h.0, h.1)

  fits_last : (shapes : Shapes) (n : ℕ) (o : Option Instruction) (s : Shape) → slice_get code n ≡ o → o ≡ None →
      finds.Fits same_shape shape_is is_shape code (site_of a code) (ends_with a.left) shapes n o s →
      (n ≡ length code) × (ends_with a.left s ≡ true)
  fits_last shapes n None s at none h = last_is n s h
  fits_last shapes n (Some x) s at none h = absurd (cc none)

  pub record Laid (seeds : Seeds) (shapes : Shapes) : Type 0 where
    pub starts : (k : ℕ) (e : ℕ × Shape) → slice_get seeds k ≡ Some e → shape_at shapes e.0 ≡ Some e.1
    pub steps : (n : ℕ) (x : Instruction) (s : Shape) → slice_get code n ≡ Some x → shape_at shapes n ≡ Some s →
        Has shapes (flow_of (site_of a code n) x s)
    pub last : (n : ℕ) (s : Shape) → slice_get code n ≡ None → shape_at shapes n ≡ Some s → (n ≡ length code) × (ends_with a.left s ≡ true)

  pub found_laid : (seeds : Seeds) (out : Shapes) → found a code seeds ≡ Some out → Laid seeds out
  found_laid seeds out e =
      let first = first_is (begun a code seeds (nothing_found code)) _ out e in
      let f = first.0 in
      let begin = started seeds (nothing_found code) f first.1 (λ n s q. absurd (no_shape_at code n s q)) in
      let steps = length (no_shapes code) in
      let fit = finds.search_fits same_shape shape_is is_shape code (site_of a code) (ends_with a.left) steps f.work f.shapes out first.2
      (λ n s q. inl (begin.fresh n s q)) in
      let grows = finds.search_grows same_shape shape_is is_shape code (site_of a code) (ends_with a.left) steps f.work f.shapes out first.2 in
      record {
        starts = λ k e q. grows e.0 e.1 (begin.there k e q);
        steps = λ n x s at there. subst (λ o. finds.Fits same_shape shape_is is_shape code (site_of a code) (ends_with a.left) out n o s) at
            (fit n s there);
        last = λ n s at there. fits_last out n (slice_get code n) s refl at (fit n s there);
      }

  -- ---------------------------------------------------------------- where shapes meet the rules some are found
  unmet_all : (xs : List Instruction) →
      finds.unmet (no_shapes xs) ≡ length (no_shapes xs)
  unmet_all [] = refl
  unmet_all (x ∷ xs) = ap suc (unmet_all xs)

  module _ (seeds : Seeds) (d : Shapes) (fits : Fits a code seeds d) where
    fits_by : (n : ℕ) (s : Shape) (o : Option Instruction) → slice_get code n ≡ o → shape_at d n ≡ Some s →
        finds.Fits same_shape shape_is is_shape code (site_of a code) (ends_with a.left) d n o s
    fits_by n s (Some x) at there = fits.steps n x s at there
    fits_by n s None at there =
        let l = fits.last n s at there in
        let here : nat_eq n (length code) ≡ true = grind (arith, nat_tests, l.0) in
        rw (here, l.1) refl

    all_fit : finds.AllFit same_shape shape_is is_shape code (site_of a code) (ends_with a.left) d
    all_fit n s there = fits_by n s (slice_get code n) refl there

    -- so far all agrees with these shapes, and the steps are enough
    record Going (f : Found) : Type 0 where
      agrees : (n : ℕ) (s : Shape) → shape_at f.shapes n ≡ Some s → shape_at d n ≡ Some s
      long : length f.shapes ≡ length d
      met : (n : ℕ) → Among n f.work → (s : Shape) × (shape_at f.shapes n ≡ Some s)
      enough : finds.unmet f.shapes + length f.work
          ≡ length (no_shapes code)

    met_by : (f g : Found) (m : ℕ) → Going f → ((n : ℕ) (s : Shape) → shape_at f.shapes n ≡ Some s → shape_at g.shapes n ≡ Some s) →
        Among m f.work ⊎ ((s : Shape) × (shape_at g.shapes m ≡ Some s)) → (s : Shape) × (shape_at g.shapes m ≡ Some s)
    met_by f g m going grows (inl a) = let s = going.met m a in (s.0, grows m s.0 s.1)
    met_by f g m going grows (inr s) = s

    reach_by : (n : ℕ) (s : Shape) (f : Found) (o : Option Found) → reaching a code n s f ≡ o →
        finds.Went same_shape shape_is is_shape code (site_of a code) (ends_with a.left) d all_fit o → Going f →
        (g : Found) × (reaching a code n s f ≡ Some g) × Going g
    reach_by n s f None at went going = absurd went
    reach_by n s f (Some g) at went going =
        let x = reached n s f g at in (
          g,
          at,
          record {
            agrees = went;
            long = x.long ∙ going.long;
            met = λ m a. met_by f g m going x.grows (x.added m a);
            enough = x.less ∙ going.enough;
          },
        )

    reach_on : (n : ℕ) (s : Shape) (f : Found) → shape_at d n ≡ Some s → Going f →
        (g : Found) × (reaching a code n s f ≡ Some g) × Going g
    reach_on n s f there going =
        let inside = finds.within d n s there in
        reach_by n s f (reaching a code n s f) refl
        (finds.reach_goes same_shape shape_is is_shape code (site_of a code) (ends_with a.left) d all_fit n s f (slice_get f.shapes n) refl there
        (omega (arith, going.long, inside)) going.agrees) going

    seeds_on : (es : Seeds) (f : Found) → ((k : ℕ) (e : ℕ × Shape) → slice_get es k ≡ Some e → shape_at d e.0 ≡ Some e.1) → Going f →
        (g : Found) × (begun a code es f ≡ Some g) × Going g
    seeds_on [] f there going = (f, refl, going)
    seeds_on (e ∷ es) f there going =
        let first = reach_on e.0 e.1 f (there 0 e refl) going in
        let more = seeds_on es first.0 (λ k e1 q. there (suc k) e1 q) first.2 in
        (more.0, ap (option_and_then (begun a code es)) first.1 ∙ more.1, more.2)

    pub is_found : is_some (found a code seeds) ≡ true
    is_found =
        let nothing_yet : Going (nothing_found code) = record {
          agrees = λ n s e. absurd (no_shape_at code n s e);
          long = sym fits.long;
          met = λ n a. absurd a;
          enough = omega (arith, unmet_all code);
        } in
        let all = seeds_on seeds (nothing_found code) fits.starts nothing_yet in
        let going = all.2 in
        let out = finds.search_goes same_shape shape_is is_shape code (site_of a code) (ends_with a.left) d all_fit (length (no_shapes code))
        all.0.work all.0.shapes (omega (arith, going.enough)) going.long going.met going.agrees in
        then_some (begun a code seeds (nothing_found code)) all.0
        (λ (f : Found). search same_shape code (site_of a code) (ends_with a.left) (length (no_shapes code)) f.work f.shapes) out.0 all.1 out.1

-- ---------------------------------------------------------------- what is accepted
uses : (code : List Instruction) → is_placed code ≡ true → (n : ℕ) (x : Instruction) → slice_get code n ≡ Some x →
    UsesCache (name_at (filters_in code)) (name_at (tests_in code)) x
uses code placed n (i.ApplyFilter x m k) e =
    let h = both_true (targets_within (length code) code && caches_fit (filters_in code) && caches_fit (tests_in code)) (parts_fit code 0 befores.Nothing code)
    placed in
    let fit = both_true (targets_within (length code) code && caches_fit (filters_in code)) (caches_fit (tests_in code)) h.0 in
    has_cache (filters_in code) (x, k) (both_true (targets_within (length code) code) (caches_fit (filters_in code)) fit.0).1
    (in_filters code n x m k e)
uses code placed n (i.PerformTest x m k) e =
    let h = both_true (targets_within (length code) code && caches_fit (filters_in code) && caches_fit (tests_in code)) (parts_fit code 0 befores.Nothing code)
    placed in
    let fit = both_true (targets_within (length code) code && caches_fit (filters_in code)) (caches_fit (tests_in code)) h.0 in
    has_cache (tests_in code) (x, k) fit.1 (in_tests code n x m k e)
uses code placed n x e = tt

all_shaped : (a : Asked) (code : List Instruction) → is_placed code ≡ true → is_some (found a code (all_seeds code)) ≡ true →
    (shapes : Shapes) × IsShaped code shapes
all_shaped a code placed e =
    let out = found_is (found a code (all_seeds code)) e in
    let h = found_laid a code (all_seeds code) out.0 out.1 in (
      out.0,
      record {
        start = to_there out.0 0 first_shape (h.starts 0 (0, first_shape) refl);
        steps = λ n x s at there. (site_of a code n, refl, has_meets out.0 (flow_of (site_of a code n) x s) (h.steps n x s at there));
        last = λ n s at there.
            let l = h.last n s at there in (l.0, (both_true (is_closed s) (are (Some a.left) s.part.operands) l.1).0);
        macros = λ k e q.
            let b = entry_begins code k e q in to_there out.0 e.0 (entry_shape e.1) (h.starts (suc b.0) (e.0, entry_shape e.1) b.1);
        filters = name_at (filters_in code);
        tests = name_at (tests_in code);
        caches = uses code placed;
      },
    )

fits_shaped : (read : Readings) (form : Form) (code : List Instruction) → is_placed code ≡ true → fits read form code ≡ true →
    (shapes : Shapes) × IsShaped code shapes
fits_shaped read form code placed e =
    all_shaped (ask_all read form) code placed
    (both_true (is_some (found (ask_all read form) code (all_seeds code))) (returns_fit read form code) e).0

either_shaped : (form : Form) (code : List Instruction) → is_placed code ≡ true → (b : Bool) → fits_as_taken form code ≡ b →
    (b || fits all_values form code) ≡ true → (shapes : Shapes) × IsShaped code shapes
either_shaped form code placed true e h =
    fits_shaped (read_groups (groups_in code)) form code placed
    (both_true (has_zero code) (fits (read_groups (groups_in code)) form code) e).1
either_shaped form code placed false e h = fits_shaped all_values form code placed h

pub shaped : (form : Form) (code : List Instruction) → accepts form code ≡ true → (shapes : Shapes) × IsShaped code shapes
shaped form code e =
    let h = both_true (is_placed code) (fits_as_taken form code || fits all_values form code) e in
    either_shaped form code h.0 (fits_as_taken form code) refl h.1

pub some_found : (a : Asked) (code : List Instruction) (seeds : Seeds) → HasSome a code seeds → is_some (found a code seeds) ≡ true
some_found a code seeds (shapes, fit) = is_found a code seeds shapes fit

pub returns_found : (read : Readings) (form : Form) (code : List Instruction) → ReturnsFit read form code → returns_fit read form code ≡ true
returns_found read forms.Template code h = refl
returns_found read forms.Expression code h =
    rw (some_found (ask_some read 1) code start_seed h.0, some_found (ask_some read 0) code (entry_seeds code) h.1) refl

pub rules_fit : (read : Readings) (form : Form) (code : List Instruction) → MeetsRules read form code → fits read form code ≡ true
rules_fit read form code h =
    rw (some_found (ask_all read form) code (all_seeds code) h.0, returns_found read form code h.1) refl

either_true : (a b : Bool) → b ≡ true → (a || b) ≡ true
either_true true b e = refl
either_true false b e = e

pub accepted : (form : Form) (code : List Instruction) → is_placed code ≡ true → MeetsRules all_values form code → accepts form code ≡ true
accepted form code placed h =
    rw placed (either_true (fits_as_taken form code) (fits all_values form code) (rules_fit all_values form code h))
