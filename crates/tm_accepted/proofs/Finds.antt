-- The search for shapes finds them where there are any, each place with one shape, and else refuses.
use Rattle.std.proofs.Common.{◌≡◌, ◌⊎◌, inl, inr, ℕ, zero, suc, ◌+◌, ◌≤◌, List, [], ◌∷◌, length, Option, Some, None, Bool, true, false}
use Rattle.std.proofs.Common.{refl, sym, ap, ◌∙◌, subst, arith}
use Rattle.std.specs.Prelude.{slice_get, option_and_then, nat_eq, ◌&&◌}
use Rattle.tm_trees.specs.Instructions.{Instruction}
use Rattle.tm_shapes.specs.Shapes.{Shape, Shapes, shape_at, itself}
use Rattle.tm_shapes.specs.Flows.{Flow, refused, ends, leads, both, takes, Site, flow_of}
use Rattle.tm_shapes.specs.Search.{Found, Has, put_shape}
use Rattle.tm_shapes.specs.Search as finder

-- ---------------------------------------------------------------- places and their shapes
abbrev pub Among : ℕ → List ℕ → Type 0
Among n [] = ⊥
Among n (m ∷ ms) = (n ≡ m) ⊎ Among n ms

abbrev pub Grows : Shapes → Shapes → Type 0
Grows old new = (n : ℕ) (s : Shape) → shape_at old n ≡ Some s → shape_at new n ≡ Some s

abbrev pub HasShape : Shapes → ℕ → Type 0
HasShape sh n = (s : Shape) × (shape_at sh n ≡ Some s)

pub put_there : (sh : Shapes) (n : ℕ) (s : Shape) → slice_get sh n ≡ Some None → shape_at (put_shape n s sh) n ≡ Some s
put_there [] n s e = absurd (cc e)
put_there (o ∷ sh) zero s e = refl
put_there (o ∷ sh) (suc n) s e = put_there sh n s e

one_on : (n m : ℕ) (s t : Shape) (A : Type 0) → ((m ≡ n) × (t ≡ s)) ⊎ A → ((suc m ≡ suc n) × (t ≡ s)) ⊎ A
one_on n m s t A (inl h) = inl (ap suc h.0, h.1)
one_on n m s t A (inr h) = inr h

-- a new shape stands at its place alone
pub put_is : (sh : Shapes) (n m : ℕ) (s t : Shape) → slice_get sh n ≡ Some None → shape_at (put_shape n s sh) m ≡ Some t →
    ((m ≡ n) × (t ≡ s)) ⊎ (shape_at sh m ≡ Some t)
put_is [] n m s t e h = absurd (cc h)
put_is (o ∷ sh) zero zero s t e h = inl (refl, sym (cc h))
put_is (o ∷ sh) zero (suc m) s t e h = inr h
put_is (o ∷ sh) (suc n) zero s t e h = inr h
put_is (o ∷ sh) (suc n) (suc m) s t e h = one_on n m s t (shape_at sh m ≡ Some t) (put_is sh n m s t e h)

pub put_grows : (sh : Shapes) (n : ℕ) (s : Shape) → slice_get sh n ≡ Some None → Grows sh (put_shape n s sh)
put_grows [] n s e m t h = absurd (cc h)
put_grows (o ∷ sh) zero s e zero t h = absurd (let x : o ≡ None = cc e in cc (sym h ∙ ap itself x))
put_grows (o ∷ sh) zero s e (suc m) t h = h
put_grows (o ∷ sh) (suc n) s e zero t h = h
put_grows (o ∷ sh) (suc n) s e (suc m) t h = put_grows sh n s e m t h

-- how many places have no shape
abbrev pub unmet : Shapes → ℕ
unmet [] = 0
unmet (None ∷ sh) = suc (unmet sh)
unmet (Some s ∷ sh) = unmet sh

pub put_open : (sh : Shapes) (n : ℕ) (s : Shape) → slice_get sh n ≡ Some None → suc (unmet (put_shape n s sh)) ≡ unmet sh
put_open [] n s e = absurd (cc e)
put_open (None ∷ sh) zero s e = refl
put_open (Some t ∷ sh) zero s e = absurd (cc e)
put_open (None ∷ sh) (suc n) s e = ap suc (put_open sh n s e)
put_open (Some t ∷ sh) (suc n) s e = put_open sh n s e

pub put_long : (sh : Shapes) (n : ℕ) (s : Shape) → length (put_shape n s sh) ≡ length sh
put_long [] n s = refl
put_long (o ∷ sh) zero s = refl
put_long (o ∷ sh) (suc n) s = ap suc (put_long sh n s)

pub past : {A : Type 0} (xs : List A) (n : ℕ) → slice_get xs n ≡ None → length xs ≤ n
past [] n e = omega arith
past (x ∷ xs) zero e = absurd (cc e)
past (x ∷ xs) (suc n) e = omega (arith, past xs n e)

pub within : (sh : Shapes) (n : ℕ) (s : Shape) → shape_at sh n ≡ Some s → suc n ≤ length sh
within [] n s e = absurd (cc e)
within (o ∷ sh) zero s e = omega arith
within (o ∷ sh) (suc n) s e = omega (arith, within sh n s e)

module _ (same : Shape → Shape → Bool) (same_is : (s t : Shape) → same s t ≡ true → s ≡ t) (is_same : (s : Shape) → same s s ≡ true)
    (code : List Instruction) (site : ℕ → Site) (ends_well : Shape → Bool) where
  abbrev met : Bool → Found → Option Found
  met b f = finder.met same code site ends_well b f

  abbrev reach_by : Option (Option Shape) → ℕ → Shape → Found → Option Found
  reach_by o n s f = finder.reach_by same code site ends_well o n s f

  abbrev reach : ℕ → Shape → Found → Option Found
  reach n s f = finder.reach same code site ends_well n s f

  abbrev follow : Flow → Found → Option Found
  follow flow f = finder.follow same code site ends_well flow f

  abbrev look_by : Option Instruction → ℕ → Option Shape → Found → Option Found
  look_by i n o f = finder.look_by same code site ends_well i n o f

  abbrev look : ℕ → Found → Option Found
  look n f = finder.look same code site ends_well n f

  abbrev search : ℕ → List ℕ → Shapes → Option Shapes
  search k work sh = finder.search same code site ends_well k work sh

  -- ---------------------------------------------------------------- what is found
  abbrev pub Met : Shapes → Flow → Type 0
  Met sh flow = Has sh flow

  -- what a place needs that has a shape
  abbrev pub Fits : Shapes → ℕ → Option Instruction → Shape → Type 0
  Fits sh n (Some x) s = Met sh (flow_of (site n) x s)
  Fits sh n None s = (nat_eq n (length code) && ends_well s) ≡ true

  abbrev pub AllFit : Shapes → Type 0
  AllFit sh = (n : ℕ) (s : Shape) → shape_at sh n ≡ Some s → Fits sh n (slice_get code n) s

  abbrev pub FitSoFar : Shapes → List ℕ → Type 0
  FitSoFar sh work = (n : ℕ) (s : Shape) → shape_at sh n ≡ Some s → Among n work ⊎ Fits sh n (slice_get code n) s

  met_grows : (old new : Shapes) → Grows old new → (f : Flow) → Met old f → Met new f
  met_grows old new g refused h = h
  met_grows old new g ends h = h
  met_grows old new g (leads n s) h = g n s h
  met_grows old new g (both a b) h = (met_grows old new g a h.0, met_grows old new g b h.1)
  met_grows old new g (takes p a) h = met_grows old new g a h

  fits_grow : (old new : Shapes) → Grows old new → (n : ℕ) (o : Option Instruction) (s : Shape) → Fits old n o s → Fits new n o s
  fits_grow old new g n (Some x) s h = met_grows old new g (flow_of (site n) x s) h
  fits_grow old new g n None s h = h

  -- ---------------------------------------------------------------- what following a flow does
  -- It has met the flow; what has a shape keeps it, and what has a new one is to be looked at.
  pub record Followed (flow : Flow) (f g : Found) : Type 0 where
    pub grows : Grows f.shapes g.shapes
    pub meets : Met g.shapes flow
    pub fresh : (n : ℕ) (s : Shape) → shape_at g.shapes n ≡ Some s → (shape_at f.shapes n ≡ Some s) ⊎ Among n g.work
    pub keeps : (n : ℕ) → Among n f.work → Among n g.work
    pub added : (n : ℕ) → Among n g.work → Among n f.work ⊎ HasShape g.shapes n
    pub less : unmet g.shapes + length g.work ≡ unmet f.shapes + length f.work
    pub long : length g.shapes ≡ length f.shapes

  same_followed : (flow : Flow) (f : Found) → Met f.shapes flow → Followed flow f f
  same_followed flow f h = record {
    grows = λ n s e. e;
    meets = h;
    fresh = λ n s e. inl e;
    keeps = λ n h. h;
    added = λ n h. inl h;
    less = refl;
    long = refl;
  }

  met_followed : (n : ℕ) (s t : Shape) (f g : Found) → slice_get f.shapes n ≡ Some (Some t) → (b : Bool) → same s t ≡ b → met b f ≡ Some g →
      Followed (leads n s) f g
  met_followed n s t f g at true e is =
      let one : f ≡ g = cc is in
      subst (Followed (leads n s) f) one (same_followed (leads n s) f (ap (option_and_then itself) at ∙ ap (λ x. Some x) (sym (same_is s t e))))
  met_followed n s t f g at false e is = absurd (cc is)

  fresh_by : (n : ℕ) (s : Shape) (f : Found) (m : ℕ) (t : Shape) → ((m ≡ n) × (t ≡ s)) ⊎ (shape_at f.shapes m ≡ Some t) →
      (shape_at f.shapes m ≡ Some t) ⊎ Among m (n ∷ f.work)
  fresh_by n s f m t (inl h) = inr (inl h.0)
  fresh_by n s f m t (inr h) = inl h

  added_by : (n : ℕ) (s : Shape) (f : Found) → slice_get f.shapes n ≡ Some None → (m : ℕ) → Among m (n ∷ f.work) →
      Among m f.work ⊎ HasShape (put_shape n s f.shapes) m
  added_by n s f at m (inl is) = inr (s, ap (shape_at (put_shape n s f.shapes)) is ∙ put_there f.shapes n s at)
  added_by n s f at m (inr a) = inl a

  put_followed : (n : ℕ) (s : Shape) (f : Found) → slice_get f.shapes n ≡ Some None →
      Followed (leads n s) f (record { shapes = put_shape n s f.shapes; work = n ∷ f.work })
  put_followed n s f at = record {
    grows = put_grows f.shapes n s at;
    meets = put_there f.shapes n s at;
    fresh = λ m t e. fresh_by n s f m t (put_is f.shapes n m s t at e);
    keeps = λ m h. inr h;
    added = λ m h. added_by n s f at m h;
    less = omega (arith, put_open f.shapes n s at);
    long = put_long f.shapes n s;
  }

  pub reach_followed : (n : ℕ) (s : Shape) (f g : Found) (o : Option (Option Shape)) → slice_get f.shapes n ≡ o → reach_by o n s f ≡ Some g →
      Followed (leads n s) f g
  reach_followed n s f g None at is = absurd (cc is)
  reach_followed n s f g (Some None) at is =
      let one : record { shapes = put_shape n s f.shapes; work = n ∷ f.work } ≡ g = cc is in
      subst (Followed (leads n s) f) one (put_followed n s f at)
  reach_followed n s f g (Some (Some t)) at is = met_followed n s t f g at (same s t) refl is

  kept_fresh : (f h : Found) (n : ℕ) (s : Shape) (work : List ℕ) → ((m : ℕ) → Among m h.work → Among m work) →
      (shape_at f.shapes n ≡ Some s) ⊎ Among n h.work → (shape_at f.shapes n ≡ Some s) ⊎ Among n work
  kept_fresh f h n s work keeps (inl e) = inl e
  kept_fresh f h n s work keeps (inr a) = inr (keeps n a)

  both_fresh : (f h : Found) (n : ℕ) (s : Shape) (work : List ℕ) → ((m : ℕ) → Among m h.work → Among m work) →
      ((shape_at h.shapes n ≡ Some s) → (shape_at f.shapes n ≡ Some s) ⊎ Among n h.work) → (shape_at h.shapes n ≡ Some s) ⊎ Among n work →
      (shape_at f.shapes n ≡ Some s) ⊎ Among n work
  both_fresh f h n s work keeps k (inl e) = kept_fresh f h n s work keeps (k e)
  both_fresh f h n s work keeps k (inr a) = inr a

  one_added : (f h g : Found) (n : ℕ) → Grows h.shapes g.shapes → Among n f.work ⊎ HasShape h.shapes n → Among n f.work ⊎ HasShape g.shapes n
  one_added f h g n grows (inl a) = inl a
  one_added f h g n grows (inr s) = inr (s.0, grows n s.0 s.1)

  both_added : (f h g : Found) (n : ℕ) → Grows h.shapes g.shapes → (Among n h.work → Among n f.work ⊎ HasShape h.shapes n) →
      Among n h.work ⊎ HasShape g.shapes n → Among n f.work ⊎ HasShape g.shapes n
  both_added f h g n grows k (inl a) = one_added f h g n grows (k a)
  both_added f h g n grows k (inr s) = inr s

  then_followed : (a b : Flow) (f h g : Found) → Followed a f h → Followed b h g → Followed (both a b) f g
  then_followed a b f h g x y = record {
    grows = λ n s e. y.grows n s (x.grows n s e);
    meets = (met_grows h.shapes g.shapes y.grows a x.meets, y.meets);
    fresh = λ n s e. both_fresh f h n s g.work y.keeps (x.fresh n s) (y.fresh n s e);
    keeps = λ n e. y.keeps n (x.keeps n e);
    added = λ n e. both_added f h g n y.grows (x.added n) (y.added n e);
    less = y.less ∙ x.less;
    long = y.long ∙ x.long;
  }

  both_followed : (a b : Flow) (f g : Found) (o : Option Found) → follow a f ≡ o → option_and_then (follow b) o ≡ Some g →
      ((h : Found) → follow a f ≡ Some h → Followed a f h) → ((h : Found) → follow b h ≡ Some g → Followed b h g) → Followed (both a b) f g
  both_followed a b f g None at is k l = absurd (cc is)
  both_followed a b f g (Some h) at is k l = then_followed a b f h g (k h at) (l h is)

  taken_followed : (p : ℕ) (a : Flow) (f g : Found) → Followed a f g → Followed (takes p a) f g
  taken_followed p a f g x = record {
    grows = x.grows;
    meets = x.meets;
    fresh = x.fresh;
    keeps = x.keeps;
    added = x.added;
    less = x.less;
    long = x.long;
  }

  followed : (flow : Flow) (f g : Found) → follow flow f ≡ Some g → Followed flow f g
  followed refused f g is = absurd (cc is)
  followed ends f g is = let one : f ≡ g = cc is in subst (Followed ends f) one (same_followed ends f tt)
  followed (leads n s) f g is = reach_followed n s f g (slice_get f.shapes n) refl is
  followed (both a b) f g is = both_followed a b f g (follow a f) refl is (λ h e. followed a f h e) (λ h e. followed b h g e)
  followed (takes p a) f g is = taken_followed p a f g (followed a f g is)

  -- ---------------------------------------------------------------- what is found fits
  fit_old : (n : ℕ) (f g : Found) (flow : Flow) → Followed flow f g → (here : (s : Shape) → shape_at g.shapes n ≡ Some s →
      Fits g.shapes n (slice_get code n) s) → (m : ℕ) (s : Shape) → shape_at g.shapes m ≡ Some s →
      Among m (n ∷ f.work) ⊎ Fits f.shapes m (slice_get code m) s → Among m g.work ⊎ Fits g.shapes m (slice_get code m) s
  fit_old n f g flow x here m s at (inl (inl is)) =
      inr (subst (λ k. Fits g.shapes k (slice_get code k) s) (sym is) (here s (ap (shape_at g.shapes) (sym is) ∙ at)))
  fit_old n f g flow x here m s at (inl (inr a)) = inl (x.keeps m a)
  fit_old n f g flow x here m s at (inr fits) = inr (fits_grow f.shapes g.shapes x.grows m (slice_get code m) s fits)

  fit_by : (n : ℕ) (f g : Found) (flow : Flow) → Followed flow f g → FitSoFar f.shapes (n ∷ f.work) →
      ((s : Shape) → shape_at g.shapes n ≡ Some s → Fits g.shapes n (slice_get code n) s) → (m : ℕ) (s : Shape) → shape_at g.shapes m ≡ Some s →
      (shape_at f.shapes m ≡ Some s) ⊎ Among m g.work → Among m g.work ⊎ Fits g.shapes m (slice_get code m) s
  fit_by n f g flow x fit here m s at (inr a) = inl a
  fit_by n f g flow x fit here m s at (inl old) = fit_old n f g flow x here m s at (fit m s old)

  fit_after : (n : ℕ) (f g : Found) (flow : Flow) → Followed flow f g → FitSoFar f.shapes (n ∷ f.work) →
      ((s : Shape) → shape_at g.shapes n ≡ Some s → Fits g.shapes n (slice_get code n) s) → FitSoFar g.shapes g.work
  fit_after n f g flow x fit here m s at = fit_by n f g flow x fit here m s at (x.fresh m s at)

  end_fits : (n : ℕ) (f g : Found) (s : Shape) → slice_get code n ≡ None → shape_at f.shapes n ≡ Some s → (b : Bool) →
      (nat_eq n (length code) && ends_well s) ≡ b → met b f ≡ Some g → FitSoFar f.shapes (n ∷ f.work) → FitSoFar g.shapes g.work
  end_fits n f g s ci at false e is fit = absurd (cc is)
  end_fits n f g s ci at true e is fit =
      let one : f ≡ g = cc is in
      subst (λ g. FitSoFar g.shapes g.work) one (fit_after n f f ends (same_followed ends f tt) fit (λ t q.
      let two : s ≡ t = cc (sym at ∙ q) in
      subst (λ i. Fits f.shapes n i t) (sym ci) (subst (λ t. (nat_eq n (length code) && ends_well t) ≡ true) two e)))

  look_fits : (n : ℕ) (f g : Found) (i : Option Instruction) (o : Option Shape) → slice_get code n ≡ i → shape_at f.shapes n ≡ o →
      look_by i n o f ≡ Some g → FitSoFar f.shapes (n ∷ f.work) → FitSoFar g.shapes g.work
  look_fits n f g i None ci at is fit = absurd (cc is)
  look_fits n f g (Some x) (Some s) ci at is fit =
      let flow = flow_of (site n) x s in
      let h = followed flow f g is in
      fit_after n f g flow h fit (λ t e.
      let one : s ≡ t = let q = h.grows n s at in cc (sym q ∙ e) in
      subst (λ i. Fits g.shapes n i t) (sym ci) (subst (λ t. Met g.shapes (flow_of (site n) x t)) one h.meets))
  look_fits n f g None (Some s) ci at is fit = end_fits n f g s ci at (nat_eq n (length code) && ends_well s) refl is fit

  not_among : (n : ℕ) (A : Type 0) → Among n [] ⊎ A → A
  not_among n A (inl h) = absurd h
  not_among n A (inr h) = h

  none_among : (sh : Shapes) → FitSoFar sh [] → AllFit sh
  none_among sh fit n s at = not_among n (Fits sh n (slice_get code n) s) (fit n s at)

  looked_fits : (n : ℕ) (f : Found) (out : Shapes) (on : Found → Option Shapes) (o : Option Found) → look n f ≡ o → option_and_then on o ≡ Some out →
      FitSoFar f.shapes (n ∷ f.work) → ((g : Found) → on g ≡ Some out → FitSoFar g.shapes g.work → AllFit out) → AllFit out
  looked_fits n f out on None at is fit k = absurd (cc is)
  looked_fits n f out on (Some g) at is fit k = k g is (look_fits n f g (slice_get code n) (shape_at f.shapes n) refl refl at fit)

  pub search_fits : (k : ℕ) (work : List ℕ) (sh out : Shapes) → search k work sh ≡ Some out → FitSoFar sh work → AllFit out
  search_fits k [] sh out is fit = let one : sh ≡ out = cc is in subst AllFit one (none_among sh fit)
  search_fits zero (n ∷ work) sh out is fit = absurd (cc is)
  search_fits (suc k) (n ∷ work) sh out is fit =
      let f : Found = record { shapes = sh; work = work } in
      looked_fits n f out (λ g. search k g.work g.shapes) (look n f) refl is fit (λ g e. search_fits k g.work g.shapes out e)

  end_grows : (f g : Found) (b : Bool) → met b f ≡ Some g → Grows f.shapes g.shapes
  end_grows f g true is = let one : f ≡ g = cc is in subst (λ (h : Found). Grows f.shapes h.shapes) one (λ n s e. e)
  end_grows f g false is = absurd (cc is)

  -- what has a shape keeps it
  look_grows : (n : ℕ) (f g : Found) (i : Option Instruction) (o : Option Shape) → look_by i n o f ≡ Some g → Grows f.shapes g.shapes
  look_grows n f g i None is = absurd (cc is)
  look_grows n f g (Some x) (Some s) is = (followed (flow_of (site n) x s) f g is).grows
  look_grows n f g None (Some s) is = end_grows f g (nat_eq n (length code) && ends_well s) is

  looked_grows : (n : ℕ) (f : Found) (out : Shapes) (on : Found → Option Shapes) (o : Option Found) → look n f ≡ o →
      option_and_then on o ≡ Some out → ((g : Found) → on g ≡ Some out → Grows g.shapes out) → Grows f.shapes out
  looked_grows n f out on None at is k = absurd (cc is)
  looked_grows n f out on (Some g) at is k = λ m s e. k g is m s (look_grows n f g (slice_get code n) (shape_at f.shapes n) at m s e)

  pub search_grows : (k : ℕ) (work : List ℕ) (sh out : Shapes) → search k work sh ≡ Some out → Grows sh out
  search_grows k [] sh out is = let one : sh ≡ out = cc is in subst (Grows sh) one (λ n s e. e)
  search_grows zero (n ∷ work) sh out is = absurd (cc is)
  search_grows (suc k) (n ∷ work) sh out is =
      let f : Found = record { shapes = sh; work = work } in
      looked_grows n f out (λ g. search k g.work g.shapes) (look n f) refl is (λ g e. search_grows k g.work g.shapes out e)

  -- ---------------------------------------------------------------- nothing else is there
  -- Where these shapes fit, what is found agrees with them, and isn't refused.
  module _ (d : Shapes) (fits : AllFit d) where
    abbrev pub Agrees : Found → Type 0
    Agrees f = Grows f.shapes d

    abbrev pub Went : Option Found → Type 0
    Went None = ⊥
    Went (Some g) = Agrees g

    agrees_by : (n : ℕ) (s : Shape) (f : Found) → shape_at d n ≡ Some s → Agrees f → (m : ℕ) (t : Shape) →
        ((m ≡ n) × (t ≡ s)) ⊎ (shape_at f.shapes m ≡ Some t) → shape_at d m ≡ Some t
    agrees_by n s f here a m t (inl h) = ap (shape_at d) h.0 ∙ here ∙ ap (λ x. Some x) (sym h.1)
    agrees_by n s f here a m t (inr h) = a m t h

    both_goes : (x y : Flow) (f : Found) (o : Option Found) → follow x f ≡ o → Went o →
        ((g : Found) → follow x f ≡ Some g → Agrees g → Went (follow y g)) → Went (option_and_then (follow y) o)
    both_goes x y f None e h k = absurd h
    both_goes x y f (Some g) e h k = k g e h

    end_goes : (b : Bool) (f : Found) → b ≡ true → Agrees f → Went (met b f)
    end_goes true f e a = a
    end_goes false f e a = absurd (cc e)

    put_agrees : (n : ℕ) (s : Shape) (f : Found) → slice_get f.shapes n ≡ Some None → shape_at d n ≡ Some s → Agrees f →
        Grows (put_shape n s f.shapes) d
    put_agrees n s f at here a m t e = agrees_by n s f here a m t (put_is f.shapes n m s t at e)

    pub reach_goes : (n : ℕ) (s : Shape) (f : Found) (o : Option (Option Shape)) → slice_get f.shapes n ≡ o → shape_at d n ≡ Some s →
        suc n ≤ length f.shapes → Agrees f → Went (reach_by o n s f)
    reach_goes n s f None at here within a = absurd (omega (arith, past f.shapes n at, within))
    reach_goes n s f (Some None) at here within a = put_agrees n s f at here a
    reach_goes n s f (Some (Some t)) at here within a =
        let q : shape_at f.shapes n ≡ Some t = ap (option_and_then itself) at in
        let one : s ≡ t = cc (sym here ∙ a n t q) in
        let yes : same s t ≡ true = subst (λ t. same s t ≡ true) one (is_same s) in
        rw yes a

    follow_goes : (flow : Flow) (f : Found) → Met d flow → length f.shapes ≡ length d → Agrees f → Went (follow flow f)
    follow_goes refused f m long a = absurd m
    follow_goes ends f m long a = a
    follow_goes (leads n s) f m long a =
        reach_goes n s f (slice_get f.shapes n) refl m (omega (arith, long, within d n s m)) a
    follow_goes (both x y) f m long a =
        both_goes x y f (follow x f) refl (follow_goes x f m.0 long a) (λ g e b. follow_goes y g m.1 ((followed x f g e).long ∙ long) b)
    follow_goes (takes p x) f m long a = follow_goes x f m long a

    placed_goes : (n : ℕ) (s : Shape) (f : Found) (i : Option Instruction) → Fits d n i s → length f.shapes ≡ length d → Agrees f →
        Went (look_by i n (Some s) f)
    placed_goes n s f (Some x) h long a = follow_goes (flow_of (site n) x s) f h long a
    placed_goes n s f None h long a = end_goes (nat_eq n (length code) && ends_well s) f h a

    look_goes : (n : ℕ) (s : Shape) (f : Found) (o : Option Shape) → shape_at f.shapes n ≡ o → shape_at f.shapes n ≡ Some s →
        length f.shapes ≡ length d → Agrees f → Went (look_by (slice_get code n) n o f)
    look_goes n s f None e at long a = absurd (cc (sym e ∙ at))
    look_goes n s f (Some t) e at long a = placed_goes n t f (slice_get code n) (fits n t (a n t e)) long a

    -- each place that is to be looked at has a shape
    abbrev pub AllMet : List ℕ → Shapes → Type 0
    AllMet work sh = (n : ℕ) → Among n work → (s : Shape) × (shape_at sh n ≡ Some s)

    ended : (b : Bool) (f g : Found) → met b f ≡ Some g → Followed ends f g
    ended true f g is = let one : f ≡ g = cc is in subst (Followed ends f) one (same_followed ends f tt)
    ended false f g is = absurd (cc is)

    met_by : (n : ℕ) (f g : Found) (flow : Flow) → Followed flow f g → AllMet (n ∷ f.work) f.shapes → (m : ℕ) →
        Among m f.work ⊎ HasShape g.shapes m → HasShape g.shapes m
    met_by n f g flow x met m (inl a) = let s = met m (inr a) in (s.0, x.grows m s.0 s.1)
    met_by n f g flow x met m (inr s) = s

    all_met : (n : ℕ) (f g : Found) (flow : Flow) → Followed flow f g → AllMet (n ∷ f.work) f.shapes → AllMet g.work g.shapes
    all_met n f g flow x met m a = met_by n f g flow x met m (x.added m a)

    -- what a look leaves: a place fewer to be looked at, or with a shape
    looked : (n : ℕ) (f g : Found) (i : Option Instruction) (o : Option Shape) → look_by i n o f ≡ Some g →
        (flow : Flow) × Followed flow f g
    looked n f g i None is = absurd (cc is)
    looked n f g (Some x) (Some s) is = (flow_of (site n) x s, followed (flow_of (site n) x s) f g is)
    looked n f g None (Some s) is = (ends, ended (nat_eq n (length code) && ends_well s) f g is)

    goes_on : (k n : ℕ) (f : Found) (o : Option Found) → look n f ≡ o → Went o → unmet f.shapes + length (n ∷ f.work) ≤ suc k →
        length f.shapes ≡ length d → AllMet (n ∷ f.work) f.shapes →
        ((g : Found) → unmet g.shapes + length g.work ≤ k → length g.shapes ≡ length d → AllMet g.work g.shapes → Grows g.shapes d →
        (out : Shapes) × (search k g.work g.shapes ≡ Some out)) →
        (out : Shapes) × (option_and_then (λ g. search k g.work g.shapes) o ≡ Some out)
    goes_on k n f None e h enough long met on = absurd h
    goes_on k n f (Some g) e h enough long met on =
        let l = looked n f g (slice_get code n) (shape_at f.shapes n) e in
        on g (omega (arith, enough, l.1.less)) (l.1.long ∙ long) (all_met n f g l.0 l.1 met) h

    -- With as many steps as there are places without shapes, and places to be looked at, shapes are found.
    pub search_goes : (k : ℕ) (work : List ℕ) (sh : Shapes) → unmet sh + length work ≤ k → length sh ≡ length d → AllMet work sh → Grows sh d →
        (out : Shapes) × (search k work sh ≡ Some out)
    search_goes k [] sh enough long met a = (sh, refl)
    search_goes zero (n ∷ work) sh enough long met a = absurd (omega (arith, enough))
    search_goes (suc k) (n ∷ work) sh enough long met a =
        let f : Found = record { shapes = sh; work = work } in
        let m = met n (inl refl) in
        goes_on k n f (look n f) refl (look_goes n m.0 f (shape_at sh n) refl m.1 long a) enough long met
        (λ g less long1 met1 a1. search_goes k g.work g.shapes less long1 met1 a1)
