-- The parents that are loaded, and the blocks after those that run.
use Rattle.std.proofs.Common.{◌≡◌, ◌∙◌, ◌+◌, ◌-◌, ◌≤◌, ℕ, List, [], ◌∷◌, ◌++◌, length, Some, false, refl, sym, ap, arith, subst}
use Rattle.std.specs.Prelude.{drop, slice_get}
use Rattle.std.specs.Borrow.{Bor}
use Rattle.std.specs.declared.alloc.Global.{Global}
use Rattle.std.specs.declared.rc.Rc.{Rc}
use Rattle.std.specs.Map.{keys_of}
use Rattle.tm_syntax.specs.Named.{Named, find}
use Rattle.tm_syntax.specs.Names.{is_among}
use Rattle.tm_meaning.proofs.Loaded.{count_loaded}
use Rattle.tm_values.specs.Val.{undefined}
use Rattle.tm_meaning.specs.Calls.{outermost}
use Rattle.tm_meaning.specs.World.{World, HostValue, Card, Scope, Good, block_of, plain_scope}
use Rattle.tm_meaning.specs.Inheritance.{with_blocks, count_left, load_named, names_left, place_in}
use Rattle.tm_meaning.specs.declared.stream.StreamId.{StreamId}
use Rattle.tm_meaning.specs.declared.stream.TemplateId.{TemplateId}
use Rattle.tm_meaning.specs.declared.stream.TemplateId.TheVariants.{Entry}
use Rattle.tm_blocks.specs.Lists.{AreBlocksOf, with_each}
use Rattle.tm_state.specs.State.{IsNextOf, put_back, saved_super, scoped}
use Rattle.tm_records.specs.declared.saved.Saved.TheVariants as saved
use Rattle.tm_records.specs.declared.saved.SavedSuper.{SavedSuper}

-- ---------------------------------------------------------------- a parent
by_names : (t : TemplateId) (bs : Named Card) (ls : Named (List TemplateId)) → with_blocks t bs ls ≡ with_each t (keys_of bs) ls
by_names t [] ls = refl
by_names t (b ∷ bs) ls = by_names t bs _

module _ (host : HostValue) (x : List ℕ) (old : World) (lent : Bor (Rc (List (List ℕ)) Global)) (fresh : is_among x old.loaded ≡ false)
    (there : AreBlocksOf lent (find x host.templates)) where
  abbrev After : World
  After = record old { loaded = old.loaded ++ x ∷ []; blocks = with_each (Entry x) (lent.now.value) old.blocks }

  -- it is loaded,
  pub loads : load_named host x old ≡ Good (Entry x) After
  loads =
      let t = there.0 in
      rw (fresh, there.1)
      (ap (λ ls. Good (Entry x) (record old { loaded = old.loaded ++ x ∷ []; blocks = ls }))
      (by_names (Entry x) t.blocks old.blocks ∙ ap (λ ks. with_each (Entry x) ks old.blocks) there.2))

  -- and leaves a name fewer
  pub leaves_fewer : names_left host After + 1 ≤ names_left host old
  leaves_fewer = count_loaded host.templates x there.0 old.loaded there.1 fresh

  -- in the state that stands there.
  pub loads_into : {seen : World} (y : List ℕ) (bs : Named (List TemplateId)) (ps : Named ℕ) (names : List (List ℕ)) → seen ≡ old →
      y ≡ x → bs ≡ with_each (Entry y) (lent.now.value) seen.blocks → ps ≡ seen.places → names ≡ seen.loaded ++ x ∷ [] →
      load_named host x old ≡ Good (Entry y) (record seen { blocks = bs; places = ps; loaded = names })
  loads_into {seen = seen} y bs ps names same name is stay more =
      let at : record seen { blocks = bs; places = ps; loaded = names } ≡ After =
      ap (λ q. record seen { blocks = bs; places = q; loaded = names }) stay
      ∙ ap (λ b. record seen { blocks = b; loaded = names }) (is ∙ ap (λ z. with_each (Entry z) (lent.now.value) seen.blocks) name)
      ∙ ap (λ n. record seen { blocks = with_each (Entry x) (lent.now.value) seen.blocks; loaded = n }) more
      ∙ ap (λ (v : World). record v { blocks = with_each (Entry x) (lent.now.value) v.blocks; loaded = v.loaded ++ x ∷ [] }) same in
      loads ∙ ap (λ v. Good (Entry x) v) (sym at) ∙ ap (λ z. Good (Entry z) (record seen { blocks = bs; places = ps; loaded = names })) (sym name)

  pub fewer_into : {seen : World} (bs : Named (List TemplateId)) (names : List (List ℕ)) → seen ≡ old → names ≡ seen.loaded ++ x ∷ [] →
      names_left host (record seen { blocks = bs; loaded = names }) + 1 ≤ names_left host old
  fewer_into bs names same more =
      subst (λ ns. count_left host.templates ns + 1 ≤ names_left host old)
      (sym (more ∙ ap (λ (v : World). v.loaded ++ x ∷ []) same)) leaves_fewer

-- ---------------------------------------------------------------- a block after the one that runs
-- the block at the next place
pub next_there : (w : World) (x : List ℕ) (l : List TemplateId) (place next : ℕ) (t : TemplateId) (s : StreamId) → w.block ≡ Some x →
    find x w.blocks ≡ Some l → place ≡ place_in x w.places → next ≡ place + 1 → slice_get l (place + 1) ≡ Some t → s ≡ block_of t x →
    IsNextOf s x next w
next_there w x l place next t s runs found at after there is =
    let same : s.template ≡ t = ap (λ (q : StreamId). q.template) is in (
      runs,
      (
        l,
        found,
        after ∙ ap (λ n. n + 1) at,
        ap (λ n. slice_get l (n + 1)) (sym at) ∙ there ∙ ap (λ (q : TemplateId). Some q) (sym same),
        is ∙ ap (λ q. block_of q x) (sym same),
      ),
    )

-- of scopes with one more over them
one_left : (s : Scope) (ss : List Scope) → outermost (length ss) (s ∷ ss) ≡ ss
one_left s ss =
    let many : length (s ∷ ss) - length ss ≡ 1 = omega arith in
    ap (λ n. drop n (s ∷ ss)) many

-- What a `super()` replaced is put back, where no more than its scope, its stream and its places are there.
pub super_left : (w u v : World) (s : SavedSuper) (stream : StreamId) (places : Named ℕ) → s ≡ saved_super w → u ≡ scoped w →
    v ≡ record u { stream = stream; places = places } → put_back (saved.Super s) v ≡ w
super_left w u v s stream places is within at =
    ap (λ q. put_back (saved.Super q) v) is
    ∙ ap (put_back (saved.Super (saved_super w))) (at ∙ ap (λ (q : World). record q { stream = stream; places = places }) within)
    ∙ ap (λ ss. record w { scopes = record w.scopes { frames = ss } }) (one_left (plain_scope (undefined false)) w.scopes.frames)
