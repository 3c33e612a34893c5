-- Code with its cache numbers does what the code before it does: runs are the same but for the caches.
use Rattle.std.proofs.Common.{◌≡◌, ℕ, zero, suc, ◌⊎◌, inl, inr, List, [], ◌∷◌, length, Option, Some, None, Bool, true, false}
use Rattle.std.proofs.Common.{refl, sym, ap, ◌∙◌, subst, arith}
use Rattle.std.proofs.lemmas.Bool.Decides.{nat_tests}
use Rattle.std.proofs.lemmas.Slice.Eq.{bytes_eq-Decides}
use Rattle.std.specs.Prelude.{slice_get, nat_lt, nat_eq, ltb, option_and_then, ◌&&◌}
use Rattle.std.specs.List.{prefix_len}
use Rattle.tm_values.specs.Val.{Val}
use Rattle.tm_values.specs.declared.escape.AutoEscape.{AutoEscape}
use Rattle.tm_syntax.specs.CacheNumbers.{no_cache}
use Rattle.tm_syntax.specs.Loops.{loop_places, loops_before}
use Rattle.tm_syntax.specs.Entries.{entries}
use Rattle.tm_trees.specs.Instructions.{Instruction, LoopPlace}
use Rattle.tm_trees.specs.Instructions.instructions as i
use Rattle.tm_trees.specs.Trees.{Application}
use Rattle.tm_trees.specs.Trees.applications
use Rattle.tm_meaning.specs.World.{choose, World, Loop, HostValue, Res, Good, Bad}
use Rattle.tm_meaning.specs.World.{make_macro, items_over, open_loop, top_mark}
use Rattle.tm_meaning.specs.World.{top_loop}
use Rattle.tm_meaning.specs.declared.run_text.RunText.{RunText}
use Rattle.tm_meaning.specs.Calls.{Callee, whole, macro_of, Asked, has, refused, runs, recurs, call_named, call_callee, applied}
use Rattle.tm_meaning.specs.Calls.{call_innermost, enter_block, enter_super, enter_include, undone}
use Rattle.tm_meaning.specs.Meaning.{none_waits}
use Rattle.tm_meaning.specs.Operators.{truth}
use Rattle.tm_meaning.specs.Instructions.{apply_of, replaces_one, replaces_two, take_counted, on_count, count_in, on_truth, iterate_with}
use Rattle.tm_meaning.specs.Instructions.{end_capture_with, pop_auto_escape_with, is_no_loop, on_loop, pop_loop_with, returned, returns}
use Rattle.tm_meaning.specs.Instructions.{with_text, may_hold, holding, used, on_used, looping, on_parts, closure_in, names_in}
use Rattle.tm_meaning.specs.Machine.{Activation, Caches, Capture, Return, Config, Program, End, Finished, Failed, Stuck, Next, More, Over, Restart}
use Rattle.tm_meaning.specs.Machine.{Nest, Back, after, on_top, on_taken, taken, on, with_world, writes, audible, new_capture, recursion}
use Rattle.tm_meaning.specs.Machine.{place_of_loop, asked, asked_in_place, nested, run_from, run_of_macro, first_run, running, waiting, onto}
use Rattle.tm_meaning.specs.Machine.{back_with, back_to, goes}
use Rattle.tm_meaning.specs.Steps.{pay, effect, finish, parent_next, closed, act, step, begun, begins, Final, Leads, Reaches, over, more}
use Rattle.tm_meaning.specs.Steps.{restart, nest}
use Rattle.tm_meaning.specs.declared.stream.TemplateId.{TemplateId}
use Rattle.tm_meaning.proofs.Ends.{one_end}
use Rattle.tm_meaning.specs.declared.base.Base.{Base}
use Rattle.tm_meaning.specs.declared.stream.StreamId.{StreamId}
use Rattle.tm_simulation.proofs.Numbered.{Given, Numbers, IsNumbered, as_long, same_places, same_entries, same_before, NumbersAt}
use Rattle.tm_simulation.proofs.Numbered.{numbers_at}

-- ---------------------------------------------------------------- the same but for the caches
abbrev pub with_caches : Caches → Caches → Activation → Activation
with_caches fs ts r = record r { filters = fs; tests = ts }

abbrev pub cached : Caches → Caches → Config → Config
cached fs ts c = record c { run = with_caches fs ts c.run }

-- A step goes on in a stream, and this one with these caches; or both do the same. A run of its own begins with empty caches, and so does
-- one that restarts.
abbrev pub Alike : StreamId → Caches → Caches → Next → Next → Type 0
Alike s fs ts (More t c) n = (c.run.stream ≡ s) × (n ≡ More t (cached fs ts c))
Alike s fs ts (Over e) n = n ≡ Over e
Alike s fs ts (Restart c) n = (c.run.filters ≡ []) × (c.run.tests ≡ []) × (n ≡ Restart c)
Alike s fs ts (Nest f c back) n = (back.run.stream ≡ s) × (c.run.filters ≡ []) × (c.run.tests ≡ [])
    × (n ≡ Nest f c (record back { run = with_caches fs ts back.run }))

abbrev AreEmpty : Option Activation → Type 0
AreEmpty None = Unit {0}
AreEmpty (Some a) = (a.filters ≡ []) × (a.tests ≡ [])

entry_empty : (s : StreamId) (given : List Val) (floor : ℕ) (e : ℕ × ℕ) (b : Bool) →
    AreEmpty (choose b (λ _. Some (record (run_from s floor) { place = e.0; operands = onto given [] })) (λ _. None))
entry_empty s given floor e true = (refl, refl)
entry_empty s given floor e false = tt

found_empty : (s : StreamId) (given : List Val) (floor : ℕ) (o : Option (ℕ × ℕ)) → AreEmpty (option_and_then (run_of_macro s given floor) o)
found_empty s given floor None = tt
found_empty s given floor (Some e) = entry_empty s given floor e (nat_eq e.1 (length given))

-- a run begins with empty caches
starts_empty : (p : Program) (k : Callee) (floor : ℕ) → AreEmpty (first_run p k floor)
starts_empty p (whole s) floor = (refl, refl)
starts_empty p (macro_of s n given) floor = found_empty s given floor (slice_get (entries (p.code s)) n)

-- Caches aren't for this instruction.
abbrev pub NoCache : Instruction → Type 0
NoCache (i.ApplyFilter x n cache) = ⊥
NoCache (i.PerformTest x n cache) = ⊥
NoCache x = Unit {0}

module _ (s : StreamId) (fs ts : Caches) where
  abbrev Same : Next → Next → Type 0
  Same m n = Alike s fs ts m n

  after_same : {A : Type 0} (m : Res A) (f g : A → World → Next) → ((a : A) (w : World) → Same (f a w) (g a w)) →
      Same (after m f) (after m g)
  after_same (Good a w) f g h = h a w
  after_same (Bad chain w) f g h = refl

  on_top_same : (vs : List Val) (w : World) (f g : Val → List Val → Next) → ((v : Val) (rest : List Val) → Same (f v rest) (g v rest)) →
      Same (on_top vs w f) (on_top vs w g)
  on_top_same [] w f g h = refl
  on_top_same (v ∷ vs) w f g h = h v vs

  on_taken_same : (r : Option (List Val × List Val)) (w : World) (f g : List Val → List Val → Next) →
      ((vs rest : List Val) → Same (f vs rest) (g vs rest)) → Same (on_taken r w f) (on_taken r w g)
  on_taken_same None w f g h = refl
  on_taken_same (Some r) w f g h = h r.0 r.1

  on_count_same : (n : Option ℕ) (w : World) (f g : ℕ → Next) → ((n : ℕ) → Same (f n) (g n)) → Same (on_count n w f) (on_count n w g)
  on_count_same None w f g h = refl
  on_count_same (Some n) w f g h = h n

  counted_same : (n : Option ℕ) (us : List Val) (w : World) (f g : List Val → List Val → Next) →
      ((vs rest : List Val) → Same (f vs rest) (g vs rest)) → Same (take_counted n us w f) (take_counted n us w g)
  counted_same (Some n) us w f g h = on_taken_same (taken n [] us) w f g h
  counted_same None us w f g h =
      on_top_same us w _ _ (λ v rest. on_count_same (count_in v) w _ _ (λ n. on_taken_same (taken n [] rest) w f g h))

  choose_same : (b : Bool) (m n m1 n1 : Next) → Same m m1 → Same n n1 →
      Same (choose b (λ _. m) (λ _. n)) (choose b (λ _. m1) (λ _. n1))
  choose_same true m n m1 n1 h k = h
  choose_same false m n m1 n1 h k = k

  on_parts_same : (o : Option (Option ℕ)) (names : Option (List (List ℕ))) (w : World) (f g : Option ℕ → List (List ℕ) → Next) →
      ((closure : Option ℕ) (xs : List (List ℕ)) → Same (f closure xs) (g closure xs)) → Same (on_parts o names w f) (on_parts o names w g)
  on_parts_same None names w f g h = refl
  on_parts_same (Some closure) None w f g h = refl
  on_parts_same (Some closure) (Some xs) w f g h = h closure xs

  nested_same : (o : Option Activation) → AreEmpty o → (heard : Bool) (ks : List Capture) (w : World) (back : Back) →
      back.run.stream ≡ s → Same (nested o heard ks w back) (nested o heard ks w (record back { run = with_caches fs ts back.run }))
  nested_same None empty heard ks w back here = refl
  nested_same (Some a) empty heard ks w back here = (here, empty.0, empty.1, refl)

  on_loop_same : (rs : List (Option Return)) (l : Option Loop) (w : World) (f g : Loop → Next) → ((l : Loop) → Same (f l) (g l)) →
      Same (on_loop rs l w f) (on_loop rs l w g)
  on_loop_same [] l w f g h = refl
  on_loop_same (r ∷ rs) None w f g h = refl
  on_loop_same (r ∷ rs) (Some l) w f g h = h l

  -- ---------------------------------------------------------------- the parts of instructions
  -- of a configuration in the stream
  module _ (c : Config) (here : c.run.stream ≡ s) where
    abbrev d : Config
    d = cached fs ts c

    one_same : (g : Val → World → Res Val) → Same (replaces_one g c) (replaces_one g d)
    one_same g = on_top_same c.run.operands c.world _ _ (λ v vs. after_same (g v c.world) _ _ (λ x w. (here, refl)))

    two_same : (g : Val → Val → World → Res Val) → Same (replaces_two g c) (replaces_two g d)
    two_same g = on_top_same c.run.operands c.world _ _ (λ b vs. on_top_same vs c.world _ _ (λ a rest.
        after_same (g a b c.world) _ _ (λ x w. (here, refl))))

    writes_same : (f : Base) (t : List ℕ) (vs : List Val) (w : World) →
        Same (writes f t (on vs (with_world w c))) (writes f t (on vs (with_world w d)))
    writes_same f t vs w = choose_same (audible f c) _ _ _ _ (here, refl) (here, refl)

    jumps_same : (host : HostValue) (f f1 g g1 : Val → List Val → World → Next) →
        ((v : Val) (vs : List Val) (w : World) → Same (f v vs w) (f1 v vs w)) →
        ((v : Val) (vs : List Val) (w : World) → Same (g v vs w) (g1 v vs w)) →
        Same (on_truth host c (λ b v vs w. choose b (λ _. f v vs w) (λ _. g v vs w)))
        (on_truth host d (λ b v vs w. choose b (λ _. f1 v vs w) (λ _. g1 v vs w)))
    jumps_same host f f1 g g1 h k =
        on_top_same c.run.operands c.world _ _ (λ v vs. after_same (truth host v c.world) _ _ (λ b w.
        choose_same b (f v vs w) (g v vs w) (f1 v vs w) (g1 v vs w) (h v vs w) (k v vs w)))

    iterate_same : (v : Option Val) (n : ℕ) → Same (iterate_with v n c) (iterate_with v n d)
    iterate_same None n = (here, refl)
    iterate_same (Some v) n = (here, refl)

    text_same : (r : Return) (rs : List (Option Return)) (ks : List Capture) →
        Same (with_text r.parent ks (returned r rs c)) (with_text r.parent ks (returned r rs d))
    text_same r rs [] = refl
    text_same r rs (k ∷ ks) = (here, refl)

    returns_same : (r : Return) (rs : List (Option Return)) (value : Bool) →
        Same (returns r value (returned r rs c)) (returns r value (returned r rs d))
    returns_same r rs false = (here, refl)
    returns_same r rs true = text_same r rs c.captures

    pop_loop_same : (rs : List (Option Return)) → Same (pop_loop_with rs c) (pop_loop_with rs d)
    pop_loop_same [] = refl
    pop_loop_same (None ∷ rs) = (here, refl)
    pop_loop_same (Some r ∷ rs) = returns_same r rs r.value

    end_capture_same : (ks : List Capture) → Same (end_capture_with ks c) (end_capture_with ks d)
    end_capture_same [] = refl
    end_capture_same (k ∷ ks) = (here, refl)

    pop_escape_same : (es : List AutoEscape) → Same (pop_auto_escape_with es c) (pop_auto_escape_with es d)
    pop_escape_same [] = refl
    pop_escape_same (e ∷ es) = (here, refl)

    pub parent_same : (q : Option TemplateId) → Same (parent_next q c) (parent_next q d)
    parent_same None = refl
    parent_same (Some t) = (refl, refl, refl)

    -- ---------------------------------------------------------------- calls
    -- of programs whose loops stand at the same places
    module _ (host : HostValue) (plain coded : StreamId → List Instruction)
        (places : loop_places 0 (coded c.run.stream) ≡ loop_places 0 (plain c.run.stream))
        (before : loops_before c.run.place (coded c.run.stream) ≡ loops_before c.run.place (plain c.run.stream))
        (same : (r : StreamId) → entries (coded r) ≡ entries (plain r)) where
      abbrev p : Program
      p = record { host = host; code = plain }

      abbrev q : Program
      q = record { host = host; code = coded }

      recursion_same : (value : Bool) (vs : List Val) (ks : List Capture) (n : ℕ) (l : Option LoopPlace) (items : List Val) (w : World) →
          Same (recursion p c value vs ks n l items w) (recursion q d value vs ks n l items w)
      recursion_same value vs ks n None items w = refl
      recursion_same value vs ks n (Some l) items w =
          choose_same l.flags.recursive _ _ _ _ (after_same (open_loop host items l.flags n w) _ _ (λ _ world1. (here, refl))) refl

      place_same : (n : ℕ) → place_of_loop q d n ≡ place_of_loop p c n
      place_same n = ap (λ ls. slice_get ls n) places

      first_same : (k : Callee) (floor : ℕ) → first_run q k floor ≡ first_run p k floor
      first_same (whole r) floor = refl
      first_same (macro_of r n given) floor = ap (λ es. option_and_then (run_of_macro r given floor) (slice_get es n)) (same r)

      run_same : (k : Callee) (heard : Bool) (ks : List Capture) (w : World) (back : Back) → back.run.stream ≡ s →
          Same (nested (first_run p k (length ks)) heard ks w back)
          (nested (first_run q k (length ks)) heard ks w (record back { run = with_caches fs ts back.run }))
      run_same k heard ks w back at =
          let a = first_run p k (length ks) in
          subst (λ o. Same (nested a heard ks w back) (nested o heard ks w (record back { run = with_caches fs ts back.run })))
          (sym (first_same k (length ks))) (nested_same a (starts_empty p k (length ks)) heard ks w back at)

      asked_same : (vs : List Val) (a : Asked) → Same (asked p c vs a) (asked q d vs a)
      asked_same vs (has v w) = (here, refl)
      asked_same vs (refused chain w) = refl
      asked_same vs (runs k w) =
          run_same k.callee true (new_capture true ∷ c.captures) w (record { run = waiting vs c; call = k; value = true }) here
      asked_same vs (recurs n items w) =
          let ks = new_capture true ∷ c.captures in
          subst (λ l. Same (asked p c vs (recurs n items w)) (recursion q d true vs ks n l items w)) (sym (place_same n))
          (recursion_same true vs ks n (place_of_loop p c n) items w)

      placed_same : (f : Base) (vs : List Val) (a : Asked) → Same (asked_in_place p f c vs a) (asked_in_place q f d vs a)
      placed_same f vs (has v w) = (here, refl)
      placed_same f vs (refused chain w) = refl
      placed_same f vs (runs k w) =
          run_same k.callee (audible f c) c.captures w (record { run = waiting vs c; call = k; value = false }) here
      placed_same f vs (recurs n items w) =
          subst (λ l. Same (asked_in_place p f c vs (recurs n items w)) (recursion q d false vs c.captures n l items w))
          (sym (place_same n)) (recursion_same false vs c.captures n (place_of_loop p c n) items w)

      pub apply_same : (k : Application) (x : List ℕ) (n : Option ℕ) → Same (apply_of p k x n c) (apply_of q k x n d)
      apply_same k x n = counted_same n c.run.operands c.world _ _ (λ vs rest. asked_same rest (applied host k x vs c.world))

      -- ---------------------------------------------------------------- instructions
      pub effect_same : (f : Base) (x : Instruction) → NoCache x → Same (effect p f x c) (effect q f x d)
      effect_same f (i.ApplyFilter x n cache) none = absurd none
      effect_same f (i.PerformTest x n cache) none = absurd none
      effect_same f (i.BuildMacro x place caller) none =
          subst (λ n. Same (effect p f (i.BuildMacro x place caller) c)
          (on_top c.run.operands c.world (λ names vs. on_top vs c.world (λ closure rest.
          on_parts (closure_in closure) (names_in names) c.world (λ own arguments.
          after (make_macro n own x arguments caller c.world) (λ v w. goes (v ∷ rest) w d))))))
          (sym (ap (prefix_len (λ (e : ℕ × ℕ). ltb e.0 place)) (same c.run.stream)))
          (on_top_same c.run.operands c.world _ _ (λ names vs. on_top_same vs c.world _ _ (λ closure rest.
          on_parts_same (closure_in closure) (names_in names) c.world _ _ (λ own arguments. (here, refl)))))
      effect_same f i.Return none = choose_same (closed f c) _ _ _ _ refl refl
      effect_same f (i.JumpIfFalse n) none = jumps_same host _ _ _ _ (λ v vs w. (here, refl)) (λ v vs w. (here, refl))
      effect_same f (i.JumpIfFalseOrPop n) none = jumps_same host _ _ _ _ (λ v vs w. (here, refl)) (λ v vs w. (here, refl))
      effect_same f (i.JumpIfTrueOrPop n) none = jumps_same host _ _ _ _ (λ v vs w. (here, refl)) (λ v vs w. (here, refl))
      effect_same f (i.CallFunction x n) none = counted_same n c.run.operands c.world _ _
          (λ vs rest. asked_same rest (call_named host x vs c.world))
      effect_same f (i.CallObject n) none = counted_same n c.run.operands c.world _ _
          (λ vs rest. asked_same rest (call_callee host vs c.world))
      effect_same f (i.CallMethod x n) none = apply_same applications.Method x n
      effect_same f i.FastRecurse none = on_top_same c.run.operands c.world _ _
          (λ v vs. placed_same f vs (call_innermost host v c.world))
      effect_same f (i.CallBlock b) none = choose_same (none_waits c.run.parent && audible f c) _ _ _ _
          (placed_same f c.run.operands (enter_block host b c.world)) (here, refl)
      effect_same f i.FastSuper none = placed_same f c.run.operands (enter_super host c.world)
      effect_same f (i.Include missing) none = on_top_same c.run.operands c.world _ _
          (λ v vs. placed_same f vs (enter_include host true v missing c.world))
      effect_same f i.IncludeModule none = on_top_same c.run.operands c.world _ _
          (λ v vs. placed_same f vs (enter_include host false v false c.world))
      effect_same f i.PopFrame none =
          choose_same (nat_lt f.scopes (length c.world.scopes.frames) && is_no_loop (top_mark c.world.scopes.frames)) _ _ _ _ (here, refl)
          refl
      effect_same f (i.PushLoop flags) none =
          subst (λ n. Same (effect p f (i.PushLoop flags) c)
          (on_top c.run.operands c.world (λ v vs. after (items_over host v c.world) (λ items w.
          after (open_loop host items flags n w) (λ _ world1. goes vs world1 (looping (None ∷ c.run.loops) d)))))) (sym before)
          (on_top_same c.run.operands c.world _ _ (λ v vs. after_same (items_over host v c.world) _ _ (λ items w.
          after_same (open_loop host items flags (loops_before c.run.place (plain c.run.stream)) w) _ _ (λ _ world1. (here, refl)))))
      effect_same f (i.Iterate n) none = on_loop_same c.run.loops (top_loop c.world) c.world _ _
          (λ l. iterate_same (slice_get l.items l.turns) n)
      effect_same f i.PushDidNotIterate none = on_loop_same c.run.loops (top_loop c.world) c.world _ _ (λ l. (here, refl))
      effect_same f i.PopLoopFrame none =
          choose_same (nat_lt f.scopes (length c.world.scopes.frames)) _ _ _ _
          (on_loop_same c.run.loops (top_loop c.world) c.world _ _ (λ l. pop_loop_same c.run.loops)) refl
      effect_same f i.EndCapture none = choose_same (nat_lt c.run.floor (length c.captures)) _ _ _ _ (end_capture_same c.captures) refl
      effect_same f i.PopAutoEscape none = pop_escape_same c.run.escapes
      effect_same f _ none = search (on_top_same, after_same, on_taken_same, counted_same, writes_same, here) depth 9

  -- ---------------------------------------------------------------- ends of runs
  back_with_same : (value : Bool) (t : RunText) (r : Activation) (ks : List Capture) (w : World) → r.stream ≡ s →
      Same (back_with value t r ks w) (back_with value t (with_caches fs ts r) ks w)
  back_with_same false t r ks w here = (here, refl)
  back_with_same true t r [] w here = refl
  back_with_same true t r (k ∷ ks) w here = (here, refl)

  pub back_same : (back : Back) (e : End) → back.run.stream ≡ s →
      Same (back_to back e) (back_to (record back { run = with_caches fs ts back.run }) e)
  back_same back (Finished vs ks w) here = back_with_same back.value back.call.text back.run ks (undone back.call.undo w) here
  back_same back (Failed chain w) here = refl
  back_same back (Stuck w) here = refl

-- ---------------------------------------------------------------- what caches hold
-- Caches hold the names of their numbers alone.
abbrev HoldOnly : List (List ℕ) → Caches → Type 0
HoldOnly names held = (k : ℕ) (x : List ℕ) → slice_get held k ≡ Some (Some x) → slice_get names k ≡ Some x

none_held : (names : List (List ℕ)) → HoldOnly names []
none_held names k x e = absurd (cc e)

-- What a cache holds once a name was put in one: the name, or one that was held before.
abbrev IsHeld : ℕ → List ℕ → Caches → ℕ → List ℕ → Type 0
IsHeld k x held j y = ((j ≡ k) × (y ≡ x)) ⊎ (slice_get held j ≡ Some (Some y))

one_on : (k : ℕ) (x : List ℕ) (hs : Caches) (h : Option (List ℕ)) (j : ℕ) (y : List ℕ) → IsHeld k x hs j y →
    IsHeld (suc k) x (h ∷ hs) (suc j) y
one_on k x hs h j y (inl is) = inl (ap (λ n. suc n) is.0, is.1)
one_on k x hs h j y (inr there) = inr there

one_more : (k : ℕ) (x : List ℕ) (j : ℕ) (y : List ℕ) → IsHeld k x [] j y → IsHeld (suc k) x [] (suc j) y
one_more k x j y (inl is) = inl (ap (λ n. suc n) is.0, is.1)
one_more k x j y (inr there) = absurd (cc there)

held_by : (k : ℕ) (x : List ℕ) (held : Caches) (j : ℕ) (y : List ℕ) → slice_get (holding k x held) j ≡ Some (Some y) →
    IsHeld k x held j y
held_by zero x [] zero y e = inl (refl, cc e)
held_by zero x [] (suc j) y e = absurd (cc e)
held_by zero x (h ∷ hs) zero y e = inl (refl, cc e)
held_by zero x (h ∷ hs) (suc j) y e = inr e
held_by (suc k) x [] zero y e = absurd (cc e)
held_by (suc k) x [] (suc j) y e = one_more k x j y (held_by k x [] j y e)
held_by (suc k) x (h ∷ hs) zero y e = inr e
held_by (suc k) x (h ∷ hs) (suc j) y e = one_on k x hs h j y (held_by k x hs j y e)

module _ (names : List (List ℕ)) (x : List ℕ) (k : ℕ) (held : Caches) (only : HoldOnly names held) where
  may_by : slice_get names k ≡ Some x → (o : Option (Option (List ℕ))) → slice_get held k ≡ o → may_hold o x ≡ true
  may_by there None e = refl
  may_by there (Some None) e = refl
  may_by there (Some (Some y)) e =
      let same : x ≡ y = let at = only k y e in cc in
      (bytes_eq-Decides x y).1 same

  named_by : slice_get names k ≡ Some x → (j : ℕ) (y : List ℕ) → IsHeld k x held j y → slice_get names j ≡ Some y
  named_by there j y (inl is) = ap (slice_get names) is.0 ∙ there ∙ ap (λ z. Some z) (sym is.1)
  named_by there j y (inr before) = only j y before

  still_only : slice_get names k ≡ Some x → HoldOnly names (holding k x held)
  still_only there j y e = named_by there j y (held_by k x held j y e)

  -- Caches can be used by names with their numbers.
  use_given : Given names x k → (next : Caches) × (used k x held ≡ Some next) × HoldOnly names next
  use_given (inl none) = (held, ap (λ n. used n x held) none, only)
  use_given (inr there) =
      let apart : nat_eq k no_cache ≡ false = grind (arith, nat_tests, there.0) in
      let may = may_by there.1 (slice_get held k) refl in
      (holding k x held, rw (apart, there.0, may) refl, still_only there.1)

-- ---------------------------------------------------------------- steps
-- of code before it has its numbers, and with them
module _ (host : HostValue) (plain coded : StreamId → List Instruction) (each : (s : StreamId) → IsNumbered (plain s) (coded s)) where
  abbrev before : Program
  before = record { host = host; code = plain }

  abbrev following : Program
  following = record { host = host; code = coded }

  abbrev Hold : StreamId → Caches → Caches → Type 0
  Hold s fs ts = HoldOnly (each s).0 fs × HoldOnly (each s).1 ts

  -- both go on alike, with caches that hold the names of their numbers
  pub record GoOn (s : StreamId) (m n : Next) : Type 0 where
    pub filters : Caches
    pub tests : Caches
    pub hold : Hold s filters tests
    pub alike : Alike s filters tests m n

  module _ (f : Base) (fs ts : Caches) (c : Config) (hold : Hold c.run.stream fs ts) where
    abbrev s : StreamId
    s = c.run.stream

    abbrev numbers : IsNumbered (plain s) (coded s)
    numbers = each s

    places : loop_places 0 (coded s) ≡ loop_places 0 (plain s)
    places = same_places numbers.0 numbers.1 0 (plain s) (coded s) numbers.2

    number : loops_before c.run.place (coded s) ≡ loops_before c.run.place (plain s)
    number = same_before numbers.0 numbers.1 c.run.place (plain s) (coded s) numbers.2

    tables : (r : StreamId) → entries (coded r) ≡ entries (plain r)
    tables r = same_entries (each r).0 (each r).1 [] None (plain r) (coded r) (each r).2

    -- an instruction that is paid for first
    abbrev step_before : Instruction → Next
    step_before x = after (pay x c.world) (λ _ w. effect before f x (with_world w c))

    abbrev step_after : Instruction → Next
    step_after x = after (pay x c.world) (λ _ w. effect following f x (with_world w (cached fs ts c)))

    other_goes : (x y : Instruction) → NoCache x → y ≡ x → GoOn s (step_before x) (step_after y)
    other_goes x y none is = record {
      filters = fs;
      tests = ts;
      hold = hold;
      alike =
          subst (λ z. Alike s fs ts (step_before x) (step_after z)) (sym is)
          (after_same s fs ts (pay x c.world) (λ _ w. effect before f x (with_world w c))
          (λ _ w. effect following f x (with_world w (cached fs ts c)))
          (λ _ w. effect_same s fs ts (with_world w c) refl host plain coded places number tables f x none));
    }

    filter_goes : (x : List ℕ) (n : Option ℕ) (k : ℕ) → Given numbers.0 x k → GoOn s (step_before (i.ApplyFilter x n no_cache))
        (step_after (i.ApplyFilter x n k))
    filter_goes x n k there =
        let given = use_given numbers.0 x k fs hold.0 there in
        record {
          filters = given.0;
          tests = ts;
          hold = (given.2, hold.1);
          alike =
              after_same s given.0 ts (pay (i.ApplyFilter x n k) c.world)
              (λ _ w. effect before f (i.ApplyFilter x n no_cache) (with_world w c))
              (λ _ w. effect following f (i.ApplyFilter x n k) (with_world w (cached fs ts c)))
              (λ _ w. subst (λ o. Alike s given.0 ts (effect before f (i.ApplyFilter x n no_cache) (with_world w c))
              (on_used o w (λ held. apply_of following applications.Filter x n (cached held ts (with_world w c))))) (sym given.1)
              (apply_same s given.0 ts (with_world w c) refl host plain coded places number tables applications.Filter x n));
        }

    test_goes : (x : List ℕ) (n : Option ℕ) (k : ℕ) → Given numbers.1 x k → GoOn s (step_before (i.PerformTest x n no_cache))
        (step_after (i.PerformTest x n k))
    test_goes x n k there =
        let given = use_given numbers.1 x k ts hold.1 there in
        record {
          filters = fs;
          tests = given.0;
          hold = (hold.0, given.2);
          alike =
              after_same s fs given.0 (pay (i.PerformTest x n k) c.world)
              (λ _ w. effect before f (i.PerformTest x n no_cache) (with_world w c))
              (λ _ w. effect following f (i.PerformTest x n k) (with_world w (cached fs ts c)))
              (λ _ w. subst (λ o. Alike s fs given.0 (effect before f (i.PerformTest x n no_cache) (with_world w c))
              (on_used o w (λ held. apply_of following applications.Test x n (cached fs held (with_world w c))))) (sym given.1)
              (apply_same s fs given.0 (with_world w c) refl host plain coded places number tables applications.Test x n));
        }

    instruction_goes : (x y : Instruction) → Numbers numbers.0 numbers.1 x y → GoOn s (step_before x) (step_after y)
    instruction_goes (i.ApplyFilter x n m) y is =
        subst (λ z. GoOn s (step_before (i.ApplyFilter x n m)) (step_after z)) (sym is.2)
        (subst (λ k. GoOn s (step_before (i.ApplyFilter x n k)) (step_after (i.ApplyFilter x n is.0))) (sym is.1)
        (filter_goes x n is.0 is.3))
    instruction_goes (i.PerformTest x n m) y is =
        subst (λ z. GoOn s (step_before (i.PerformTest x n m)) (step_after z)) (sym is.2)
        (subst (λ k. GoOn s (step_before (i.PerformTest x n k)) (step_after (i.PerformTest x n is.0))) (sym is.1)
        (test_goes x n is.0 is.3))
    instruction_goes x y is = other_goes x y tt is

    act_goes : (x y : Option Instruction) → NumbersAt numbers.0 numbers.1 x y → GoOn s (act before f x c) (act following f y (cached fs ts c))
    act_goes None None is =
        let size = as_long numbers.0 numbers.1 (plain s) (coded s) numbers.2 in
        record {
          filters = fs;
          tests = ts;
          hold = hold;
          alike = subst (λ n. Alike s fs ts (finish (length (plain s)) f c) (finish n f (cached fs ts c))) (sym size)
              (choose_same s fs ts (nat_eq c.run.place (length (plain s)) && closed f c) _ _ _ _
              (parent_same s fs ts c refl c.run.parent) refl);
        }
    act_goes (Some x) (Some y) is = instruction_goes x y is
    act_goes None (Some y) is = absurd is
    act_goes (Some x) None is = absurd is

    step_goes : GoOn s (step before f c) (step following f (cached fs ts c))
    step_goes = act_goes _ _ (numbers_at numbers.0 numbers.1 c.run.place (plain s) (coded s) numbers.2)

  -- ---------------------------------------------------------------- runs
  pub leads_too : {f : Base} {t : List ℕ} {n : Next} {o : Final} (s : StreamId) (fs ts : Caches) (m : Next) → Hold s fs ts →
      Alike s fs ts n m → Leads before f t n o → Leads following f t m o
  leads_too s fs ts m hold alike (over is end) = over (subst (λ n. Alike s fs ts n m) is alike) end
  leads_too {f = f} s fs ts m hold alike (more {c = c} is rest) =
      let on = subst (λ n. Alike s fs ts n m) is alike in
      let go = step_goes f fs ts c (subst (λ r. Hold r fs ts) (sym on.0) hold) in
      more on.1 (leads_too c.run.stream go.filters go.tests _ go.hold go.alike rest)
  leads_too {f = f} {t = t} {o = o} s fs ts m hold alike (restart {c = c} is rest) =
      let on = subst (λ n. Alike s fs ts n m) is alike in
      let go = step_goes f [] [] c (none_held (each c.run.stream).0, none_held (each c.run.stream).1) in
      let ran = leads_too c.run.stream go.filters go.tests _ go.hold go.alike rest in
      restart on.2
      (subst (λ k. Leads following f t (step following f (cached c.run.filters k c)) o) (sym on.1)
      (subst (λ k. Leads following f t (step following f (cached k [] c)) o) (sym on.0) ran))
  leads_too {t = t} s fs ts m hold alike (nest {g = g} {c = c} {back = back} {e = e} is inner rest) =
      let on = subst (λ n. Alike s fs ts n m) is alike in
      let go = step_goes g [] [] c (none_held (each c.run.stream).0, none_held (each c.run.stream).1) in
      let ran = leads_too c.run.stream go.filters go.tests _ go.hold go.alike inner in
      nest on.3
      (subst (λ k. Leads following g t (step following g (cached c.run.filters k c)) e) (sym on.2)
      (subst (λ k. Leads following g t (step following g (cached k [] c)) e) (sym on.1) ran))
      (leads_too s fs ts _ hold (back_same s fs ts back e.end on.0) rest)

  -- A run that begins with empty caches comes to the same end.
  reaches_too : (f : Base) (t : List ℕ) (c : Config) (o : Final) → c.run.filters ≡ [] → c.run.tests ≡ [] → Reaches before f t c o →
      Reaches following f t c o
  reaches_too f t c o no_filters no_tests run =
      let go = step_goes f [] [] c (none_held (each c.run.stream).0, none_held (each c.run.stream).1) in
      subst (λ k. Leads following f t (step following f (cached c.run.filters k c)) o) (sym no_tests)
      (subst (λ k. Leads following f t (step following f (cached k [] c)) o) (sym no_filters)
      (leads_too c.run.stream go.filters go.tests _ go.hold go.alike run))

  tables_too : (r : StreamId) → entries (coded r) ≡ entries (plain r)
  tables_too r = same_entries (each r).0 (each r).1 [] None (plain r) (coded r) (each r).2

  begun_too : (f : Base) (t : List ℕ) (a : Option Activation) (ks : List Capture) (w : World) (o : Final) → AreEmpty a →
      Leads before f t (begun before f a ks w) o → Leads following f t (begun following f a ks w) o
  begun_too f t None ks w o empty run = over refl (one_end run (over refl refl))
  begun_too f t (Some a) ks w o empty run = reaches_too f t (running a ks w) o empty.0 empty.1 run

  first_too : (k : Callee) (floor : ℕ) → first_run following k floor ≡ first_run before k floor
  first_too (whole r) floor = refl
  first_too (macro_of r n given) floor = ap (λ es. option_and_then (run_of_macro r given floor) (slice_get es n)) (tables_too r)

  -- A callee's run comes to the same end.
  pub begins_too : (f : Base) (t : List ℕ) (k : Callee) (ks : List Capture) (w : World) (o : Final) →
      Leads before f t (begins before f k ks w) o → Leads following f t (begins following f k ks w) o
  begins_too f t k ks w o run =
      let a = first_run before k (length ks) in
      subst (λ b. Leads following f t (begun following f b ks w) o) (sym (first_too k (length ks)))
      (begun_too f t a ks w o (starts_empty before k (length ks)) run)
