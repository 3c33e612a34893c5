-- Of which kinds the faults are in which runs of streams end, and that a run that is done has closed its captures.
use Rattle.std.proofs.Common.{◌≡◌, ℕ, ◌+◌, List, [], ◌∷◌, length, Option, Some, None, Bool, true, false, ◌&&◌, nat_lt, Ok, Err, refl, sym, subst}
use Rattle.std.proofs.Common.{eqb-true}
use Rattle.std.specs.Prelude.{slice_get, nat_eq}
use Rattle.tm_values.specs.Answer.{Answer}
use Rattle.tm_values.specs.Val.{Val, undefined}
use Rattle.tm_values.specs.declared.error.ErrorKind.{ErrorKind}
use Rattle.tm_values.specs.declared.escape.AutoEscape.{AutoEscape}
use Rattle.tm_definitions.specs.Emitted.{text_answer}
use Rattle.tm_definitions.specs.Spread.{merged}
use Rattle.tm_definitions.specs.Members.{settable}
use Rattle.tm_syntax.specs.Loops.{loops_before}
use Rattle.tm_trees.specs.Instructions.{Instruction, LoopFlags, LoopPlace}
use Rattle.tm_trees.specs.Instructions.instructions as i
use Rattle.tm_trees.specs.Trees.{Application, BinaryOperator}
use Rattle.tm_trees.specs.Trees.applications
use Rattle.tm_trees.specs.Trees.unaries
use Rattle.tm_meaning.specs.World.{choose, World, Loop, HostValue, Scope, Res, Good, Bad, bind, answered, emitted, looked_up, escape_for, items_over}
use Rattle.tm_meaning.specs.World.{enclose, module_with, unpacked_items, set_member, open_loop, push, plain_scope, loop_scope, depth}
use Rattle.tm_meaning.specs.World.{records_of, top_mark, top_loop, with_fuel, charged}
use Rattle.tm_meaning.specs.declared.base.Base.{Base}
use Rattle.tm_meaning.specs.declared.run_text.RunText.{RunText}
use Rattle.tm_meaning.specs.declared.stream.TemplateId.{TemplateId}
use Rattle.tm_meaning.specs.declared.wrapping.Wrapping.{Wrapping}
use Rattle.tm_meaning.specs.declared.wrapping.Wrapping.TheVariants as wrapping
use Rattle.tm_meaning.specs.Calls.{Callee, Asked, has, refused, runs, recurs, undone, wrapped, call_named, call_callee, applied, call_innermost}
use Rattle.tm_meaning.specs.Calls.{enter_block, enter_super, enter_include}
use Rattle.tm_meaning.specs.Meaning.{none_waits}
use Rattle.tm_meaning.specs.Inheritance.{load}
use Rattle.tm_meaning.specs.Operators.{truth, applied_unary, operated, attribute, item_at, slice_of, merged_values, items_of_lists}
use Rattle.tm_meaning.specs.Machine.{Activation, Caches, Capture, Return, Config, Program, End, Finished, Failed, Stuck, Next, More, Over, Restart}
use Rattle.tm_meaning.specs.Machine.{Nest, Back, back_to, back_with, after, on_top, on_taken, taken, on, with_world, writes, audible, base_of}
use Rattle.tm_meaning.specs.Machine.{new_capture, recursion, place_of_loop, asked, asked_in_place, first_run, running, nested}
use Rattle.tm_meaning.specs.Instructions.{apply_of, binary_of, replaces_one, replaces_two, take_counted, on_count, count_in, on_truth, iterate_with}
use Rattle.tm_meaning.specs.Instructions.{end_capture_with, on_used, used, with_filters, with_tests, pop_auto_escape_with, is_no_loop, on_loop}
use Rattle.tm_meaning.specs.Instructions.{pop_loop_with, returned, returns, with_text, closure_in, names_in, on_parts}
use Rattle.tm_meaning.specs.Steps.{effect, pay, charge_of, act, step, closed, finish, parent_next, Final, Leads, over, more, restart, nest}
use Rattle.tm_meaning.specs.Steps.{begun, begins, is_empty}
use Rattle.tm_simulation.specs.Chains.{Arises, raised, wrapped as wraps, AnswersOnly}
use Rattle.tm_simulation.specs.Kept.{in_closure_too}
use Rattle.tm_simulation.proofs.Raised.{Raises, raised_arise, truth_raises, unary_raises, binary_raises, attribute_raises, item_raises}
use Rattle.tm_simulation.proofs.Raised.{sliced_raises, merged_raises, spread_items_raises, iterated_raises, unpacked_raises, settable_raises}
use Rattle.tm_simulation.proofs.Raised.{escape_raises, text_raises}
use Rattle.tm_simulation.proofs.Advances.{one_more}
use Rattle.tm_simulation.proofs.Gives.{Gives}
use Rattle.tm_simulation.proofs.Asks.{Asks, emitted_gives, named_asks, callee_asks, applied_asks, innermost_asks, block_asks, super_asks}
use Rattle.tm_simulation.proofs.Asks.{include_asks}
use Rattle.tm_simulation.proofs.Evaluates.{looked_up_gives}
use Rattle.tm_simulation.proofs.Declares.{enclose_gives}
use Rattle.tm_simulation.proofs.Loads.{load_does, load_gives}

-- ---------------------------------------------------------------- what is said of ends
-- A fault's chain arises, and a run that is done leaves as many captures as there were when it began.
abbrev pub EndsWell : HostValue → Base → End → Type 0
EndsWell host f (Finished vs ks w) = length ks ≡ f.captures
EndsWell host f (Failed chain w) = Arises host chain
EndsWell host f (Stuck w) = Unit {0}

-- The same of what a step gives, where that is an end.
abbrev pub SoundIn : HostValue → Base → Next → Type 0
SoundIn host f (More t c) = Unit {0}
SoundIn host f (Over e) = EndsWell host f e
SoundIn host f (Restart c) = Unit {0}
SoundIn host f (Nest g c back) = Unit {0}

-- a result's chain, where it is a fault
abbrev Refuses : {A : Type 0} → HostValue → Res A → Type 0
Refuses host (Good a w) = Unit {0}
Refuses host (Bad chain w) = Arises host chain

-- ---------------------------------------------------------------- results
by_gives : {A : Type 0} (host : HostValue) (w : World) (m : Res A) → Gives host w m → Refuses host m
by_gives host w (Good a world1) h = tt
by_gives host w (Bad chain world1) h = h.1

answer_refuses : {A : Type 0} (host : HostValue) (answer : Answer A) (w : World) → AnswersOnly (Arises host) answer →
    Refuses host (answered answer w)
answer_refuses host (Ok a) w h = tt
answer_refuses host (Err chain) w h = h

by_raises : {A : Type 0} (host : HostValue) (answer : Answer A) (w : World) → Raises answer → Refuses host (answered answer w)
by_raises host answer w h = answer_refuses host answer w (raised_arise host answer h)

then_refuses : {A B : Type 0} (host : HostValue) (m : Res A) (g : A → World → Res B) → Refuses host m →
    ((a : A) (w : World) → Refuses host (g a w)) → Refuses host (bind m g)
then_refuses host (Good a w) g h k = k a w
then_refuses host (Bad chain w) g h k = h

room_refuses : (host : HostValue) (room : Bool) (s : Scope) (w : World) → Refuses host (one_more room s w)
room_refuses host true s w = tt
room_refuses host false s w = raised refl

opened_refuses : (host : HostValue) (items : List Val) (flags : LoopFlags) (n : ℕ) (w : World) →
    Refuses host (open_loop host items flags n w)
opened_refuses host items flags n w =
    let s = loop_scope (record { number = length w.loops; variable = flags.variable }) in
    then_refuses host (push host s w) _ (room_refuses host (nat_lt (depth w.scopes) host.limit) s w) (λ _ _. tt)

fuel_refuses : (host : HostValue) (left : Option ℕ) (w : World) → Refuses host (with_fuel left w)
fuel_refuses host (Some left) w = tt
fuel_refuses host None w = raised refl

wrapped_arises : (host : HostValue) (wrap : Option Wrapping) (chain : List ErrorKind) → Arises host chain → Arises host (wrapped wrap chain)
wrapped_arises host None chain h = h
wrapped_arises host (Some wrapping.EvalBlock) chain h = wraps refl h
wrapped_arises host (Some wrapping.BadInclude) chain h = wraps refl h

-- ---------------------------------------------------------------- each instruction
module _ (p : Program) (f : Base) where
  abbrev Sound : Next → Type 0
  Sound n = SoundIn p.host f n

  after_sound : {A : Type 0} (m : Res A) (next : A → World → Next) → Refuses p.host m → ((a : A) (w : World) → Sound (next a w)) →
      Sound (after m next)
  after_sound (Good a w) next h k = k a w
  after_sound (Bad chain w) next h k = h

  top_sound : (vs : List Val) (w : World) (next : Val → List Val → Next) → ((v : Val) (rest : List Val) → Sound (next v rest)) →
      Sound (on_top vs w next)
  top_sound [] w next k = tt
  top_sound (v ∷ vs) w next k = k v vs

  taken_sound : (r : Option (List Val × List Val)) (w : World) (next : List Val → List Val → Next) →
      ((vs rest : List Val) → Sound (next vs rest)) → Sound (on_taken r w next)
  taken_sound None w next k = tt
  taken_sound (Some r) w next k = k r.0 r.1

  count_sound : (n : Option ℕ) (w : World) (next : ℕ → Next) → ((n : ℕ) → Sound (next n)) → Sound (on_count n w next)
  count_sound None w next k = tt
  count_sound (Some n) w next k = k n

  counted_sound : (n : Option ℕ) (us : List Val) (w : World) (next : List Val → List Val → Next) →
      ((vs rest : List Val) → Sound (next vs rest)) → Sound (take_counted n us w next)
  counted_sound (Some n) us w next k = taken_sound (taken n [] us) w next k
  counted_sound None us w next k =
      top_sound us w _ (λ v rest. count_sound (count_in v) w _ (λ n. taken_sound (taken n [] rest) w next k))

  choose_sound : (b : Bool) (m n : Next) → (b ≡ true → Sound m) → Sound n → Sound (choose b (λ _. m) (λ _. n))
  choose_sound true m n h k = h refl
  choose_sound false m n h k = k

  loop_sound : (rs : List (Option Return)) (l : Option Loop) (w : World) (next : Loop → Next) → ((l : Loop) → Sound (next l)) →
      Sound (on_loop rs l w next)
  loop_sound [] l w next k = tt
  loop_sound (r ∷ rs) None w next k = tt
  loop_sound (r ∷ rs) (Some l) w next k = k l

  parts_sound : (own : Option (Option ℕ)) (names : Option (List (List ℕ))) (w : World) (next : Option ℕ → List (List ℕ) → Next) →
      ((own : Option ℕ) (names : List (List ℕ)) → Sound (next own names)) → Sound (on_parts own names w next)
  parts_sound None names w next k = tt
  parts_sound (Some own) None w next k = tt
  parts_sound (Some own) (Some names) w next k = k own names

  written_sound : (t : List ℕ) (c : Config) → Sound (writes f t c)
  written_sound t c = choose_sound (audible f c) _ _ (λ _. tt) tt

  one_sound : (g : Val → World → Res Val) (c : Config) → ((v : Val) → Refuses p.host (g v c.world)) → Sound (replaces_one g c)
  one_sound g c k = top_sound c.run.operands c.world _ (λ v vs. after_sound (g v c.world) _ (k v) (λ x w. tt))

  two_sound : (g : Val → Val → World → Res Val) (c : Config) → ((a b : Val) → Refuses p.host (g a b c.world)) → Sound (replaces_two g c)
  two_sound g c k =
      top_sound c.run.operands c.world _ (λ b vs. top_sound vs c.world _ (λ a rest. after_sound (g a b c.world) _ (k a b) (λ x w. tt)))

  operated_refuses : (op : BinaryOperator) (x y : Val) (w : World) → Refuses p.host (operated p.host op x y w)
  operated_refuses op x y w = by_raises p.host _ w (binary_raises op p.host.undefined (records_of w) x y)

  binary_sound : (op : BinaryOperator) (c : Config) → Sound (binary_of p.host op c)
  binary_sound op c = two_sound (operated p.host op) c (λ a b. operated_refuses op a b c.world)

  truth_sound : (c : Config) (first other : Val → List Val → World → Next) → ((v : Val) (vs : List Val) (w : World) → Sound (first v vs w)) →
      ((v : Val) (vs : List Val) (w : World) → Sound (other v vs w)) →
      Sound (on_truth p.host c (λ b v vs w. choose b (λ _. first v vs w) (λ _. other v vs w)))
  truth_sound c first other h k =
      top_sound c.run.operands c.world _ (λ v vs.
      after_sound (truth p.host v c.world) _ (by_raises p.host _ c.world (truth_raises p.host.undefined v)) (λ b w.
      choose_sound b (first v vs w) (other v vs w) (λ _. h v vs w) (k v vs w)))

  recursion_sound : (c : Config) (value : Bool) (vs : List Val) (ks : List Capture) (n : ℕ) (l : Option LoopPlace) (items : List Val)
      (w : World) → Sound (recursion p c value vs ks n l items w)
  recursion_sound c value vs ks n None items w = raised refl
  recursion_sound c value vs ks n (Some l) items w =
      choose_sound l.flags.recursive _ _
      (λ _. after_sound (open_loop p.host items l.flags n w) _ (opened_refuses p.host items l.flags n w) (λ _ world1. tt)) (raised refl)

  nested_sound : (a : Option Activation) (heard : Bool) (ks : List Capture) (w : World) (back : Back) → Sound (nested a heard ks w back)
  nested_sound None heard ks w back = wrapped_arises p.host back.call.wrap _ (raised refl)
  nested_sound (Some a) heard ks w back = tt

  asked_sound : (c : Config) (vs : List Val) (x : World) (q : Asked) → Asks p.host x q → Sound (asked p c vs q)
  asked_sound c vs x (has v w) h = tt
  asked_sound c vs x (refused chain w) h = h.1
  asked_sound c vs x (runs k w) h =
      let ks = new_capture true ∷ c.captures in nested_sound (first_run p k.callee (length ks)) true ks w _
  asked_sound c vs x (recurs n items w) h = recursion_sound c true vs (new_capture true ∷ c.captures) n (place_of_loop p c n) items w

  placed_sound : (c : Config) (vs : List Val) (x : World) (q : Asked) → Asks p.host x q → Sound (asked_in_place p f c vs q)
  placed_sound c vs x (has v w) h = tt
  placed_sound c vs x (refused chain w) h = h.1
  placed_sound c vs x (runs k w) h = nested_sound (first_run p k.callee (length c.captures)) (audible f c) c.captures w _
  placed_sound c vs x (recurs n items w) h = recursion_sound c false vs c.captures n (place_of_loop p c n) items w

  text_sound : (parent : Option TemplateId) (ks : List Capture) (c : Config) → Sound (with_text parent ks c)
  text_sound parent [] c = tt
  text_sound parent (k ∷ ks) c = tt

  returns_sound : (r : Return) (value : Bool) (c : Config) → Sound (returns r value c)
  returns_sound r false c = tt
  returns_sound r true c = text_sound r.parent c.captures c

  left_sound : (rs : List (Option Return)) (c : Config) → Sound (pop_loop_with rs c)
  left_sound [] c = tt
  left_sound (None ∷ rs) c = tt
  left_sound (Some r ∷ rs) c = returns_sound r r.value (returned r rs c)

  iterated_sound : (v : Option Val) (n : ℕ) (c : Config) → Sound (iterate_with v n c)
  iterated_sound None n c = tt
  iterated_sound (Some v) n c = tt

  capture_sound : (ks : List Capture) (c : Config) → Sound (end_capture_with ks c)
  capture_sound [] c = tt
  capture_sound (k ∷ ks) c = tt

  escape_sound : (es : List AutoEscape) (c : Config) → Sound (pop_auto_escape_with es c)
  escape_sound [] c = tt
  escape_sound (e ∷ es) c = tt

  used_sound : (o : Option Caches) (w : World) (next : Caches → Next) → ((held : Caches) → Sound (next held)) → Sound (on_used o w next)
  used_sound None w next k = tt
  used_sound (Some held) w next k = k held

  apply_sound : (k : Application) (x : List ℕ) (n : Option ℕ) (c : Config) → Sound (apply_of p k x n c)
  apply_sound k x n c =
      counted_sound n c.run.operands c.world _ (λ vs rest.
      asked_sound c rest c.world (applied p.host k x vs c.world) (applied_asks in_closure_too p.host k x vs c.world))

  -- the captures that a run opened are closed where all is that it opened
  left_true : (a b : Bool) → (a && b) ≡ true → a ≡ true
  left_true true b e = refl
  left_true false b e = e

  right_true : (a b : Bool) → (a && b) ≡ true → b ≡ true
  right_true true b e = e
  right_true false b e = absurd (cc e)

  captures_closed : (c : Config) → closed f c ≡ true → length c.captures ≡ f.captures
  captures_closed c e =
      let here = nat_eq f.captures (length c.captures) in
      let scopes = nat_eq f.scopes (length c.world.scopes.frames) in
      let escapes = is_empty c.run.escapes in
      let most = left_true (here && scopes && escapes) (is_empty c.run.loops) e in
      sym (eqb-true f.captures (length c.captures) (left_true here scopes (left_true (here && scopes) escapes most)))

  effect_sound : (x : Instruction) (c : Config) → Sound (effect p f x c)
  effect_sound (i.EmitRaw t) c = written_sound t (on c.run.operands c)
  effect_sound i.Emit c =
      top_sound c.run.operands c.world _ (λ v vs.
      after_sound (emitted p.host v c.world) _ (by_gives p.host c.world _ (emitted_gives in_closure_too p.host v c.world)) (λ t w.
      written_sound t (on vs (with_world w c))))
  effect_sound (i.Lookup x) c =
      after_sound (looked_up p.host x c.world) _ (by_gives p.host c.world _ (looked_up_gives in_closure_too p.host x c.world)) (λ v w. tt)
  effect_sound (i.LoadConst v) c = tt
  effect_sound (i.GetAttr x) c =
      one_sound (λ v w. attribute p.host v x w) c (λ v.
      by_raises p.host _ c.world (attribute_raises p.host.undefined (records_of c.world) v x))
  effect_sound i.GetItem c =
      two_sound (item_at p.host) c (λ v k. by_raises p.host _ c.world (item_raises p.host.undefined (records_of c.world) v k))
  effect_sound i.Slice c =
      top_sound c.run.operands c.world _ (λ by vs. top_sound vs c.world _ (λ stop us. top_sound us c.world _ (λ start ts.
      top_sound ts c.world _ (λ v rest. after_sound (slice_of p.host v start stop by c.world) _
      (by_raises p.host _ c.world (sliced_raises p.host.undefined v start stop by)) (λ x w. tt)))))
  effect_sound (i.BuildList n) c = counted_sound n c.run.operands c.world _ (λ vs rest. tt)
  effect_sound (i.BuildTuple n) c = counted_sound (Some n) c.run.operands c.world _ (λ vs rest. tt)
  effect_sound (i.BuildMap n) c = taken_sound (taken (n + n) [] c.run.operands) c.world _ (λ vs rest. tt)
  effect_sound (i.BuildKwargs n) c = taken_sound (taken (n + n) [] c.run.operands) c.world _ (λ vs rest. tt)
  effect_sound (i.MergeKwargs n) c =
      taken_sound (taken n [] c.run.operands) c.world _ (λ vs rest. after_sound (merged_values p.host vs c.world) _
      (then_refuses p.host (answered (merged p.host.undefined (records_of c.world) vs) c.world) _
      (by_raises p.host _ c.world (merged_raises p.host.undefined (records_of c.world) vs)) (λ ps w. tt)) (λ v w. tt))
  effect_sound (i.UnpackLists n) c =
      taken_sound (taken n [] c.run.operands) c.world _ (λ vs rest. after_sound (items_of_lists p.host vs c.world) _
      (by_raises p.host _ c.world (spread_items_raises p.host.undefined (records_of c.world) vs)) (λ us w. tt))
  effect_sound (i.CompareAndPreserve op) c =
      top_sound c.run.operands c.world _ (λ b vs. top_sound vs c.world _ (λ a rest.
      after_sound (operated p.host op a b c.world) _ (operated_refuses op a b c.world) (λ x w. tt)))
  effect_sound i.Neg c =
      one_sound (applied_unary p.host unaries.Negate) c (λ v.
      by_raises p.host _ c.world (unary_raises unaries.Negate p.host.undefined v))
  effect_sound i.Not c =
      one_sound (applied_unary p.host unaries.Not) c (λ v. by_raises p.host _ c.world (unary_raises unaries.Not p.host.undefined v))
  effect_sound i.IsUndefined c = top_sound c.run.operands c.world _ (λ v vs. tt)
  effect_sound i.Swap c = top_sound c.run.operands c.world _ (λ b vs. top_sound vs c.world _ (λ a rest. tt))
  effect_sound i.DupTop c = top_sound c.run.operands c.world _ (λ v vs. tt)
  effect_sound i.DiscardTop c = top_sound c.run.operands c.world _ (λ v vs. tt)
  effect_sound (i.Jump n) c = tt
  effect_sound (i.JumpIfFalse n) c = truth_sound c _ _ (λ v vs w. tt) (λ v vs w. tt)
  effect_sound (i.JumpIfFalseOrPop n) c = truth_sound c _ _ (λ v vs w. tt) (λ v vs w. tt)
  effect_sound (i.JumpIfTrueOrPop n) c = truth_sound c _ _ (λ v vs w. tt) (λ v vs w. tt)
  effect_sound (i.CallFunction x n) c =
      counted_sound n c.run.operands c.world _ (λ vs rest.
      asked_sound c rest c.world (call_named p.host x vs c.world) (named_asks in_closure_too p.host x vs c.world))
  effect_sound (i.CallMethod x n) c = apply_sound applications.Method x n c
  effect_sound (i.CallObject n) c =
      counted_sound n c.run.operands c.world _ (λ vs rest.
      asked_sound c rest c.world (call_callee p.host vs c.world) (callee_asks in_closure_too p.host vs c.world))
  effect_sound (i.ApplyFilter x n cache) c =
      used_sound (used cache x c.run.filters) c.world _ (λ held. apply_sound applications.Filter x n (with_filters held c))
  effect_sound (i.PerformTest x n cache) c =
      used_sound (used cache x c.run.tests) c.world _ (λ held. apply_sound applications.Test x n (with_tests held c))
  effect_sound i.FastRecurse c =
      top_sound c.run.operands c.world _ (λ v vs.
      placed_sound c vs c.world (call_innermost p.host v c.world) (innermost_asks in_closure_too p.host v c.world))
  effect_sound (i.CallBlock b) c =
      choose_sound (none_waits c.run.parent && audible f c) _ _
      (λ _. placed_sound c c.run.operands c.world (enter_block p.host b c.world) (block_asks in_closure_too p.host b c.world)) tt
  effect_sound i.FastSuper c =
      placed_sound c c.run.operands c.world (enter_super p.host c.world) (super_asks in_closure_too p.host c.world)
  effect_sound i.LoadBlocks c =
      let inside = nat_lt f.captures (length c.captures) in
      top_sound c.run.operands c.world _ (λ v vs. after_sound (load p.host v c.run.parent inside c.world) _
      (by_gives p.host c.world _ (load_gives p.host c.run.parent c.world _ (load_does p.host v c.run.parent inside c.world))) (λ t w. tt))
  effect_sound (i.Include missing) c =
      top_sound c.run.operands c.world _ (λ v vs. placed_sound c vs c.world (enter_include p.host true v missing c.world)
      (include_asks in_closure_too p.host true v missing c.world))
  effect_sound i.IncludeModule c =
      top_sound c.run.operands c.world _ (λ v vs. placed_sound c vs c.world (enter_include p.host false v false c.world)
      (include_asks in_closure_too p.host false v false c.world))
  effect_sound i.ExportLocals c =
      top_sound c.run.operands c.world _ (λ v vs. after_sound (module_with v c.world) _
      (then_refuses p.host (answered (text_answer (records_of c.world) v) c.world) _
      (by_raises p.host _ c.world (text_raises (records_of c.world) v)) (λ t w. tt)) (λ m w. tt))
  effect_sound (i.StoreLocal x) c = top_sound c.run.operands c.world _ (λ v vs. tt)
  effect_sound (i.Enclose x) c =
      after_sound (enclose p.host x c.world) _ (by_gives p.host c.world _ (enclose_gives p.host x c.world)) (λ _ w. tt)
  effect_sound i.GetClosure c = tt
  effect_sound (i.BuildMacro x place caller) c =
      top_sound c.run.operands c.world _ (λ names vs. top_sound vs c.world _ (λ closure rest.
      parts_sound (closure_in closure) (names_in names) c.world _ (λ own arguments. tt)))
  effect_sound i.Return c = choose_sound (closed f c) _ _ (λ e. captures_closed c e) tt
  effect_sound (i.UnpackList n) c =
      top_sound c.run.operands c.world _ (λ v vs. after_sound (unpacked_items n v c.world) _
      (by_raises p.host _ c.world (unpacked_raises (records_of c.world) n v)) (λ xs w. tt))
  effect_sound (i.SetAttr x) c =
      top_sound c.run.operands c.world _ (λ o vs. top_sound vs c.world _ (λ v rest. after_sound (set_member x v o c.world) _
      (then_refuses p.host (answered (settable (records_of c.world) o) c.world) _
      (by_raises p.host _ c.world (settable_raises (records_of c.world) o)) (λ n w. tt)) (λ _ w. tt)))
  effect_sound i.PushWith c =
      let s = plain_scope (undefined false) in
      after_sound (push p.host s c.world) _ (room_refuses p.host (nat_lt (depth c.world.scopes) p.host.limit) s c.world) (λ _ w. tt)
  effect_sound i.PopFrame c =
      choose_sound (nat_lt f.scopes (length c.world.scopes.frames) && is_no_loop (top_mark c.world.scopes.frames)) _ _ (λ _. tt) tt
  effect_sound (i.PushLoop flags) c =
      let n = loops_before c.run.place (p.code c.run.stream) in
      top_sound c.run.operands c.world _ (λ v vs. after_sound (items_over p.host v c.world) _
      (by_raises p.host _ c.world (iterated_raises p.host.undefined (records_of c.world) v)) (λ items w.
      after_sound (open_loop p.host items flags n w) _ (opened_refuses p.host items flags n w) (λ _ world1. tt)))
  effect_sound (i.Iterate n) c =
      loop_sound c.run.loops (top_loop c.world) c.world _ (λ l. iterated_sound (slice_get l.items l.turns) n c)
  effect_sound i.PushDidNotIterate c = loop_sound c.run.loops (top_loop c.world) c.world _ (λ l. tt)
  effect_sound i.PopLoopFrame c =
      choose_sound (nat_lt f.scopes (length c.world.scopes.frames)) _ _
      (λ _. loop_sound c.run.loops (top_loop c.world) c.world _ (λ l. left_sound c.run.loops c)) tt
  effect_sound (i.BeginCapture mode) c = tt
  effect_sound i.EndCapture c =
      choose_sound (nat_lt c.run.floor (length c.captures)) _ _ (λ _. capture_sound c.captures c) tt
  effect_sound i.PushAutoEscape c =
      top_sound c.run.operands c.world _ (λ v vs. after_sound (answered (escape_for f.first v) c.world) _
      (by_raises p.host _ c.world (escape_raises f.first v)) (λ e w. tt))
  effect_sound i.PopAutoEscape c = escape_sound c.run.escapes c
  -- the operators of two operands
  effect_sound _ c = search binary_sound

  -- ---------------------------------------------------------------- steps
  parent_sound : (q : Option TemplateId) (c : Config) → length c.captures ≡ f.captures → Sound (parent_next q c)
  parent_sound None c h = h
  parent_sound (Some t) c h = tt

  finish_sound : (size : ℕ) (c : Config) → Sound (finish size f c)
  finish_sound size c =
      let last = nat_eq c.run.place size in
      choose_sound (last && closed f c) _ _ (λ e. parent_sound c.run.parent c (captures_closed c (right_true last (closed f c) e))) tt

  act_sound : (o : Option Instruction) (c : Config) → Sound (act p f o c)
  act_sound None c = finish_sound (length (p.code c.run.stream)) c
  act_sound (Some x) c =
      after_sound (pay x c.world) _ (fuel_refuses p.host (charged (charge_of x) c.world.fuel) c.world) (λ _ w. effect_sound x (with_world w c))

  step_sound : (c : Config) → Sound (step p f c)
  step_sound c = act_sound (slice_get (p.code c.run.stream) c.run.place) c

  -- ---------------------------------------------------------------- after a nested run
  back_with_sound : (value : Bool) (t : RunText) (r : Activation) (ks : List Capture) (w : World) → Sound (back_with value t r ks w)
  back_with_sound false t r ks w = tt
  back_with_sound true t r [] w = tt
  back_with_sound true t r (k ∷ ks) w = tt

  back_sound : (g : Base) (back : Back) (e : End) → EndsWell p.host g e → Sound (back_to back e)
  back_sound g back (Finished vs ks w) h = back_with_sound back.value back.call.text back.run ks (undone back.call.undo w)
  back_sound g back (Failed chain w) h = wrapped_arises p.host back.call.wrap chain h
  back_sound g back (Stuck w) h = tt

-- ---------------------------------------------------------------- runs
module _ (p : Program) where
  ends_well : {f : Base} {t : List ℕ} {n : Next} {o : Final} → SoundIn p.host f n → Leads p f t n o → EndsWell p.host f o.end
  ends_well {f = f} h (over {e = e} is end) =
      subst (λ (x : Final). EndsWell p.host f x.end) (sym end) (subst (λ n. SoundIn p.host f n) is h)
  ends_well {f = f} h (more {c = c} is rest) = ends_well (step_sound p f c) rest
  ends_well {f = f} h (restart {c = c} is rest) = ends_well (step_sound p f c) rest
  ends_well {f = f} h (nest {g = g} {c = c} {back = back} {e = e} is inner rest) =
      ends_well (back_sound p f g back e.end (ends_well (step_sound p g c) inner)) rest

  begun_sound : (f : Base) (a : Option Activation) (ks : List Capture) (w : World) → SoundIn p.host f (begun p f a ks w)
  begun_sound f None ks w = raised refl
  begun_sound f (Some a) ks w = step_sound p f (running a ks w)

  -- A run of a callee ends well.
  pub run_ends_well : (k : Callee) (heard : Bool) (ks : List Capture) (t : List ℕ) (w : World) (o : Final) →
      Leads p (base_of heard ks w) t (begins p (base_of heard ks w) k ks w) o → EndsWell p.host (base_of heard ks w) o.end
  run_ends_well k heard ks t w o run = ends_well (begun_sound (base_of heard ks w) (first_run p k (length ks)) ks w) run
