-- Less is left of a run after each step.
use Rattle.std.proofs.Common.{◌≡◌, ℕ, zero, suc, ◌+◌, ◌*◌, ◌<◌, ◌≤◌, ◌⊎◌, inl, inr, List, [], ◌∷◌, length, Option, None, Some, Result, Ok}
use Rattle.std.proofs.Common.{Err, Bool, true, false, ◌∙◌, ◌&&◌, nat_lt, slice_get, refl, sym, ap, subst, arith}
use Rattle.std.proofs.Math.Nat.{mul-le-mul_right, suc-mul}
use Rattle.tm_values.specs.Val.{Val, undefined}
use Rattle.tm_values.specs.declared.escape.AutoEscape.{AutoEscape}
use Rattle.tm_syntax.specs.Loops.{loops_before}
use Rattle.tm_trees.specs.Instructions.{Instruction, LoopPlace}
use Rattle.tm_trees.specs.Instructions.instructions as i
use Rattle.tm_trees.specs.Trees.{Application}
use Rattle.tm_trees.specs.Trees.applications
use Rattle.tm_trees.specs.Trees.unaries
use Rattle.tm_meaning.specs.World.{choose, World, Loop, HostValue, Res, Good, Bad, answered, emitted, looked_up, escape_for, items_over}
use Rattle.tm_meaning.specs.World.{enclose, make_macro, module_with, unpacked_items, set_member, open_loop, top_mark, top_loop, push, plain_scope}
use Rattle.tm_meaning.specs.Calls.{Asked, has, refused, runs, recurs, call_named, call_callee, applied, call_innermost, enter_block}
use Rattle.tm_meaning.specs.Meaning.{none_waits}
use Rattle.tm_meaning.specs.Operators.{truth, applied_unary, operated, attribute, item_at, slice_of, merged_values, items_of_lists}
use Rattle.tm_meaning.specs.Instructions.{apply_of, replaces_one, replaces_two, take_counted, on_count, count_in, on_truth, iterate_with}
use Rattle.tm_meaning.specs.Instructions.{end_capture_with, on_used, used, with_filters, with_tests}
use Rattle.tm_meaning.specs.Instructions.{pop_auto_escape_with, is_no_loop, on_loop, pop_loop_with, returned, returns, with_text}
use Rattle.tm_meaning.specs.Machine.{Caches}
use Rattle.tm_meaning.specs.Machine.{Activation, Capture, Return, Config, Program, End, Failed, Stuck, Next, More, Over, Nest, Back, after}
use Rattle.tm_meaning.specs.Machine.{on_top, on_taken, taken, on, with_world, writes, audible, new_capture, recursion, place_of_loop, asked}
use Rattle.tm_meaning.specs.Machine.{Finished, Stuck, asked_in_place, back_to, back_with, first_run, goes, nested}
use Rattle.tm_meaning.specs.Instructions.{closure_in, names_in, on_parts}
use Rattle.tm_meaning.specs.Steps.{charge_of, closed, effect}
use Rattle.tm_state.specs.Answers.{call_of}
use Rattle.tm_syntax.specs.Entries.{entry_number}
use Rattle.tm_meaning.specs.declared.base.Base.{Base}
use Rattle.tm_meaning.specs.declared.stream.TemplateId.{TemplateId}
use Rattle.tm_parts.specs.declared.halt.Halt.{Halt}
use Rattle.tm_output.specs.Counts.{Told}
use Rattle.tm_vm.specs.Answers.{Finishes, Performs, Paid, StaysRun, parents_left, pending, returns_left, waits, waits_in, weight}
use Rattle.std.specs.Prelude.{not, is_none}
use Rattle.tm_values.specs.Answer.{Answer}
use Rattle.tm_values.specs.Val.{text_in}
use Rattle.tm_values.specs.declared.error.ErrorKind.{ErrorKind}
use Rattle.tm_syntax.specs.Names.{is_among}
use Rattle.tm_meaning.specs.World.{bind, need, check, find, name_of}
use Rattle.tm_meaning.specs.Inheritance.{count_left, load, names_left}
use Rattle.tm_meaning.specs.Instructions.{awaiting}
use Rattle.tm_meaning.specs.Calls.{enter_include, enter_super, undone}
use Rattle.tm_meaning.specs.declared.run_text.RunText.{RunText}
use Rattle.tm_meaning.specs.Machine.{Restart}
use Rattle.tm_meaning.proofs.Loaded.{count_loaded}
use Rattle.tm_vm.specs.declared.flow.Flow.{Flow}
use Rattle.tm_vm.specs.declared.flow.Flow.TheVariants as flow

-- ---------------------------------------------------------------- what is left
pub less_returns : (size : ℕ) (old new : Config) → returns_left new < returns_left old → weight size new < weight size old
less_returns size old new less =
    let step : suc (returns_left new) ≤ returns_left old = omega (arith, less) in
    let more : suc (returns_left new) * (size + 1) ≤ returns_left old * (size + 1) = mul-le-mul_right (size + 1) step in
    let unit : suc (returns_left new) * (size + 1) ≡ returns_left new * (size + 1) + (size + 1) = suc-mul (returns_left new) (size + 1) in
    omega (arith, more, unit)

next_place : (size : ℕ) (old new : Config) → returns_left new ≤ returns_left old → new.run.place ≡ old.run.place + 1 →
    old.run.place < size → weight size new < weight size old
next_place size old new left place within =
    let more : returns_left new * (size + 1) ≤ returns_left old * (size + 1) = mul-le-mul_right (size + 1) left in
    omega (arith, more, place, within)

-- a nested run leaves no more fuel, and the loops of the run that waited
pub less_after : (size : ℕ) (old mid new : Config) → returns_left mid < returns_left old → new.world.fuel ≤ mid.world.fuel →
    new.run.loops ≡ mid.run.loops → weight size new < weight size old
less_after size old mid new less fuel same =
    let loops : pending new.run.loops ≡ pending mid.run.loops = ap pending same in
    less_returns size old new (omega (arith, less, fuel, loops))

-- nor more parents
pub parents_after : (host : HostValue) (old mid new : Config) → waits mid.run ≤ waits old.run → mid.world.loaded ≡ old.world.loaded →
    names_left host new.world ≤ names_left host mid.world → StaysRun mid.run new.run → parents_left host new ≤ parents_left host old
parents_after host old mid new wait names less stays =
    let left : names_left host mid.world ≡ names_left host old.world = ap (count_left host.templates) names in
    let same : waits new.run ≡ waits mid.run = ap (λ rs. waits_in new.run.parent rs) stays.1 ∙ ap (λ q. waits_in q mid.run.loops) stays.2 in
    omega (arith, wait, less, left, same)

-- ---------------------------------------------------------------- each instruction
module _ (Holds : Next → Type 0) (over : (e : End) → Holds (Over e)) where
  after_all : {A : Type 0} (m : Res A) (next : A → World → Next) → ((a : A) (w : World) → Holds (next a w)) → Holds (after m next)
  after_all (Good a w) next k = k a w
  after_all (Bad chain w) next k = over (Failed chain w)

  on_top_all : (vs : List Val) (w : World) (next : Val → List Val → Next) → ((v : Val) (rest : List Val) → Holds (next v rest)) →
      Holds (on_top vs w next)
  on_top_all [] w next k = over (Stuck w)
  on_top_all (v ∷ vs) w next k = k v vs

  on_taken_all : (r : Option (List Val × List Val)) (w : World) (next : List Val → List Val → Next) →
      ((vs rest : List Val) → Holds (next vs rest)) → Holds (on_taken r w next)
  on_taken_all None w next k = over (Stuck w)
  on_taken_all (Some r) w next k = k r.0 r.1

  on_count_all : (n : Option ℕ) (w : World) (next : ℕ → Next) → ((n : ℕ) → Holds (next n)) → Holds (on_count n w next)
  on_count_all None w next k = over (Stuck w)
  on_count_all (Some n) w next k = k n

  choose_all : (b : Bool) (m n : Next) → Holds m → Holds n → Holds (choose b (λ _. m) (λ _. n))
  choose_all true m n h k = h
  choose_all false m n h k = k

  on_loop_all : (rs : List (Option Return)) (l : Option Loop) (w : World) (next : Loop → Next) → ((l : Loop) → Holds (next l)) →
      Holds (on_loop rs l w next)
  on_loop_all [] l w next k = over (Stuck w)
  on_loop_all (r ∷ rs) None w next k = over (Stuck w)
  on_loop_all (r ∷ rs) (Some l) w next k = k l

  on_parts_all : (own : Option (Option ℕ)) (names : Option (List (List ℕ))) (w : World)
      (next : Option ℕ → List (List ℕ) → Next) → ((own : Option ℕ) (names : List (List ℕ)) → Holds (next own names)) →
      Holds (on_parts own names w next)
  on_parts_all None names w next k = over (Stuck w)
  on_parts_all (Some own) None w next k = over (Stuck w)
  on_parts_all (Some own) (Some names) w next k = k own names

-- A parent waits only where one did, or one was loaded.
abbrev Follows : HostValue → Config → Config → Type 0
Follows host c d = (waits d.run ≤ waits c.run) ⊎ ((waits d.run ≤ waits c.run + 1) × (names_left host d.world + 1 ≤ names_left host c.world))

-- At most so many loops more that were called are open. No effect restarts.
abbrev Adds : HostValue → ℕ → Config → Next → Type 0
Adds host n c (More t d) = (pending d.run.loops ≤ pending c.run.loops + n) × Follows host c d
Adds host n c (Over e) = Unit {0}
Adds host n c (Restart d) = ⊥
Adds host n c (Nest g d back) = (pending back.run.loops ≤ pending c.run.loops + n) × (waits back.run ≤ waits c.run)

ends_adds : (host : HostValue) (n : ℕ) (c : Config) (e : End) → Adds host n c (Over e)
ends_adds host n c e = tt

none_more : {B : Type 0} (n : ℕ) (c : Config) → (pending c.run.loops ≤ pending c.run.loops + n) × ((waits c.run ≤ waits c.run) ⊎ B)
none_more n c = (omega arith, inl (omega arith))

-- a loop that wasn't called is no matter, nor where one goes on that is called now
past_none : (q : Option TemplateId) (rs : List (Option Return)) → waits_in q (None ∷ rs) ≡ waits_in q rs
past_none (Some t) rs = refl
past_none None rs = refl

past_called : (q : Option TemplateId) (r : Return) (rs : List (Option Return)) → r.parent ≡ q → waits_in q (Some r ∷ rs) ≤ waits_in q rs
past_called (Some t) r rs same = omega arith
past_called None r rs same = let e : waits_in r.parent rs ≡ waits_in None rs = ap (λ q. waits_in q rs) same in omega (arith, e)

at_most_one : (q : Option TemplateId) (rs : List (Option Return)) → waits_in q rs ≤ 1
at_most_one (Some t) rs = omega arith
at_most_one None [] = omega arith
at_most_one None (None ∷ rs) = at_most_one None rs
at_most_one None (Some r ∷ rs) = at_most_one r.parent rs

-- after a called loop the parent waits that waits now, or that waited at the call
same_waits : (q : Option TemplateId) (r : Return) (rs : List (Option Return)) → waits_in q rs ≤ waits_in q (Some r ∷ rs)
same_waits (Some t) r rs = omega arith
same_waits None r rs = by_parent r.parent
  where
    by_parent : (o : Option TemplateId) → waits_in None rs ≤ waits_in o rs
    by_parent None = omega arith
    by_parent (Some t) = at_most_one None rs

back_waits : (q : Option TemplateId) (r : Return) (rs : List (Option Return)) → waits_in r.parent rs ≤ waits_in q (Some r ∷ rs)
back_waits (Some t) r rs = at_most_one r.parent rs
back_waits None r rs = omega arith

one_replaced : (host : HostValue) (g : Val → World → Res Val) (c : Config) → Adds host 1 c (replaces_one g c)
one_replaced host g c = on_top_all (Adds host 1 c) (ends_adds host 1 c) c.run.operands c.world _
    (λ v vs. after_all (Adds host 1 c) (ends_adds host 1 c) (g v c.world) _ (λ x w. none_more 1 c))

two_replaced : (host : HostValue) (g : Val → Val → World → Res Val) (c : Config) → Adds host 1 c (replaces_two g c)
two_replaced host g c =
    on_top_all (Adds host 1 c) (ends_adds host 1 c) c.run.operands c.world _ (λ b vs. on_top_all (Adds host 1 c) (ends_adds host 1 c) vs c.world _ (λ a rest.
    after_all (Adds host 1 c) (ends_adds host 1 c) (g a b c.world) _ (λ x w. none_more 1 c)))

written_adds : (host : HostValue) (n : ℕ) (c d : Config) (f : Base) (t : List ℕ) → d.run.loops ≡ c.run.loops → waits d.run ≤ waits c.run →
    Adds host n c (writes f t d)
written_adds host n c d f t same less = choose_all (Adds host n c) (ends_adds host n c) (audible f d) _ _ (omega (arith, ap pending same), inl less)
    (omega (arith, ap pending same), inl less)

counted_adds : (host : HostValue) (k : ℕ) (n : Option ℕ) (us : List Val) (c : Config) (f : List Val → List Val → Next) →
    ((vs rest : List Val) → Adds host k c (f vs rest)) → Adds host k c (take_counted n us c.world f)
counted_adds host k (Some n) us c f h = on_taken_all (Adds host k c) (ends_adds host k c) (taken n [] us) c.world f h
counted_adds host k None us c f h =
    on_top_all (Adds host k c) (ends_adds host k c) us c.world _ (λ v rest. on_count_all (Adds host k c) (ends_adds host k c) (count_in v) c.world _ (λ n.
    on_taken_all (Adds host k c) (ends_adds host k c) (taken n [] rest) c.world f h))

on_truth_adds : (host : HostValue) (c : Config) (first other : Val → List Val → World → Next) →
    ((v : Val) (vs : List Val) (w : World) → Adds host 1 c (first v vs w)) → ((v : Val) (vs : List Val) (w : World) → Adds host 1 c (other v vs w)) →
    Adds host 1 c (on_truth host c (λ b v vs w. choose b (λ _. first v vs w) (λ _. other v vs w)))
on_truth_adds host c first other h k =
    on_top_all (Adds host 1 c) (ends_adds host 1 c) c.run.operands c.world _
    (λ v vs. after_all (Adds host 1 c) (ends_adds host 1 c) (truth host v c.world) _ (λ b w.
    choose_all (Adds host 1 c) (ends_adds host 1 c) b (first v vs w) (other v vs w) (h v vs w) (k v vs w)))

-- where a loop goes on that is called over these operands
abbrev called_from : Config → List Val → Bool → Return
called_from c vs value = record {
  place = c.run.place + 1;
  operands = vs;
  escapes = c.run.escapes;
  floor = c.run.floor;
  parent = c.run.parent;
  value = value;
}

recursion_adds : (p : Program) (c : Config) (value : Bool) (vs : List Val) (ks : List Capture) (n : ℕ) (l : Option LoopPlace)
    (items : List Val) (w : World) → Adds p.host 1 c (recursion p c value vs ks n l items w)
recursion_adds p c value vs ks n None items w = tt
recursion_adds p c value vs ks n (Some l) items w =
    choose_all (Adds p.host 1 c) (ends_adds p.host 1 c) l.flags.recursive _ _
    (after_all (Adds p.host 1 c) (ends_adds p.host 1 c) (open_loop p.host items l.flags n w) _
    (λ _ world1. (omega arith, inl (past_called c.run.parent (called_from c vs value) c.run.loops refl)))) tt

-- a run of its own leaves the loops of the run that waits
nested_adds : (host : HostValue) (c : Config) (a : Option Activation) (heard : Bool) (ks : List Capture) (w : World) (back : Back) →
    back.run.loops ≡ c.run.loops → waits back.run ≤ waits c.run → Adds host 1 c (nested a heard ks w back)
nested_adds host c None heard ks w back same less = tt
nested_adds host c (Some a) heard ks w back same less = (omega (arith, ap pending same), less)

asked_adds : (p : Program) (c : Config) (vs : List Val) (a : Asked) → Adds p.host 1 c (asked p c vs a)
asked_adds p c vs (has v w) = none_more 1 c
asked_adds p c vs (refused chain w) = tt
asked_adds p c vs (runs k w) =
    nested_adds p.host c (first_run p k.callee (length (new_capture true ∷ c.captures))) true (new_capture true ∷ c.captures) w _ refl (omega arith)
asked_adds p c vs (recurs n items w) = recursion_adds p c true vs (new_capture true ∷ c.captures) n (place_of_loop p c n) items w

asked_in_place_adds : (p : Program) (f : Base) (c : Config) (vs : List Val) (a : Asked) → Adds p.host 1 c (asked_in_place p f c vs a)
asked_in_place_adds p f c vs (has v w) = none_more 1 c
asked_in_place_adds p f c vs (refused chain w) = tt
asked_in_place_adds p f c vs (runs k w) =
    nested_adds p.host c (first_run p k.callee (length c.captures)) (audible f c) c.captures w _ refl (omega arith)
asked_in_place_adds p f c vs (recurs n items w) = recursion_adds p c false vs c.captures n (place_of_loop p c n) items w

text_adds : (host : HostValue) (n : ℕ) (c d : Config) (parent : Option TemplateId) (ks : List Capture) →
    pending d.run.loops ≤ pending c.run.loops + n → waits_in parent d.run.loops ≤ waits c.run → Adds host n c (with_text parent ks d)
text_adds host n c d parent [] h less = tt
text_adds host n c d parent (k ∷ ks) h less = (h, inl less)

returns_adds : (host : HostValue) (n : ℕ) (c d : Config) (r : Return) (value : Bool) → pending d.run.loops ≤ pending c.run.loops + n →
    waits d.run ≤ waits c.run → waits_in r.parent d.run.loops ≤ waits c.run → Adds host n c (returns r value d)
returns_adds host n c d r false h now then = (h, inl now)
returns_adds host n c d r true h now then = text_adds host n c d r.parent d.captures h then

left_adds : (host : HostValue) (n : ℕ) (c : Config) (rs : List (Option Return)) → rs ≡ c.run.loops → Adds host n c (pop_loop_with rs c)
left_adds host n c [] e = tt
left_adds host n c (None ∷ rs) e =
    let held : pending rs ≡ pending c.run.loops = ap pending e in
    let wait : waits_in c.run.parent rs ≡ waits c.run = sym (past_none c.run.parent rs) ∙ ap (waits_in c.run.parent) e in
    (omega (arith, held), inl (omega (arith, wait)))
left_adds host n c (Some r ∷ rs) e =
    let held : pending rs + 1 ≡ pending c.run.loops = ap pending e in
    let wait : waits_in c.run.parent (Some r ∷ rs) ≡ waits c.run = ap (waits_in c.run.parent) e in
    let now = same_waits c.run.parent r rs in
    let then = back_waits c.run.parent r rs in
    returns_adds host n c (returned r rs c) r r.value (omega (arith, held)) (omega (arith, wait, now)) (omega (arith, wait, then))

iterated : (host : HostValue) (v : Option Val) (n : ℕ) (c : Config) → Adds host 1 c (iterate_with v n c)
iterated host None n c = none_more 1 c
iterated host (Some v) n c = none_more 1 c

ended_capture : (host : HostValue) (n : ℕ) (c : Config) (ks : List Capture) → Adds host n c (end_capture_with ks c)
ended_capture host n c [] = tt
ended_capture host n c (k ∷ ks) = none_more n c

escape_adds : (host : HostValue) (n : ℕ) (c : Config) (es : List AutoEscape) → Adds host n c (pop_auto_escape_with es c)
escape_adds host n c [] = tt
escape_adds host n c (e ∷ es) = none_more n c

apply_adds : (p : Program) (k : Application) (x : List ℕ) (n : Option ℕ) (c : Config) → Adds p.host 1 c (apply_of p k x n c)
apply_adds p k x n c = counted_adds p.host 1 n c.run.operands c _ (λ vs rest. asked_adds p c rest (applied p.host k x vs c.world))

used_adds : (host : HostValue) (c : Config) (o : Option Caches) (next : Caches → Next) → ((held : Caches) → Adds host 1 c (next held)) →
    Adds host 1 c (on_used o c.world next)
used_adds host c None next k = tt
used_adds host c (Some held) next k = k held

-- What is loaded leaves a name fewer.
abbrev LoadGives : HostValue → World → Res TemplateId → Type 0
LoadGives host w (Good t world1) = names_left host world1 + 1 ≤ names_left host w
LoadGives host w (Bad chain world1) = Unit {0}

module _ (host : HostValue) (w : World) where
  needed_gives : {A : Type 0} (found : Option A) (kind : ErrorKind) (g : A → World → Res TemplateId) →
      ((a : A) → found ≡ Some a → LoadGives host w (g a w)) → LoadGives host w (bind (need found kind w) g)
  needed_gives (Some a) kind g k = k a refl
  needed_gives None kind g k = tt

  checked_gives : (b : Bool) (kind : ErrorKind) (g : Unit {0} → World → Res TemplateId) →
      (b ≡ true → LoadGives host w (g tt w)) → LoadGives host w (bind (check b kind w) g)
  checked_gives true kind g k = k refl
  checked_gives false kind g k = tt

  answered_gives : (answer : Answer (List ℕ)) (g : List ℕ → World → Res TemplateId) → ((x : List ℕ) → LoadGives host w (g x w)) →
      LoadGives host w (bind (answered answer w) g)
  answered_gives (Ok x) g k = k x
  answered_gives (Err chain) g k = tt

not_true : (b : Bool) → not b ≡ true → b ≡ false
not_true true h = absurd (cc h)
not_true false h = refl

load_gives : (host : HostValue) (v : Val) (q : Option TemplateId) (inside : Bool) (w : World) → LoadGives host w (load host v q inside w)
load_gives host v q inside w =
    needed_gives host w (text_in v) _ _ (λ name _.
    checked_gives host w (is_none q) _ _ (λ _.
    checked_gives host w (not inside) _ _ (λ _.
    answered_gives host w (host.join name (name_of host w)) _ (λ x.
    checked_gives host w (not (is_among x w.loaded)) _ _ (λ fresh.
    needed_gives host w (find x host.templates) _ _ (λ t there.
    count_loaded host.templates x t w.loaded there (not_true (is_among x w.loaded) fresh)))))))

loaded_adds : (host : HostValue) (c : Config) (vs : List Val) (m : Res TemplateId) → LoadGives host c.world m →
    Adds host 0 c (after m (λ t w. goes vs w (awaiting t c)))
loaded_adds host c vs (Good t w) h = (omega arith, inr (omega arith, h))
loaded_adds host c vs (Bad chain w) h = tt

-- a macro is made over these operands
abbrev made : Program → ℕ → List ℕ → Bool → List Val → Config → Option ℕ → List (List ℕ) → Next
made p place x caller rest c own arguments =
    after (make_macro (entry_number place (p.code c.run.stream)) own x arguments caller c.world) (λ v w. goes (v ∷ rest) w c)

-- an instruction leaves at most as many loops more open that were called as it is charged
adds : (p : Program) (f : Base) (x : Instruction) (c : Config) → Adds p.host (charge_of x) c (effect p f x c)
adds p f (i.EmitRaw t) c = written_adds p.host 1 c (on c.run.operands c) f t refl (omega arith)
adds p f i.Emit c =
    on_top_all (Adds p.host 1 c) (ends_adds p.host 1 c) c.run.operands c.world _
    (λ v vs. after_all (Adds p.host 1 c) (ends_adds p.host 1 c) (emitted p.host v c.world) _
    (λ t w. written_adds p.host 1 c (on vs (with_world w c)) f t refl (omega arith)))
adds p f (i.Lookup x) c = after_all (Adds p.host 1 c) (ends_adds p.host 1 c) (looked_up p.host x c.world) _ (λ v w. none_more 1 c)
adds p f (i.LoadConst v) c = none_more 1 c
adds p f (i.GetAttr x) c = one_replaced p.host (λ v w. attribute p.host v x w) c
adds p f i.GetItem c = two_replaced p.host (item_at p.host) c
adds p f i.Slice c =
    on_top_all (Adds p.host 1 c) (ends_adds p.host 1 c) c.run.operands c.world _
    (λ by vs. on_top_all (Adds p.host 1 c) (ends_adds p.host 1 c) vs c.world _
    (λ stop us. on_top_all (Adds p.host 1 c) (ends_adds p.host 1 c) us c.world _ (λ start ts.
    on_top_all (Adds p.host 1 c) (ends_adds p.host 1 c) ts c.world _
    (λ v rest. after_all (Adds p.host 1 c) (ends_adds p.host 1 c) (slice_of p.host v start stop by c.world) _ (λ x w. none_more 1 c)))))
adds p f (i.BuildList n) c = counted_adds p.host 1 n c.run.operands c _ (λ vs rest. none_more 1 c)
adds p f (i.BuildTuple n) c = counted_adds p.host 1 (Some n) c.run.operands c _ (λ vs rest. none_more 1 c)
adds p f (i.BuildMap n) c = on_taken_all (Adds p.host 1 c) (ends_adds p.host 1 c) (taken (n + n) [] c.run.operands) c.world _ (λ vs rest. none_more 1 c)
adds p f (i.BuildKwargs n) c = on_taken_all (Adds p.host 1 c) (ends_adds p.host 1 c) (taken (n + n) [] c.run.operands) c.world _
    (λ vs rest. none_more 1 c)
adds p f (i.MergeKwargs n) c = on_taken_all (Adds p.host 1 c) (ends_adds p.host 1 c) (taken n [] c.run.operands) c.world _
    (λ vs rest. after_all (Adds p.host 1 c) (ends_adds p.host 1 c) (merged_values p.host vs c.world) _ (λ v w. none_more 1 c))
adds p f (i.UnpackLists n) c = on_taken_all (Adds p.host 1 c) (ends_adds p.host 1 c) (taken n [] c.run.operands) c.world _
    (λ vs rest. after_all (Adds p.host 1 c) (ends_adds p.host 1 c) (items_of_lists p.host vs c.world) _ (λ us w. none_more 1 c))
adds p f (i.CompareAndPreserve op) c =
    on_top_all (Adds p.host 1 c) (ends_adds p.host 1 c) c.run.operands c.world _ (λ b vs. on_top_all (Adds p.host 1 c) (ends_adds p.host 1 c) vs c.world _ (λ a rest.
    after_all (Adds p.host 1 c) (ends_adds p.host 1 c) (operated p.host op a b c.world) _ (λ x w. none_more 1 c)))
adds p f i.Neg c = one_replaced p.host (applied_unary p.host unaries.Negate) c
adds p f i.Not c = one_replaced p.host (applied_unary p.host unaries.Not) c
adds p f i.Swap c = on_top_all (Adds p.host 1 c) (ends_adds p.host 1 c) c.run.operands c.world _
    (λ b vs. on_top_all (Adds p.host 1 c) (ends_adds p.host 1 c) vs c.world _ (λ a rest. none_more 1 c))
adds p f i.DupTop c = on_top_all (Adds p.host 0 c) (ends_adds p.host 0 c) c.run.operands c.world _ (λ v vs. none_more 0 c)
adds p f i.DiscardTop c = on_top_all (Adds p.host 0 c) (ends_adds p.host 0 c) c.run.operands c.world _ (λ v vs. none_more 0 c)
adds p f (i.Jump n) c = none_more 1 c
adds p f (i.JumpIfFalse n) c = on_truth_adds p.host c _ _ (λ v vs w. none_more 1 c) (λ v vs w. none_more 1 c)
adds p f (i.JumpIfFalseOrPop n) c = on_truth_adds p.host c _ _ (λ v vs w. none_more 1 c) (λ v vs w. none_more 1 c)
adds p f (i.JumpIfTrueOrPop n) c = on_truth_adds p.host c _ _ (λ v vs w. none_more 1 c) (λ v vs w. none_more 1 c)
adds p f (i.CallFunction x n) c = counted_adds p.host 1 n c.run.operands c _
    (λ vs rest. asked_adds p c rest (call_named p.host x vs c.world))
adds p f (i.CallObject n) c = counted_adds p.host 1 n c.run.operands c _ (λ vs rest. asked_adds p c rest (call_callee p.host vs c.world))
adds p f (i.CallMethod x n) c = apply_adds p applications.Method x n c
adds p f (i.ApplyFilter x n cache) c = used_adds p.host c (used cache x c.run.filters) _
    (λ held. apply_adds p applications.Filter x n (with_filters held c))
adds p f (i.PerformTest x n cache) c = used_adds p.host c (used cache x c.run.tests) _
    (λ held. apply_adds p applications.Test x n (with_tests held c))
adds p f i.FastRecurse c = on_top_all (Adds p.host 1 c) (ends_adds p.host 1 c) c.run.operands c.world _
    (λ v vs. asked_in_place_adds p f c vs (call_innermost p.host v c.world))
adds p f (i.CallBlock b) c =
    choose_all (Adds p.host 1 c) (ends_adds p.host 1 c) (none_waits c.run.parent && audible f c) _ _
    (asked_in_place_adds p f c c.run.operands (enter_block p.host b c.world)) (none_more 1 c)
adds p f i.FastSuper c = asked_in_place_adds p f c c.run.operands (enter_super p.host c.world)
adds p f i.LoadBlocks c = on_top_all (Adds p.host 0 c) (ends_adds p.host 0 c) c.run.operands c.world _ (λ v vs.
    let inside = nat_lt f.captures (length c.captures) in
    loaded_adds p.host c vs (load p.host v c.run.parent inside c.world) (load_gives p.host v c.run.parent inside c.world))
adds p f (i.Include missing) c = on_top_all (Adds p.host 1 c) (ends_adds p.host 1 c) c.run.operands c.world _
    (λ v vs. asked_in_place_adds p f c vs (enter_include p.host true v missing c.world))
adds p f i.IncludeModule c = on_top_all (Adds p.host 1 c) (ends_adds p.host 1 c) c.run.operands c.world _
    (λ v vs. asked_in_place_adds p f c vs (enter_include p.host false v false c.world))
adds p f i.ExportLocals c = on_top_all (Adds p.host 0 c) (ends_adds p.host 0 c) c.run.operands c.world _
    (λ v vs. after_all (Adds p.host 0 c) (ends_adds p.host 0 c) (module_with v c.world) _ (λ m w. none_more 0 c))
adds p f (i.StoreLocal x) c = on_top_all (Adds p.host 1 c) (ends_adds p.host 1 c) c.run.operands c.world _ (λ v vs. none_more 1 c)
adds p f (i.Enclose x) c = after_all (Adds p.host 1 c) (ends_adds p.host 1 c) (enclose p.host x c.world) _ (λ _ w. none_more 1 c)
adds p f i.GetClosure c = none_more 1 c
adds p f i.IsUndefined c = on_top_all (Adds p.host 1 c) (ends_adds p.host 1 c) c.run.operands c.world _ (λ v vs. none_more 1 c)
adds p f (i.BuildMacro x place caller) c =
    on_top_all (Adds p.host 0 c) (ends_adds p.host 0 c) c.run.operands c.world _ (λ names vs. on_top_all (Adds p.host 0 c) (ends_adds p.host 0 c) vs c.world _
    (λ closure rest. on_parts_all (Adds p.host 0 c) (ends_adds p.host 0 c) (closure_in closure) (names_in names) c.world (made p place x caller rest c)
    (λ own arguments. after_all (Adds p.host 0 c) (ends_adds p.host 0 c) (make_macro (entry_number place (p.code c.run.stream)) own x arguments caller c.world)
    (λ v w. goes (v ∷ rest) w c) (λ v w. none_more 0 c))))
adds p f i.Return c = choose_all (Adds p.host 0 c) (ends_adds p.host 0 c) (closed f c) _ _ tt tt
adds p f (i.UnpackList n) c = on_top_all (Adds p.host 1 c) (ends_adds p.host 1 c) c.run.operands c.world _
    (λ v vs. after_all (Adds p.host 1 c) (ends_adds p.host 1 c) (unpacked_items n v c.world) _ (λ xs w. none_more 1 c))
adds p f (i.SetAttr x) c =
    on_top_all (Adds p.host 1 c) (ends_adds p.host 1 c) c.run.operands c.world _ (λ o vs. on_top_all (Adds p.host 1 c) (ends_adds p.host 1 c) vs c.world _ (λ v rest.
    after_all (Adds p.host 1 c) (ends_adds p.host 1 c) (set_member x v o c.world) _ (λ _ w. none_more 1 c)))
adds p f i.PushWith c = after_all (Adds p.host 0 c) (ends_adds p.host 0 c) (push p.host (plain_scope (undefined false)) c.world) _ (λ _ w. none_more 0 c)
adds p f i.PopFrame c = choose_all (Adds p.host 0 c) (ends_adds p.host 0 c)
    (nat_lt f.scopes (length c.world.scopes.frames) && is_no_loop (top_mark c.world.scopes.frames)) _ _ (none_more 0 c) tt
adds p f (i.PushLoop flags) c =
    on_top_all (Adds p.host 0 c) (ends_adds p.host 0 c) c.run.operands c.world _
    (λ v vs. after_all (Adds p.host 0 c) (ends_adds p.host 0 c) (items_over p.host v c.world) _ (λ items w.
    after_all (Adds p.host 0 c) (ends_adds p.host 0 c) (open_loop p.host items flags (loops_before c.run.place (p.code c.run.stream)) w) _
    (λ _ world1. none_more 0 c)))
adds p f (i.Iterate n) c = on_loop_all (Adds p.host 1 c) (ends_adds p.host 1 c) c.run.loops (top_loop c.world) c.world _
    (λ l. iterated p.host (slice_get l.items l.turns) n c)
adds p f i.PushDidNotIterate c = on_loop_all (Adds p.host 0 c) (ends_adds p.host 0 c) c.run.loops (top_loop c.world) c.world _ (λ l. none_more 0 c)
adds p f i.PopLoopFrame c =
    choose_all (Adds p.host 0 c) (ends_adds p.host 0 c) (nat_lt f.scopes (length c.world.scopes.frames)) _ _
    (on_loop_all (Adds p.host 0 c) (ends_adds p.host 0 c) c.run.loops (top_loop c.world) c.world _ (λ l. left_adds p.host 0 c c.run.loops refl)) tt
adds p f (i.BeginCapture mode) c = none_more 0 c
adds p f i.EndCapture c = choose_all (Adds p.host 1 c) (ends_adds p.host 1 c) (nat_lt c.run.floor (length c.captures)) _ _
    (ended_capture p.host 1 c c.captures) tt
adds p f i.PushAutoEscape c = on_top_all (Adds p.host 0 c) (ends_adds p.host 0 c) c.run.operands c.world _
    (λ v vs. after_all (Adds p.host 0 c) (ends_adds p.host 0 c) (answered (escape_for f.first v) c.world) _ (λ e w. none_more 0 c))
adds p f i.PopAutoEscape c = escape_adds p.host 0 c c.run.escapes
-- the operators of two operands
adds p f _ c = search two_replaced

-- ---------------------------------------------------------------- free instructions
-- What an instruction gives goes on to the next place, or returns from a loop, or ends the run: a run of its own it doesn't need.
abbrev Onward : Config → Next → Type 0
Onward c (More t d) = (d.run.place ≡ c.run.place + 1) ⊎ (pending d.run.loops < pending c.run.loops)
Onward c (Over e) = Unit {0}
Onward c (Restart d) = ⊥
Onward c (Nest g d back) = ⊥

ends_onward : (c : Config) (e : End) → Onward c (Over e)
ends_onward c e = tt

text_onward : (c d : Config) (parent : Option TemplateId) (ks : List Capture) → pending d.run.loops < pending c.run.loops →
    Onward c (with_text parent ks d)
text_onward c d parent [] h = tt
text_onward c d parent (k ∷ ks) h = inr h

returns_onward : (c d : Config) (r : Return) (value : Bool) → pending d.run.loops < pending c.run.loops → Onward c (returns r value d)
returns_onward c d r false h = inr h
returns_onward c d r true h = text_onward c d r.parent d.captures h

left_onward : (c : Config) (rs : List (Option Return)) → rs ≡ c.run.loops → Onward c (pop_loop_with rs c)
left_onward c [] e = tt
left_onward c (None ∷ rs) e = inl refl
left_onward c (Some r ∷ rs) e =
    let held : pending rs + 1 ≡ pending c.run.loops = ap pending e in returns_onward c (returned r rs c) r r.value (omega (arith, held))

escape_onward : (c : Config) (es : List AutoEscape) → Onward c (pop_auto_escape_with es c)
escape_onward c [] = tt
escape_onward c (e ∷ es) = inl refl

free_onward : (p : Program) (f : Base) (x : Instruction) (c : Config) → charge_of x ≡ 0 → Onward c (effect p f x c)
free_onward p f i.DupTop c free = on_top_all (Onward c) (ends_onward c) c.run.operands c.world _ (λ v rest. inl refl)
free_onward p f i.DiscardTop c free = on_top_all (Onward c) (ends_onward c) c.run.operands c.world _ (λ v rest. inl refl)
free_onward p f i.PushWith c free = after_all (Onward c) (ends_onward c) (push p.host (plain_scope (undefined false)) c.world) _ (λ _ w. inl refl)
free_onward p f i.PopFrame c free = choose_all (Onward c) (ends_onward c)
    (nat_lt f.scopes (length c.world.scopes.frames) && is_no_loop (top_mark c.world.scopes.frames)) _ _ (inl refl) tt
free_onward p f (i.PushLoop flags) c free =
    on_top_all (Onward c) (ends_onward c) c.run.operands c.world _
    (λ v rest. after_all (Onward c) (ends_onward c) (items_over p.host v c.world) _ (λ items w.
    after_all (Onward c) (ends_onward c) (open_loop p.host items flags (loops_before c.run.place (p.code c.run.stream)) w) _
    (λ _ world1. inl refl)))
free_onward p f i.PushDidNotIterate c free = on_loop_all (Onward c) (ends_onward c) c.run.loops (top_loop c.world) c.world _ (λ l. inl refl)
free_onward p f i.PopLoopFrame c free =
    choose_all (Onward c) (ends_onward c) (nat_lt f.scopes (length c.world.scopes.frames)) _ _
    (on_loop_all (Onward c) (ends_onward c) c.run.loops (top_loop c.world) c.world _ (λ l. left_onward c c.run.loops refl)) tt
free_onward p f (i.BeginCapture mode) c free = inl refl
free_onward p f i.PushAutoEscape c free = on_top_all (Onward c) (ends_onward c) c.run.operands c.world _
    (λ v rest. after_all (Onward c) (ends_onward c) (answered (escape_for f.first v) c.world) _ (λ e w. inl refl))
free_onward p f (i.BuildMacro x place caller) c free =
    on_top_all (Onward c) (ends_onward c) c.run.operands c.world _ (λ names vs. on_top_all (Onward c) (ends_onward c) vs c.world _
    (λ closure rest. on_parts_all (Onward c) (ends_onward c) (closure_in closure) (names_in names) c.world (made p place x caller rest c)
    (λ own arguments. after_all (Onward c) (ends_onward c) (make_macro (entry_number place (p.code c.run.stream)) own x arguments caller c.world)
    (λ v w. goes (v ∷ rest) w c) (λ v w. inl refl))))
free_onward p f i.LoadBlocks c free = on_top_all (Onward c) (ends_onward c) c.run.operands c.world _ (λ v rest.
    after_all (Onward c) (ends_onward c) (load p.host v c.run.parent (nat_lt f.captures (length c.captures)) c.world) _ (λ t w. inl refl))
free_onward p f i.ExportLocals c free = on_top_all (Onward c) (ends_onward c) c.run.operands c.world _
    (λ v rest. after_all (Onward c) (ends_onward c) (module_with v c.world) _ (λ m w. inl refl))
free_onward p f i.Return c free = choose_all (Onward c) (ends_onward c) (closed f c) _ _ tt tt
free_onward p f i.PopAutoEscape c free = escape_onward c c.run.escapes
free_onward p f _ c free = absurd cc

free_enters_nothing : (p : Program) (f : Base) (x : Instruction) (c d : Config) (g : Base) (back : Back) → charge_of x ≡ 0 →
    effect p f x c ≡ Nest g d back → ⊥
free_enters_nothing p f x c d g back free e = subst (λ n. Onward c n) e (free_onward p f x c free)

-- ---------------------------------------------------------------- steps
free_step : (size : ℕ) (old mid new : Config) → (new.run.place ≡ mid.run.place + 1) ⊎ (pending new.run.loops < pending mid.run.loops) →
    pending new.run.loops ≤ pending mid.run.loops + 0 →
    new.world.fuel ≤ old.world.fuel → mid.run ≡ old.run → old.run.place < size → weight size new < weight size old
free_step size old mid new (inl next) loops fuel same within =
    let held : pending mid.run.loops ≡ pending old.run.loops = ap (λ (r : Activation). pending r.loops) same in
    let at : mid.run.place ≡ old.run.place = ap (λ (r : Activation). r.place) same in
    next_place size old new (omega (arith, loops, fuel, held)) (omega (arith, next, at)) within
free_step size old mid new (inr fewer) loops fuel same within =
    let held : pending mid.run.loops ≡ pending old.run.loops = ap (λ (r : Activation). pending r.loops) same in
    less_returns size old new (omega (arith, fewer, fuel, held))

went_on : (size n : ℕ) (p : Program) (f : Base) (x : Instruction) (old mid new : Config) (t : List ℕ) → charge_of x ≡ n →
    mid.world.fuel + n ≡ old.world.fuel → mid.run ≡ old.run →
    old.run.place < size → new.world.fuel ≤ mid.world.fuel → effect p f x mid ≡ More t new → weight size new < weight size old
went_on size zero p f x old mid new t charge paid same within less e =
    let onward = subst (λ n. Onward mid n) e (free_onward p f x mid charge) in
    let added = subst (λ n. Adds p.host (charge_of x) mid n) e (adds p f x mid) in
    let loops = subst (λ k. pending new.run.loops ≤ pending mid.run.loops + k) charge added.0 in
    free_step size old mid new onward loops (omega (arith, paid, less)) same within
went_on size (suc n) p f x old mid new t charge paid same within less e =
    let held : pending mid.run.loops ≡ pending old.run.loops = ap (λ (r : Activation). pending r.loops) same in
    let added = subst (λ n. Adds p.host (charge_of x) mid n) e (adds p f x mid) in
    let loops : pending new.run.loops ≤ pending mid.run.loops + suc n = subst
    (λ k. pending new.run.loops ≤ pending mid.run.loops + k) charge added.0 in
    less_returns size old new (omega (arith, paid, less, held, loops))

entered : (n : ℕ) (p : Program) (f g : Base) (x : Instruction) (old mid new d : Config) (back : Back) → charge_of x ≡ n →
    mid.world.fuel + n ≡ old.world.fuel → mid.run ≡ old.run →
    new.world.fuel ≤ mid.world.fuel → effect p f x mid ≡ Nest g d back → back.run ≡ new.run →
    (returns_left new < returns_left old) × (waits new.run ≤ waits old.run)
entered zero p f g x old mid new d back charge paid same less e waits_on = absurd (free_enters_nothing p f x mid d g back charge e)
entered (suc n) p f g x old mid new d back charge paid same less e waits_on =
    let held : pending mid.run.loops ≡ pending old.run.loops = ap (λ (r : Activation). pending r.loops) same in
    let wait : pending back.run.loops ≡ pending new.run.loops = ap (λ (r : Activation). pending r.loops) waits_on in
    let added = subst (λ n. Adds p.host (charge_of x) mid n) e (adds p f x mid) in
    let loops : pending back.run.loops ≤ pending mid.run.loops + suc n = subst
    (λ k. pending back.run.loops ≤ pending mid.run.loops + k) charge added.0 in
    let from : waits mid.run ≡ waits old.run = ap waits same in
    let to : waits back.run ≡ waits new.run = ap waits waits_on in
    let no_more : waits back.run ≤ waits mid.run = added.1 in
    (omega (arith, paid, less, held, wait, loops), omega (arith, from, to, no_more))

-- no more parents are left after an effect
no_more_parents : (host : HostValue) (old mid new : Config) → mid.run ≡ old.run → mid.world.loaded ≡ old.world.loaded →
    names_left host new.world ≤ names_left host mid.world → Follows host mid new → parents_left host new ≤ parents_left host old
no_more_parents host old mid new same names less (inl no_more) =
    let from : waits mid.run ≡ waits old.run = ap waits same in
    let left : names_left host mid.world ≡ names_left host old.world = ap (count_left host.templates) names in
    omega (arith, from, left, less, no_more)
no_more_parents host old mid new same names less (inr (one_more, fewer)) =
    let from : waits mid.run ≡ waits old.run = ap waits same in
    let left : names_left host mid.world ≡ names_left host old.world = ap (count_left host.templates) names in
    omega (arith, from, left, one_more, fewer)

-- where a step goes on, the stream, the loops and the parent are these
abbrev Goes : Activation → Next → Type 0
Goes r (More t c) = StaysRun r c.run
Goes r _ = Unit {0}

-- a run that goes on after another one has the loops open that it had
back_as : (value : Bool) (t : RunText) (r : Activation) (ks : List Capture) (w : World) (new : Config) → back_with value t r ks w ≡ More [] new →
    StaysRun r new.run
back_as false t r ks w new e = subst (λ (n : Next). Goes r n) e (refl, refl, refl)
back_as true t r [] w new e = absurd (cc e)
back_as true t r (k ∷ ks) w new e = subst (λ (n : Next). Goes r n) e (refl, refl, refl)

back_runs : (back : Back) (e : End) (new : Config) → back_to back e ≡ More [] new → StaysRun back.run new.run
back_runs back (Finished vs ks w) new e = back_as back.value back.call.text back.run ks (undone back.call.undo w) new e
back_runs back (Failed chain w) new e = absurd (cc e)
back_runs back (Stuck w) new e = absurd (cc e)

pub paid_for : {f : Base} {told now : Told} (size : ℕ) (p : Program) (x : Instruction)
    (old mid new : Config) (result : Result Flow Halt) →
    mid.world.fuel + charge_of x ≡ old.world.fuel → mid.run ≡ old.run → mid.world.loaded ≡ old.world.loaded → old.run.place < size →
    Performs p f (effect p f x mid) mid new told now result → Paid p size result old new
paid_for {f = f} size p x old mid new (Ok flow.GoOn) paid same names within did = (
  went_on size (charge_of x) p f x old mid new _ refl paid same within did.kept.no_more_fuel did.did.0,
  no_more_parents p.host old mid new same names did.names (subst (λ n. Adds p.host (charge_of x) mid n) did.did.0 (adds p f x mid)).1,
)
paid_for size p x old mid new (Ok flow.Ahead) paid same names within did =
    let less = did.names.1 in
    let loops : pending new.run.loops ≡ pending old.run.loops =
    ap pending did.same_stream.1 ∙ ap (λ (r : Activation). pending r.loops) same in
    let wait : waits mid.run ≡ waits old.run = ap waits same in (
      less_returns size old new (omega (arith, paid, less, loops)),
      parents_after p.host old mid new (omega (arith, wait)) names did.names.0 did.same_stream,
    )
paid_for {f = f} size p x old mid new (Ok (flow.Enter e)) paid same names within did = λ first there.
    let enters = did.did.0 in
    let back : Back = record { run = new.run; call = call_of e.value enters.0; value = e.value.value } in
    let needs = enters.2 ∙ ap (λ a. nested a e.value.heard new.captures new.world back) there in
    entered (charge_of x) p f _ x old mid new _ back refl paid same did.kept.no_more_fuel needs refl
paid_for {f = f} size p x old mid new (Ok flow.Called) paid same names within did =
    let ran = did.did.0 in
    let waiting : Config = record mid { run = ran.back.run } in
    let stays = back_runs ran.back ran.end new ran.goes in
    let less = entered (charge_of x) p f ran.base x old mid waiting ran.first ran.back refl paid same (omega arith) ran.needs refl in (
      less_after size old waiting new less.0 did.kept.no_more_fuel stays.1,
      parents_after p.host old waiting new less.1 names did.names stays,
    )
paid_for {f = f} size p x old mid new (Ok flow.Restart) paid same names within did =
    absurd (subst (λ n. Adds p.host (charge_of x) mid n) did.did.0 (adds p f x mid))
paid_for size p x old mid new (Ok flow.Done) paid same names within did = tt
paid_for size p x old mid new (Err why) paid same names within did = tt

-- a restart leaves a parent fewer
pub restart_paid : (f : Base) (n : Next) (p : Program) (size : ℕ) (old new : Config) (result : Result Flow Halt) →
    Finishes result f old new n → Paid p size result old new
restart_paid f n p size old new (Ok flow.Restart) s =
    let t = s.1.0 in
    let before : waits old.run ≡ 1 = ap (λ q. waits_in q old.run.loops) s.1.1 in
    let following : parents_left p.host new ≡ 0 + names_left p.host old.world = ap (parents_left p.host) s.1.3 in
    omega (arith, before, following)
restart_paid f n p size old new (Ok flow.GoOn) s = absurd s
restart_paid f n p size old new (Ok flow.Ahead) s = absurd s
restart_paid f n p size old new (Ok flow.Called) s = absurd s
restart_paid f n p size old new (Ok (flow.Enter e)) s = absurd s
restart_paid f n p size old new (Ok flow.Done) s = tt
restart_paid f n p size old new (Err why) s = tt
