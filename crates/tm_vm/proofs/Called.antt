-- How a run goes on after a call.
use Rattle.std.specs.Global.{Box}
use Rattle.std.proofs.Common.{◌≡◌, ℕ, List, [], ◌∷◌, length, drop, Option, Some, None, Result, Ok, Err, Bool, true, false}
use Rattle.std.proofs.Common.{refl, sym, ap, ◌∙◌, subst, arith}
use Rattle.tm_values.specs.Val.{Val, undefined}
use Rattle.tm_values.specs.declared.error.ErrorKind.{ErrorKind}
use Rattle.std.specs.Result.{IsErr, IsErrAnd}
use Rattle.tm_meaning.specs.World.{World, Named, Scopes, plain_scope}
use Rattle.tm_trees.specs.Instructions.{LoopPlace}
use Rattle.tm_meaning.specs.Calls.{Asked, outermost, runs, recurs}
use Rattle.tm_meaning.specs.Machine.{Capture, Config, Next, Program, asked, first_run, goes, nested, new_capture, on_taken}
use Rattle.tm_meaning.specs.Machine.{place_of_loop, recursion, take_n, taken, waiting}
use Rattle.tm_parts.specs.declared.halt.Halt.{Halt}
use Rattle.tm_parts.specs.declared.halt.Halt.TheVariants as halt
use Rattle.tm_records.specs.declared.results.CallResult.{CallResult}
use Rattle.tm_records.specs.declared.results.CallResult.TheVariants as outcome
use Rattle.tm_records.specs.declared.results.Recursion.{Recursion}
use Rattle.tm_records.specs.declared.saved.Saved.{Saved}
use Rattle.tm_records.specs.declared.saved.Saved.TheVariants as saved
use Rattle.tm_records.specs.declared.saved.SavedBlock.{SavedBlock}
use Rattle.tm_records.specs.declared.saved.SavedMacro.{SavedMacro}
use Rattle.tm_records.specs.declared.saved.SavedInclude.{SavedInclude}
use Rattle.tm_records.specs.declared.saved.SavedSuper.{SavedSuper}
use Rattle.tm_records.specs.declared.nested.NestedRun.{NestedRun}
use Rattle.tm_state.specs.Answers.{Becomes, CallDeeper, HasOneMore, KeepsFixedAndNames, LeavesState, NamedBecomes, NeedsAny, OneDeeper, StaysInPlace, call_of}
use Rattle.tm_state.specs.State.{IsSaved, after_block, callee_of, put_back, saved_of}
use Rattle.tm_vm.specs.declared.flow.Flow.{Flow}
use Rattle.tm_vm.specs.declared.flow.Flow.TheVariants as flow
use Rattle.tm_vm.specs.Answers.{EntersAsValue, Enters, GoesOnWith, Needs, NoFewer, Opens, SameStanding, Silently, entered}
use Rattle.tm_vm.proofs.Counted.{calling}
use Rattle.tm_vm.proofs.Ground.{no_fewer_in_place, no_fewer_then, same_as_no_fewer, standing, under_one}
use Rattle.tm_vm.proofs.Loop.{kept_then}
use Rattle.tm_vm.proofs.Performed.{still}

-- ---------------------------------------------------------------- worlds that don't matter
recursion_in : (p : Program) (c : Config) (x : World) (value : Bool) (vs : List Val) (ks : List Capture) (n : ℕ) (l : Option LoopPlace)
    (items : List Val) (w : World) → recursion p (record c { world = x }) value vs ks n l items w ≡ recursion p c value vs ks n l items w
recursion_in p c x value vs ks n None items w = refl
recursion_in p c x value vs ks n (Some l) items w = refl

-- ---------------------------------------------------------------- values and loops
-- after a call that left the scopes as they were
opens_after : (p : Program) (n : Next) (old new : Config) (before : World) (result : Result Flow Halt) → KeepsFixedAndNames before old.world →
    StaysInPlace before old.world → Opens n old new result → Needs p n (record old { world = before }) new result
opens_after p n old new before (Ok flow.GoOn) kept stays h = record {
  did = h.did;
  kept = kept_then kept h.kept;
  deepens = no_fewer_then before old.world new.world (no_fewer_in_place before old.world stays) h.no_fewer;
  same_stream = h.same_stream;
}
opens_after p n old new before (Ok flow.Done) kept stays h = absurd h.did
opens_after p n old new before (Ok flow.Ahead) kept stays h = absurd h.did
opens_after p n old new before (Ok flow.Called) kept stays h = absurd h.did
opens_after p n old new before (Ok flow.Restart) kept stays h = absurd h.did
opens_after p n old new before (Ok (flow.Enter e)) kept stays h = absurd h.did
opens_after p n old new before (Err halt.Writer) kept stays h = absurd h.did
opens_after p n old new before (Err halt.Stuck) kept stays h = record {
  did = h.did;
  kept = kept_then kept h.kept;
  deepens = no_fewer_then before old.world new.world (no_fewer_in_place before old.world stays) h.no_fewer;
  same_stream = h.same_stream;
}
opens_after p n old new before (Err (halt.Fault chain)) kept stays h = record {
  did = h.did;
  kept = kept_then kept h.kept;
  deepens = no_fewer_then before old.world new.world (no_fewer_in_place before old.world stays) h.no_fewer;
  same_stream = h.same_stream;
}

pub value_goes_on : (p : Program) (v : Val) (count : ℕ) (old new : Config) (result : Result Flow Halt) →
    Silently (goes (v ∷ drop count old.run.operands) old.world old) old new result → GoesOnWith p (outcome.Value v) count old new result
value_goes_on p v count old new result h q before is leaves =
    subst (λ r. Needs p (asked p (record old { world = before }) (drop count old.run.operands) r) (record old { world = before }) new result)
    (sym is)
    (opens_after p (goes (v ∷ drop count old.run.operands) old.world old) old new before result leaves.kept leaves.lies (still result h))

pub loop_goes_on : (p : Program) (r : Recursion) (count : ℕ) (old new : Config) (result : Result Flow Halt) →
    Opens (asked p old (drop count old.run.operands) (recurs r.number r.items.value.items old.world)) old new result →
    GoesOnWith p (outcome.Recursion r) count old new result
loop_goes_on p r count old new result h q before is leaves =
    let vs = drop count old.run.operands in
    let items = r.items.value.items in
    let same = recursion_in p old before true vs (new_capture true ∷ old.captures) r.number (place_of_loop p old r.number) items old.world in
    subst (λ a. Needs p (asked p (record old { world = before }) vs a) (record old { world = before }) new result) (sym is)
    (subst (λ n. Needs p n (record old { world = before }) new result) (sym same)
    (opens_after p (asked p old vs (recurs r.number items old.world)) old new before result leaves.kept leaves.lies h))

-- ---------------------------------------------------------------- runs
-- where no more than a block's scope is there, that is left
block_left : (s : SavedBlock) (before w : World) (places : Named ℕ) → s ≡ saved_of before → HasOneMore before w → places ≡ before.places →
    SameStanding before (record (after_block s w) { places = places })
block_left s before w places is more same =
    let many : s.scopes ≡ length before.scopes.frames = ap (λ (s : SavedBlock). s.scopes) is in
    standing before (record (after_block s w) { places = places })
    (ap (λ n. record { frames = outermost n w.scopes.frames; outer = s.outer }) many
    ∙ ap (λ fs. record { frames = outermost (length before.scopes.frames) fs; outer = s.outer }) more.0
    ∙ ap (λ fs. record { frames = fs; outer = s.outer }) (under_one (plain_scope (undefined false)) before.scopes.frames)
    ∙ ap (λ n. record { frames = before.scopes.frames; outer = n }) (ap (λ (s : SavedBlock). s.outer) is)) same

-- what is put back where no memory was found for the capture
put_back_fewer : (limit : ℕ) (s : Saved) (before w : World) → CallDeeper limit s before w → NoFewer before (put_back s w)
put_back_fewer limit (saved.Include s) before w deep = absurd deep.1
put_back_fewer limit (saved.Block s) before w deep =
    same_as_no_fewer before (put_back (saved.Block s) w) (block_left s before w (w.places) deep.0.0 deep.0.1.0 deep.0.1.1)
put_back_fewer limit (saved.Super s) before w deep =
    same_as_no_fewer before (put_back (saved.Super s) w) (block_left s.replaced before w (s.places) (ap (λ (s : SavedSuper). s.replaced) deep.0.0) deep.0.1
    (ap (λ (s : SavedSuper). s.places) deep.0.0))
put_back_fewer limit (saved.Macro s) before w deep =
    same_as_no_fewer before (put_back (saved.Macro s) w) (standing before (put_back (saved.Macro s) w) (ap (λ (s : SavedMacro). s.context) deep.0.0)
    (ap (λ (s : SavedMacro). s.lists.places) deep.0.0))

-- and what a run keeps is kept then
pub put_back_keeps : (s : Saved) (before w : World) → IsSaved s before → KeepsFixedAndNames before w →
    KeepsFixedAndNames before (put_back s w)
put_back_keeps (saved.Block s) before w is kept = record {
  same_id = kept.same_id;
  same_fuel_set = kept.same_fuel_set;
  no_more_fuel = kept.no_more_fuel;
  same_loaded = kept.same_loaded;
}
put_back_keeps (saved.Super s) before w is kept = record {
  same_id = kept.same_id;
  same_fuel_set = kept.same_fuel_set;
  no_more_fuel = kept.no_more_fuel;
  same_loaded = kept.same_loaded;
}
put_back_keeps (saved.Include s) before w is kept = record {
  same_id = kept.same_id;
  same_fuel_set = kept.same_fuel_set;
  no_more_fuel = kept.no_more_fuel;
  same_loaded = ap (λ (s : SavedInclude). s.lists.loaded) is;
}
put_back_keeps (saved.Macro s) before w is kept = record {
  same_id = kept.same_id;
  same_fuel_set = kept.same_fuel_set;
  no_more_fuel = kept.no_more_fuel;
  same_loaded = ap (λ (s : SavedMacro). s.lists.loaded) is;
}

entered_as : (p : Program) (e : NestedRun) (vs : List Val) (old : Config) (before b : World) → e.heard ≡ true → e.value ≡ true →
    asked p (record old { world = before }) vs (runs (call_of e b) old.world) ≡
    entered p e b (record { run = waiting vs old; captures = new_capture true ∷ old.captures; world = old.world })
entered_as p e vs old before b heard value =
    let ks = new_capture true ∷ old.captures in
    let first = first_run p (callee_of e.run) (length ks) in
    ap (λ h. nested first h ks old.world (record { run = waiting vs old; call = call_of e b; value = true })) (sym heard)
    ∙ ap (λ v. nested first e.heard ks old.world (record { run = waiting vs old; call = call_of e b; value = v })) (sym value)

enters_it : (p : Program) (e : NestedRun) (vs : List Val) (old new : Config) (before : World) (q : Asked) → NeedsAny e q old.world →
    new ≡ record { run = waiting vs old; captures = new_capture true ∷ old.captures; world = old.world } →
    Enters p e new (asked p (record old { world = before }) vs q)
enters_it p e vs old new before q needs moved =
    let b = needs.2.0 in (
      b,
      needs.2.1,
      ap (asked p (record old { world = before }) vs) needs.2.2 ∙ entered_as p e vs old before b needs.0 needs.1
          ∙ ap (entered p e b) (sym moved),
    )

pub run_goes_on : (p : Program) (e : Box NestedRun) (count : ℕ) (old new : Config) (result : Result Flow Halt) →
    EntersAsValue e.value count result old new → GoesOnWith p (outcome.Run e) count old new result
run_goes_on p e count old new (Ok flow.GoOn) h q before needs leaves = absurd h
run_goes_on p e count old new (Ok flow.Done) h q before needs leaves = absurd h
run_goes_on p e count old new (Ok flow.Ahead) h q before needs leaves = absurd h
run_goes_on p e count old new (Ok flow.Called) h q before needs leaves = absurd h
run_goes_on p e count old new (Ok flow.Restart) h q before needs leaves = absurd h
run_goes_on p e count old new (Ok (flow.Enter b)) h q before needs leaves =
    let vs = drop count old.run.operands in
    let world : new.world ≡ old.world = ap (λ (c : Config). c.world) h.1 in record {
      did = subst (λ r. Enters p r new (asked p (record old { world = before }) vs q)) (sym h.0)
          (enters_it p e.value vs old new before q needs h.1);
      kept = subst (λ w. KeepsFixedAndNames before w) (sym world) leaves.kept;
      deepens = subst (λ r. OneDeeper p.host.limit r before new.world) (sym (ap (λ (r : NestedRun). r.saved) h.0))
          (subst (λ w. OneDeeper p.host.limit e.value.saved before w) (sym world) leaves.lies.0);
      same_stream = ap (λ (c : Config). c.run.stream) h.1;
    }
run_goes_on p e count old new (Err halt.Writer) h q before needs leaves = absurd h
run_goes_on p e count old new (Err halt.Stuck) h q before needs leaves = absurd h
run_goes_on p e count old new (Err (halt.Fault chain)) h q before needs leaves = record {
  did = λ m. absurd (let w : true ≡ false = sym h.0 ∙ m in cc w);
  kept = subst (λ w. KeepsFixedAndNames before w) (sym h.1) (put_back_keeps e.value.saved before old.world leaves.lies.0.0 leaves.kept);
  deepens = subst (λ w. NoFewer before w) (sym h.1) (put_back_fewer p.host.limit e.value.saved before old.world leaves.lies);
  same_stream = h.2;
}

-- What a call came to, where no kind is put before the fault of its run.
pub as_named : (r : Result CallResult (List ErrorKind)) (q : Asked) (w : World) → Becomes r q w → NamedBecomes r q w
as_named (Ok (outcome.Value v)) q w is = is
as_named (Ok (outcome.Recursion l)) q w is = is
as_named (Ok (outcome.Run e)) q w is = (is.0, is.1, is.3)
as_named (Err chain) q w is = is

-- ---------------------------------------------------------------- calls of so many operands
module _ (p : Program) (call : World → List Val → Asked) (count : ℕ) (old now : Config) (is : old ≡ now) (vs : List Val)
    (w : World) (there : taken count [] old.run.operands ≡ Some (vs, drop count old.run.operands)) where
  abbrev Called : Config → Config → Result Flow Halt → Type 0
  Called c new result = Needs p (take_n count c.run.operands c.world (calling p call c)) c new result

  pub went_on : (came : CallResult) (new : Config) (result : Result Flow Halt) → NamedBecomes (Ok came) (call old.world vs) w →
      LeavesState p.host.limit (Ok came) old.world w → GoesOnWith p came count (record old { world = w }) new result → Called now new result
  went_on came new result becomes leaves goes_on =
      subst (λ c. Called c new result) is
      (subst (λ t. Needs p (on_taken t old.world (calling p call old)) old new result) (sym there)
      (goes_on (call old.world vs) old.world becomes leaves))

  -- or it was refused
  refused_there : (chain : List ErrorKind) → NamedBecomes (Err chain) (call old.world vs) w → LeavesState p.host.limit (Err chain) old.world w →
      Called old (record old { world = w }) (Err (halt.Fault chain))
  refused_there chain becomes leaves =
      subst (λ t. Needs p (on_taken t old.world (calling p call old)) old (record old { world = w }) (Err (halt.Fault chain)))
      (sym there) (record {
        did = λ m. ap (asked p old (drop count old.run.operands)) (becomes m);
        kept = leaves.kept;
        deepens = no_fewer_in_place old.world w leaves.lies;
        same_stream = refl;
      })

  pub ended : (r : Result Flow Halt) (chain : List ErrorKind) → IsErr r × IsErrAnd r (λ e. e ≡ halt.Fault chain) →
      NamedBecomes (Err chain) (call old.world vs) w → LeavesState p.host.limit (Err chain) old.world w → Called now (record old { world = w }) r
  ended (Ok f) chain same becomes leaves = absurd (cc same.0)
  ended (Err e) chain same becomes leaves =
      subst (λ c. Called c (record old { world = w }) (Err e)) is
      (subst (λ x. Called old (record old { world = w }) (Err x)) (sym same.1) (refused_there chain becomes leaves))

  -- the same of a call whose run has no kind before its fault
  pub went_on_plainly : (came : CallResult) (new : Config) (result : Result Flow Halt) → Becomes (Ok came) (call old.world vs) w →
      LeavesState p.host.limit (Ok came) old.world w → GoesOnWith p came count (record old { world = w }) new result → Called now new result
  went_on_plainly came new result becomes leaves goes_on =
      went_on came new result (as_named (Ok came) (call old.world vs) w becomes) leaves goes_on
