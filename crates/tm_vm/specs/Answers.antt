-- What the machine's functions answer, beyond the definitions.
use Rattle.std.specs.Prelude.{◌≡◌, ◌+◌, ◌<◌, ◌≤◌, ◌-◌, ◌*◌, ℕ, zero, suc, List, [], ◌∷◌, length, Option, None, Some, Result, Ok, Err, Bool, true}
use Rattle.std.specs.Prelude.{false, drop}
use Rattle.std.specs.Io.KnownBytes.{Appends}
use Rattle.tm_meaning.specs.Memory.{is_want_of_memory}
use Rattle.tm_meaning.specs.World.{World, HostValue, Named, Scopes}
use Rattle.tm_meaning.specs.Calls.{Asked, outermost}
use Rattle.tm_meaning.specs.Machine.{Return, Activation, Capture, Config, End, Failed, Stuck, Next, More, Over, Restart, Nest, Program}
use Rattle.tm_meaning.specs.Machine.{Back, back_to, first_run, nested, running, recursion, place_of_loop, asked, waiting, new_capture, restarted}
use Rattle.tm_records.specs.declared.results.Recursion.{Recursion}
use Rattle.tm_meaning.specs.Instructions.{jump_if_true_or_pop_of, jump_if_false_or_pop_of}
use Rattle.tm_meaning.specs.Steps.{Leads, final, step}
use Rattle.tm_meaning.specs.declared.base.Base.{Base}
use Rattle.tm_output.specs.Counts.{AppendsBeginning, Told}
use Rattle.tm_parts.specs.Halts.{failures_after}
use Rattle.tm_parts.specs.declared.halt.Halt.{Halt}
use Rattle.tm_parts.specs.declared.halt.Halt.TheVariants as halt
use Rattle.tm_state.specs.Answers.{KeepsFixed, KeepsFixedAndNames, OneDeeper, NamedBecomes, LeavesState, call_of}
use Rattle.tm_state.specs.State.{IsSaved, callee_of, put_back}
use Rattle.tm_meaning.specs.Inheritance.{names_left}
use Rattle.tm_meaning.specs.declared.stream.TemplateId.{TemplateId}
use Rattle.tm_records.specs.declared.results.CallResult.{CallResult}
use Rattle.tm_records.specs.declared.nested.NestedRun.{NestedRun}
use Rattle.tm_runs.specs.Runs.{finished_at}
use Rattle.tm_vm.specs.declared.flow.Flow.{Flow}
use Rattle.tm_vm.specs.declared.flow.Flow.TheVariants as flow

-- ---------------------------------------------------------------- ends
-- The end that a halt means has a property. A halt by the writer or because memory ran out is no
-- end of the definitions.
abbrev pub HaltsAs : Halt → World → (End → Type 0) → Type 0
HaltsAs halt.Writer w Holds = Unit {0}
HaltsAs halt.Stuck w Holds = Holds (Stuck w)
HaltsAs (halt.Fault chain) w Holds = is_want_of_memory chain ≡ false → Holds (Failed chain w)

-- The end that a run answered has a property.
abbrev pub EndsAs : Result (Unit {0}) Halt → Config → (End → Type 0) → Type 0
EndsAs (Ok _) c Holds = Holds (finished_at c)
EndsAs (Err why) c Holds = HaltsAs why c.world Holds

-- The result of a step leads to this end, and the writer has received the text of all that.
abbrev pub ComesTo : Program → Base → Next → Option (List ℕ) → Option (List ℕ) → End → Type 0
ComesTo p f n told now e = (text : List ℕ) × Appends told now text × Leads p f [] n (final text e)

-- From this configuration the machine reaches this end.
abbrev pub ReachesEnd : Program → Base → Config → Option (List ℕ) → Option (List ℕ) → End → Type 0
ReachesEnd p f c told now e = ComesTo p f (step p f c) told now e

-- ---------------------------------------------------------------- steps
-- what a step itself writes
abbrev pub output : Next → List ℕ
output (More t c) = t
output (Over e) = []
output (Restart c) = []
output (Nest f c back) = []

-- the run that must come first; b is the world before it, and c the configuration
abbrev pub entered : Program → NestedRun → World → Config → Next
entered p e b c =
    nested (first_run p (callee_of e.run) (length c.captures)) e.heard c.captures c.world
    (record { run = c.run; call = call_of e b; value = e.value })

abbrev pub Enters : Program → NestedRun → Config → Next → Type 0
Enters p e c n = (b : World) × IsSaved e.saved b × (n ≡ entered p e b c)

-- A step first needed a run of its own, which ended and wrote nothing, and the waiting run
-- continues.
pub record Ran (p : Program) (n : Next) (c : Config) : Type 0 where
  pub base : Base
  pub first : Config
  pub back : Back
  pub end : End
  pub needs : n ≡ Nest base first back
  pub leads : Leads p base [] (step p base first) (final [] end)
  pub goes : back_to back end ≡ More [] c

-- So many steps lead from one configuration to another and write nothing, whatever the run's base
-- is.
abbrev pub Steps : Program → ℕ → Config → Config → Type 0
Steps p zero c d = d ≡ c
Steps p (suc count) c d = (m : Config) × ((f : Base) → step p f c ≡ More [] m) × Steps p count m d

-- A step wrote nothing, and some more were done with it.
pub record IsAhead (p : Program) (n : Next) (c : Config) : Type 0 where
  pub between : Config
  pub first : n ≡ More [] between
  pub count : ℕ
  pub then : Steps p count between c

-- A step was done, and the writer received its text; or some more were done with it; or the run
-- restarts; or the step first needs a run of its own, which is finished or still to come; or the run
-- is over; or it halted, and the writer received a prefix of the text.
abbrev pub Did : Program → Result Flow Halt → Option (List ℕ) → Option (List ℕ) → Config → Next → Type 0
Did p (Ok flow.GoOn) told now c n = (n ≡ More (output n) c) × Appends told now (output n)
Did p (Ok flow.Ahead) told now c n = IsAhead p n c × (now ≡ told)
Did p (Ok flow.Done) told now c n = (n ≡ Over (finished_at c)) × (now ≡ told)
Did p (Ok flow.Restart) told now c n = (n ≡ Restart c) × (now ≡ told)
Did p (Ok flow.Called) told now c n = Ran p n c × (now ≡ told)
Did p (Ok (flow.Enter e)) told now c n = Enters p e.value c n × (now ≡ told)
Did p (Err why) told now c n = HaltsAs why c.world (λ e. n ≡ Over e) × AppendsBeginning told now (output n)

-- Of the n outermost scopes all but the innermost are the same, at the same depth; and the places
-- in the lists of blocks are the same.
abbrev pub SameGround : ℕ → Scopes → Scopes → Named ℕ → Named ℕ → Type 0
SameGround n old new were are = (outermost (n - 1) new.frames ≡ outermost (n - 1) old.frames) × (new.outer ≡ old.outer) × (are ≡ were)

abbrev pub KeepsGround : ℕ → World → World → Type 0
KeepsGround n old new = SameGround n old.scopes new.scopes old.places new.places

-- There are as many scopes, on the same ground.
abbrev pub SameStanding : World → World → Type 0
SameStanding old new = (length new.scopes.frames ≡ length old.scopes.frames) × KeepsGround (length old.scopes.frames) old new

-- No scope was dropped, and they are on the same ground.
abbrev pub NoFewer : World → World → Type 0
NoFewer old new = (length old.scopes.frames ≤ length new.scopes.frames) × KeepsGround (length old.scopes.frames) old new

-- No scope from before the run was dropped, and they are on the same ground.
abbrev pub KeepsBaseScopes : Base → World → World → Type 0
KeepsBaseScopes f old new =
    f.scopes ≤ length old.scopes.frames → (f.scopes ≤ length new.scopes.frames) × KeepsGround f.scopes old new

-- The scopes after a step: none from before the run was dropped; there is a new one, within the
-- limit, if a run of its own is needed; and a finished run has closed what it opened.
abbrev pub Depths : ℕ → Base → Result Flow Halt → World → World → Type 0
Depths limit f (Ok flow.GoOn) old new = KeepsBaseScopes f old new
Depths limit f (Ok flow.Ahead) old new = KeepsBaseScopes f old new
Depths limit f (Ok flow.Called) old new = KeepsBaseScopes f old new
Depths limit f (Ok flow.Restart) old new = KeepsBaseScopes f old new
Depths limit f (Ok flow.Done) old new = KeepsBaseScopes f old new × (f.scopes ≡ length new.scopes.frames)
Depths limit f (Ok (flow.Enter e)) old new = OneDeeper limit e.value.saved old new
Depths limit f (Err why) old new = KeepsBaseScopes f old new

-- The number of names that can still be loaded doesn't grow; before a run of its own it stays. Steps
-- that were done with another one are charged.
abbrev pub Names : HostValue → Result Flow Halt → World → World → Type 0
Names host (Ok (flow.Enter e)) old new = new.loaded ≡ old.loaded
Names host (Ok flow.Ahead) old new = (names_left host new ≤ names_left host old) × (new.fuel < old.fuel)
Names host _ old new = names_left host new ≤ names_left host old

-- The stream, the loops and the waiting parent are the same.
abbrev pub StaysRun : Activation → Activation → Type 0
StaysRun old new = (new.stream ≡ old.stream) × (new.loops ≡ old.loops) × (new.parent ≡ old.parent)

-- The stream is the same, except after a restart; and after several steps the loops and the parent too.
abbrev pub StaysIn : Result Flow Halt → Activation → Activation → Type 0
StaysIn (Ok flow.Restart) old new = Unit {0}
StaysIn (Ok flow.Ahead) old new = StaysRun old new
StaysIn _ old new = new.stream ≡ old.stream

-- An instruction, or a step, did what its definition says: by its answer, with the writer that was `told` before and is `now`.
pub record Performs (p : Program) (f : Base) (n : Next) (old new : Config) (told now : Told)
    (result : Result Flow Halt) : Type 0 where
  pub did : Did p result told.bytes now.bytes new n
  pub counted : now.failures ≡ failures_after result told.failures
  pub kept : KeepsFixed old.world new.world
  pub names : Names p.host result old.world new.world
  pub depths : Depths p.host.limit f result old.world new.world
  pub same_stream : StaysIn result old.run new.run

-- how many loops that a run has open were called
abbrev pub pending : List (Option Return) → ℕ
pending [] = 0
pending (None ∷ rs) = pending rs
pending (Some r ∷ rs) = pending rs + 1

-- what a run has left: each unit of fuel twice, for a call of a loop and for its return, and each
-- pending return
abbrev pub returns_left : Config → ℕ
returns_left c = c.world.fuel + c.world.fuel + pending c.run.loops

-- and for each of these the places up to the end of a stream of this size
abbrev pub weight : ℕ → Config → ℕ
weight size c = returns_left c * (size + 1) + (size - c.run.place)

-- 1 if a parent is waiting now or will be restored after a called loop, else 0
abbrev pub waits_in : Option TemplateId → List (Option Return) → ℕ
waits_in (Some t) rs = 1
waits_in None [] = 0
waits_in None (None ∷ rs) = waits_in None rs
waits_in None (Some r ∷ rs) = waits_in r.parent rs

abbrev pub waits : Activation → ℕ
waits r = waits_in r.parent r.loops

-- how many parents the run may still restart in
abbrev pub parents_left : HostValue → Config → ℕ
parents_left host c = waits c.run + names_left host c.world

-- Less is left after a step: it is charged, or returns from a loop, or is free and moves to the
-- next place; and the number of parents left doesn't grow. A restart lowers that number. Before a
-- run of its own a step is charged, if that run can begin.
abbrev pub Paid : Program → ℕ → Result Flow Halt → Config → Config → Type 0
Paid p size (Ok flow.GoOn) old new = (weight size new < weight size old) × (parents_left p.host new ≤ parents_left p.host old)
Paid p size (Ok flow.Ahead) old new = (weight size new < weight size old) × (parents_left p.host new ≤ parents_left p.host old)
Paid p size (Ok flow.Called) old new = (weight size new < weight size old) × (parents_left p.host new ≤ parents_left p.host old)
Paid p size (Ok flow.Restart) old new = parents_left p.host new < parents_left p.host old
Paid p size (Ok (flow.Enter e)) old new =
    (first : Activation) → first_run p (callee_of e.value.run) (length new.captures) ≡ Some first →
    (returns_left new < returns_left old) × (waits new.run ≤ waits old.run)
Paid p size _ old new = Unit {0}

-- The same for an instruction that needs no run.
abbrev pub Wrote : Result Flow Halt → Option (List ℕ) → Option (List ℕ) → Config → Next → Type 0
Wrote (Ok flow.GoOn) told now c n = (n ≡ More (output n) c) × Appends told now (output n)
Wrote (Ok flow.Done) told now c n = ⊥
Wrote (Ok flow.Ahead) told now c n = ⊥
Wrote (Ok flow.Called) told now c n = ⊥
Wrote (Ok flow.Restart) told now c n = ⊥
Wrote (Ok (flow.Enter e)) told now c n = ⊥
Wrote (Err why) told now c n = HaltsAs why c.world (λ e. n ≡ Over e) × AppendsBeginning told now (output n)

pub record WritesNext (n : Next) (old new : Config) (told now : Told) (result : Result Flow Halt) : Type 0 where
  pub did : Wrote result told.bytes now.bytes new n
  pub counted : now.failures ≡ failures_after result told.failures
  pub kept : KeepsFixedAndNames old.world new.world
  pub same_standing : SameStanding old.world new.world
  pub same_stream : new.run.stream ≡ old.run.stream

-- And for one that writes nothing.
abbrev pub Quietly : Result Flow Halt → Config → Next → Type 0
Quietly (Ok flow.GoOn) c n = n ≡ More [] c
Quietly (Ok flow.Done) c n = ⊥
Quietly (Ok flow.Ahead) c n = ⊥
Quietly (Ok flow.Called) c n = ⊥
Quietly (Ok flow.Restart) c n = ⊥
Quietly (Ok (flow.Enter e)) c n = ⊥
Quietly (Err halt.Writer) c n = ⊥
Quietly (Err halt.Stuck) c n = n ≡ Over (Stuck c.world)
Quietly (Err (halt.Fault chain)) c n = is_want_of_memory chain ≡ false → n ≡ Over (Failed chain c.world)

pub record Silently (n : Next) (old new : Config) (result : Result Flow Halt) : Type 0 where
  pub did : Quietly result new n
  pub kept : KeepsFixedAndNames old.world new.world
  pub same_standing : SameStanding old.world new.world
  pub same_stream : new.run.stream ≡ old.run.stream

-- And for one with which some of the next ones may be done.
abbrev pub QuietlyAhead : Program → Result Flow Halt → Config → Next → Type 0
QuietlyAhead p (Ok flow.Ahead) c n = IsAhead p n c
QuietlyAhead p result c n = Quietly result c n

abbrev pub PaysAhead : Result Flow Halt → World → World → Type 0
PaysAhead (Ok flow.Ahead) old new = new.fuel < old.fuel
PaysAhead _ old new = Unit {0}

pub record SilentlyAhead (p : Program) (n : Next) (old new : Config) (result : Result Flow Halt) : Type 0 where
  pub did : QuietlyAhead p result new n
  pub kept : KeepsFixedAndNames old.world new.world
  pub pays : PaysAhead result old.world new.world
  pub same_standing : SameStanding old.world new.world
  pub same_run : StaysIn result old.run new.run

-- And for one that may open a scope, and drops none.
pub record Opens (n : Next) (old new : Config) (result : Result Flow Halt) : Type 0 where
  pub did : Quietly result new n
  pub kept : KeepsFixedAndNames old.world new.world
  pub no_fewer : NoFewer old.world new.world
  pub same_stream : new.run.stream ≡ old.run.stream

-- And for one that may drop a scope that the run opened.
pub record Shifts (f : Base) (n : Next) (old new : Config) (result : Result Flow Halt) : Type 0 where
  pub did : Quietly result new n
  pub kept : KeepsFixedAndNames old.world new.world
  pub stays : KeepsBaseScopes f old.world new.world
  pub same_stream : new.run.stream ≡ old.run.stream

-- And for one that may load a template.
pub record Loads (host : HostValue) (n : Next) (old new : Config) (result : Result Flow Halt) : Type 0 where
  pub did : Quietly result new n
  pub kept : KeepsFixed old.world new.world
  pub names : names_left host new.world ≤ names_left host old.world
  pub same_standing : SameStanding old.world new.world
  pub same_stream : new.run.stream ≡ old.run.stream

-- And for one that may need a run of its own.
abbrev pub Needed : Program → Result Flow Halt → Config → Next → Type 0
Needed p (Ok flow.GoOn) c n = n ≡ More [] c
Needed p (Ok flow.Ahead) c n = ⊥
Needed p (Ok flow.Done) c n = ⊥
Needed p (Ok flow.Called) c n = Ran p n c
Needed p (Ok flow.Restart) c n = ⊥
Needed p (Ok (flow.Enter e)) c n = Enters p e.value c n
Needed p (Err halt.Writer) c n = ⊥
Needed p (Err halt.Stuck) c n = n ≡ Over (Stuck c.world)
Needed p (Err (halt.Fault chain)) c n = is_want_of_memory chain ≡ false → n ≡ Over (Failed chain c.world)

-- the scopes after an instruction: with more for the run that it needs, and otherwise none was
-- dropped
abbrev pub Deepens : ℕ → Result Flow Halt → World → World → Type 0
Deepens limit (Ok (flow.Enter e)) old new = OneDeeper limit e.value.saved old new
Deepens limit _ old new = NoFewer old new

pub record Needs (p : Program) (n : Next) (old new : Config) (result : Result Flow Halt) : Type 0 where
  pub did : Needed p result new n
  pub kept : KeepsFixedAndNames old.world new.world
  pub deepens : Deepens p.host.limit result old.world new.world
  pub same_stream : new.run.stream ≡ old.run.stream

-- The run's text will be a value in place of `count` operands; or memory ran out, and what the run
-- replaced is restored.
abbrev pub EntersAsValue : NestedRun → ℕ → Result Flow Halt → Config → Config → Type 0
EntersAsValue run count (Ok (flow.Enter e)) old new = (e.value ≡ run) ×
    (new ≡ record { run = waiting (drop count old.run.operands) old; captures = new_capture true ∷ old.captures; world = old.world })
EntersAsValue run count (Err (halt.Fault chain)) old new = (is_want_of_memory chain ≡ true) ×
    (new.world ≡ put_back run.saved old.world) × (new.run.stream ≡ old.run.stream)
EntersAsValue run count _ old new = ⊥

-- A run continues after a call with `count` operands that had this result and left this world,
-- whatever was asked for in the world before.
abbrev pub GoesOnWith : Program → CallResult → ℕ → Config → Config → Result Flow Halt → Type 0
GoesOnWith p came count old new result = (q : Asked) (before : World) → NamedBecomes (Ok came) q old.world →
    LeavesState p.host.limit (Ok came) before old.world →
    Needs p (asked p (record old { world = before }) (drop count old.run.operands) q) (record old { world = before }) new result

-- A run ends after its last instruction if it has closed what it opened, or restarts in the waiting
-- parent; otherwise it is stuck. Memory may run out for a restart.
abbrev pub Finishes : Result Flow Halt → Base → Config → Config → Next → Type 0
Finishes (Ok flow.Done) f old new n =
    (n ≡ Over (finished_at new)) × (f.scopes ≡ length new.world.scopes.frames) × (new ≡ old)
Finishes (Ok flow.Restart) f old new n =
    (n ≡ Restart new) × ((t : TemplateId) × (old.run.parent ≡ Some t) × (old.run.loops ≡ []) × (new ≡ restarted t old))
Finishes (Err halt.Stuck) f old new n = (n ≡ Over (Stuck new.world)) × (new ≡ old)
Finishes (Err (halt.Fault chain)) f old new n = (is_want_of_memory chain ≡ true) × (new ≡ old)
Finishes _ f old new n = ⊥

-- The run of a callee has begun with the same captures and world, and the result is the waiting
-- run; or there is no such run, and nothing changes.
abbrev pub BeginsRun : Option Activation → Option Activation → Config → Config → Type 0
BeginsRun first (Some waits) old new =
    (waits ≡ old.run) × (first ≡ Some new.run) × (new.captures ≡ old.captures) × (new.world ≡ old.world)
BeginsRun first None old new = (first ≡ None) × (new ≡ old)

-- The machine is at the first place of a run; or there is no such run, and the state is returned.
abbrev pub IsAtFirst : Option Activation → List Capture → World → Result Config World → Type 0
IsAtFirst first captures w (Ok c) = (first ≡ Some c.run) × (c ≡ running c.run captures w)
IsAtFirst first captures w (Err left) = (first ≡ None) × (left ≡ w)

-- a loop is called with the present operands and captures
abbrev pub recurses : Program → Recursion → Bool → Config → Next
recurses p r value c = recursion p c value c.run.operands c.captures r.number (place_of_loop p c r.number) r.items.value.items c.world

-- Jumps to a place if the top value has this truth, and leaves the value there; otherwise pops it.
abbrev pub jump_or_pop_of : HostValue → Bool → ℕ → Config → Next
jump_or_pop_of host true = jump_if_true_or_pop_of host
jump_or_pop_of host false = jump_if_false_or_pop_of host
