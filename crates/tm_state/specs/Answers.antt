-- What a state's calls answer, beyond the definitions.
use Rattle.std.specs.Prelude.{◌≡◌, ◌≤◌, ◌+◌, ℕ, List, [], ◌∷◌, length, Option, Some, None, Bool, Result, Ok, Err, String, string_bytes}
use Rattle.std.specs.Prelude.{true, false}
use Rattle.std.specs.declared.alloc.Global.{Global}
use Rattle.tm_meaning.specs.Memory.{is_want_of_memory}
use Rattle.tm_values.specs.declared.error.ErrorKind.{ErrorKind}
use Rattle.std.specs.Borrow.{Bor}
use Rattle.std.specs.Global.{Box}
use Rattle.std.specs.declared.rc.Rc.{Rc}
use Rattle.tm_syntax.specs.Named.{find, put_each}
use Rattle.tm_blocks.specs.Lists.{IsEntry}
use Rattle.tm_blocks.specs.declared.template_entry.TemplateEntry.{TemplateEntry}
use Rattle.tm_meaning.specs.Inheritance.{joined}
use Rattle.tm_values.specs.Val.{Val, undefined}
use Rattle.tm_objects.specs.Stated.{is_for_memory}
use Rattle.tm_meaning.specs.World.{World, HostValue, Object, Stated, Res, Good, Bad, depth, plain_scope, records_of}
use Rattle.tm_meaning.specs.Calls.{Asked, has, refused, recurs, runs, NestedCall, MakesFurther, replied, found_call}
use Rattle.tm_meaning.specs.Calls.{as_printed, as_truth, choices_in, first_found, include_depth, include_frames, no_values}
use Rattle.tm_meaning.specs.declared.reply.Call.{Call}
use Rattle.tm_meaning.specs.declared.reply.Call.TheVariants as calls
use Rattle.tm_meaning.specs.declared.stream.TemplateId.TheVariants.{Entry}
use Rattle.tm_meaning.specs.declared.run_text.RunText.{RunText}
use Rattle.tm_meaning.specs.declared.run_text.RunText.TheVariants as texts
use Rattle.tm_records.specs.Results.{is_macro, text_for}
use Rattle.tm_state.specs.State.{callee_of, undo_of, IsSaved}
use Rattle.tm_records.specs.declared.saved.Saved.{Saved}
use Rattle.tm_records.specs.declared.saved.Saved.TheVariants as saved
use Rattle.tm_records.specs.declared.nested.NestedRun.{NestedRun}
use Rattle.tm_records.specs.declared.results.Further.{Further}
use Rattle.tm_records.specs.declared.results.Further.TheVariants as further
use Rattle.tm_records.specs.declared.results.CallResult.{CallResult}
use Rattle.tm_records.specs.declared.results.CallResult.TheVariants as outcome
use Rattle.tm_records.specs.declared.results.Recursion.{Recursion}

-- The scopes are the same as before, and so are the stream, the block, the escape and the places in
-- the lists of blocks.
abbrev pub StaysInPlace : World → World → Type 0
StaysInPlace old new =
    (new.scopes ≡ old.scopes) × (new.stream ≡ old.stream) × (new.block ≡ old.block) × (new.escape ≡ old.escape)
    × (new.places ≡ old.places)

-- There is one new scope over those from before, which may be deeper.
abbrev pub HasOneMore : World → World → Type 0
HasOneMore old new =
    (new.scopes.frames ≡ plain_scope (undefined false) ∷ old.scopes.frames) × (old.scopes.outer ≤ new.scopes.outer)

-- There is one new scope over those from before, or no new one, and then the innermost has lost its
-- own closure. The scopes are deeper.
abbrev pub StandsDeeper : World → World → Type 0
StandsDeeper old new =
    (apart : Bool) × (new.scopes.frames ≡ include_frames apart old.scopes.frames) × (new.scopes.outer ≡ include_depth + old.scopes.outer)

-- There is a new scope for a block, which keeps the places in the lists of blocks, or for a
-- `super()`. For a macro there are two scopes, deeper than those before; for an include those from
-- before, deeper, with a new one or not.
abbrev pub HasMore : Saved → World → World → Type 0
HasMore (saved.Block s) old new = HasOneMore old new × (new.places ≡ old.places)
HasMore (saved.Super s) old new = HasOneMore old new
HasMore (saved.Macro s) old new = (length new.scopes.frames ≡ 2) × (depth old.scopes + 1 ≤ depth new.scopes)
HasMore (saved.Include s) old new = StandsDeeper old new

-- The scopes of the run are within the limit, and what is restored after it is what was there
-- before.
abbrev pub OneDeeper : ℕ → Saved → World → World → Type 0
OneDeeper limit kept old new = IsSaved kept old × HasMore kept old new × (depth new.scopes ≤ limit)

-- What is restored is that of a call, whose text is a value, and not that of an include or an
-- import.
abbrev pub IsCall : Saved → Type 0
IsCall (saved.Include s) = ⊥
IsCall _ = Unit {0}

-- The same for a call's run.
abbrev pub CallDeeper : ℕ → Saved → World → World → Type 0
CallDeeper limit kept old new = OneDeeper limit kept old new × IsCall kept

-- What every answer keeps, even a halt: the id and the fuel that was set; and the fuel left doesn't
-- grow.
pub record KeepsFixed (old new : World) : Type 0 where
  pub same_id : new.id ≡ old.id
  pub same_fuel_set : new.fuel_set ≡ old.fuel_set
  pub no_more_fuel : new.fuel ≤ old.fuel

-- The same, and the loaded names, which stay so long as no template is extended.
pub record KeepsFixedAndNames (old new : World) : Type 0 where
  pub same_id : new.id ≡ old.id
  pub same_fuel_set : new.fuel_set ≡ old.fuel_set
  pub no_more_fuel : new.fuel ≤ old.fuel
  pub same_loaded : new.loaded ≡ old.loaded

pub fixed_of : {old new : World} → KeepsFixedAndNames old new → KeepsFixed old new
fixed_of k = record { same_id = k.same_id; same_fuel_set = k.same_fuel_set; no_more_fuel = k.no_more_fuel }

-- The value can be emitted as this text, or emitting it fails with this error.
abbrev pub CanBeEmitted : Result (Unit {0}) (List ErrorKind) → Res (List ℕ) → List ℕ → World → Type 0
CanBeEmitted (Ok _) emitted text w = emitted ≡ Good text w
CanBeEmitted (Err chain) emitted text w = is_want_of_memory chain ≡ false → emitted ≡ Bad chain w

-- The value is emitted as this text, or emitting it fails with this error.
abbrev pub IsEmitted : Result (String Global) (List ErrorKind) → Res (List ℕ) → World → Type 0
IsEmitted (Ok text) emitted w = emitted ≡ Good (string_bytes text) w
IsEmitted (Err chain) emitted w = is_want_of_memory chain ≡ false → emitted ≡ Bad chain w

-- The call leads to this answer, whose values are kept, or it is refused; unless memory runs out.
abbrev pub Answers : MakesFurther → Result Stated (List ErrorKind) → Asked → World → Type 0
Answers make (Ok answer) asked w = is_for_memory answer.reply ≡ false →
    asked ≡ replied make answer.reply (record w { temps = put_each answer.temps w.temps })
Answers make (Err chain) asked w = is_want_of_memory chain ≡ false → asked ≡ refused chain w

-- The found object gives this answer, or none is found, whatever makes its further calls.
abbrev pub FoundAnswers : Result Stated (List ErrorKind) → HostValue → Option Object → ErrorKind → List Val → World → Type 0
FoundAnswers result host found kind args w =
    (make : MakesFurther) → Answers make result (found_call make host found kind args w) w

-- The result of a call: a value and the world after it, or a fault; unless memory runs out.
abbrev pub Comes : Result Val (List ErrorKind) → Asked → World → Type 0
Comes (Ok v) asked w = asked ≡ has v w
Comes (Err chain) asked w = is_want_of_memory chain ≡ false → asked ≡ refused chain w

-- The loop that a call begins, or the call is refused; unless memory runs out.
abbrev pub Recurs : Result Recursion (List ErrorKind) → Asked → World → Type 0
Recurs (Ok r) asked w = asked ≡ recurs r.number r.items.value.items w
Recurs (Err chain) asked w = is_want_of_memory chain ≡ false → asked ≡ refused chain w

-- the call of a run; b is the world before it
abbrev pub call_of : NestedRun → World → NestedCall
call_of e b = record { callee = callee_of e.run; undo = undo_of e.saved b; wrap = e.wrap; text = e.text }

-- A call needs this run first, from this world; the run's text is the call's value, and its fault
-- the call's fault.
abbrev pub NeedsRun : NestedRun → Asked → World → Type 0
NeedsRun e asked w =
    (e.heard ≡ true) × (e.value ≡ true) × (e.wrap ≡ None) × ((b : World) × IsSaved e.saved b × (asked ≡ runs (call_of e b) w))

-- The same, but a kind may wrap the fault.
abbrev pub NeedsAny : NestedRun → Asked → World → Type 0
NeedsAny e asked w =
    (e.heard ≡ true) × (e.value ≡ true) × ((b : World) × IsSaved e.saved b × (asked ≡ runs (call_of e b) w))

-- A `super()` or an include needs this run first, from this world; b is the world before it.
abbrev pub NeedsSuper : Bool → Bool → NestedRun → Asked → World → World → Type 0
NeedsSuper heard value e asked b w =
    (e.heard ≡ heard) × (e.value ≡ value) × IsSaved e.saved b × (asked ≡ runs (call_of e b) w)

-- A call needs this run of a macro first, from this world; b is the world before it, and `text` the
-- form of its text.
abbrev pub NeedsMacro : RunText → NestedRun → Asked → World → World → Type 0
NeedsMacro text e asked b w =
    (e.heard ≡ true) × (e.value ≡ true) × (e.wrap ≡ None) × (e.text ≡ text) × IsSaved e.saved b ×
    (asked ≡ runs (record (call_of e b) { text = texts.Captured }) w)

-- The result of a call, and the world after it: a value, a called loop, a run that must come first,
-- or a fault; unless memory runs out.
abbrev pub Becomes : Result CallResult (List ErrorKind) → Asked → World → Type 0
Becomes (Ok (outcome.Value v)) asked w = asked ≡ has v w
Becomes (Ok (outcome.Recursion r)) asked w = asked ≡ recurs r.number r.items.value.items w
Becomes (Ok (outcome.Run e)) asked w = NeedsRun e.value asked w
Becomes (Err chain) asked w = is_want_of_memory chain ≡ false → asked ≡ refused chain w

-- The same for a call by name, where a kind may wrap the fault of a run.
abbrev pub NamedBecomes : Result CallResult (List ErrorKind) → Asked → World → Type 0
NamedBecomes (Ok (outcome.Value v)) asked w = asked ≡ has v w
NamedBecomes (Ok (outcome.Recursion r)) asked w = asked ≡ recurs r.number r.items.value.items w
NamedBecomes (Ok (outcome.Run e)) asked w = NeedsAny e.value asked w
NamedBecomes (Err chain) asked w = is_want_of_memory chain ≡ false → asked ≡ refused chain w

-- The scopes after a call: the same as before, or those of the run that must come first.
abbrev pub CallLies : ℕ → Result CallResult (List ErrorKind) → World → World → Type 0
CallLies limit (Ok (outcome.Run e)) old new = CallDeeper limit e.value.saved old new
CallLies limit _ old new = StaysInPlace old new

-- What a call leaves, whatever its result.
pub record LeavesState (limit : ℕ) (result : Result CallResult (List ErrorKind)) (old new : World) : Type 0 where
  pub kept : KeepsFixedAndNames old new
  pub same_blocks : new.blocks ≡ old.blocks
  pub lies : CallLies limit result old new

-- ---------------------------------------------------------------- further calls
-- what is asked for as text, if a macro was called on the way
abbrev pub shown : Bool → Asked → Asked
shown false asked = asked
shown true asked = as_printed asked

-- the truth of what is asked for, if a test was called
abbrev pub tested : Bool → Asked → Asked
tested false asked = asked
tested true asked = as_truth asked

-- A further call needs this run first; its text becomes plain text, or its truth for a test.
abbrev pub NeedsPlain : Bool → NestedRun → Asked → World → Type 0
NeedsPlain test e asked w =
    (e.heard ≡ true) × (e.value ≡ true) × (e.wrap ≡ None) × (e.text ≡ text_for test) ×
    ((b : World) × IsSaved e.saved b × (asked ≡ runs (record (call_of e b) { text = texts.Plain }) w))

-- The result of a further call, whatever makes the calls after it: an answer, a run, or a refusal.
abbrev pub FurtherComes : MakesFurther → Bool → Call → Result Further (List ErrorKind) → Asked → World → Type 0
FurtherComes make test call (Ok (further.Answered answer)) asked w = is_for_memory answer.reply ≡ false →
    asked ≡ shown (is_macro call) (replied make answer.reply (record w { temps = put_each answer.temps w.temps }))
FurtherComes make test call (Ok (further.Run e)) asked w = NeedsPlain test e.value asked w
FurtherComes make test call (Err chain) asked w = is_want_of_memory chain ≡ false → asked ≡ refused chain w

-- The same for the call of a macro, which turns what is asked for into text.
abbrev pub PrintedComes : MakesFurther → Bool → Result Further (List ErrorKind) → Asked → World → Type 0
PrintedComes make test result asked w = FurtherComes make test (calls.Macro [] []) result asked w

-- The scopes after a further call, and what is kept.
abbrev pub FurtherLies : ℕ → Result Further (List ErrorKind) → World → World → Type 0
FurtherLies limit (Ok (further.Run e)) old new =
    CallDeeper limit e.value.saved old new × KeepsFixedAndNames old new × (new.blocks ≡ old.blocks)
FurtherLies limit _ old new = new ≡ record old { namespaces = new.namespaces }

-- ---------------------------------------------------------------- includes
-- An include needs this run first, or there is nothing to run.
abbrev pub NeedsInclude : Bool → Option (Box NestedRun) → Asked → World → World → Type 0
NeedsInclude heard (Some e) asked b w = NeedsSuper heard false e.value asked b w
NeedsInclude heard None asked b w = (asked ≡ has (undefined false) b) × (w ≡ b)

-- The scopes after it.
abbrev pub IncludeLies : ℕ → Option (Box NestedRun) → World → World → Type 0
IncludeLies limit (Some e) old new = OneDeeper limit e.value.saved old new
IncludeLies limit None old new = StaysInPlace old new

-- The template that a name means in the running template, or there is none.
abbrev pub IsNamed : Option TemplateEntry → HostValue → List ℕ → World → Type 0
IsNamed found host name w = (x : List ℕ) × (joined host name w ≡ Good x w) × IsEntry found x (find x host.templates)

-- This template exists.
abbrev pub IsEntryThere : TemplateEntry → HostValue → Type 0
IsEntryThere e host = IsEntry (Some e) e.name.now (find e.name.now host.templates)

-- The first of these choices that exists, or none exists.
abbrev pub IsFirstEntry : Option TemplateEntry → HostValue → List Val → World → Type 0
IsFirstEntry None host vs w = first_found host vs w ≡ Good None w
IsFirstEntry (Some e) host vs w = (first_found host vs w ≡ Good (Some (Entry e.name.now)) w) × IsEntryThere e host

-- The first existing template of those that a value names, and whether the value names none.
abbrev pub IsChosen : Option TemplateEntry → Bool → HostValue → Val → World → Type 0
IsChosen found none host v w =
    (vs : List Val) × (choices_in (records_of w) v ≡ Ok vs) × (none ≡ no_values vs) × IsFirstEntry found host vs w
