-- What renders mean, leave and answer.
use Rattle.std.specs.Prelude.{◌≡◌, ◌⊎◌, ◌+◌, ◌-◌, ◌^◌, ℕ, List, [], ◌∷◌, Bool, true, false, Option, Result, Ok, Err, String}
use Rattle.std.specs.Prelude.{string_bytes}
use Rattle.std.specs.Io.KnownBytes.{Appends}
use Rattle.std.specs.declared.alloc.Global.{Global}
use Rattle.tm_values.specs.Answer.{Answer}
use Rattle.tm_meaning.specs.Memory.{is_want_of_memory}
use Rattle.tm_values.specs.Val.{Val, boolean, undefined}
use Rattle.tm_values.specs.declared.error.ErrorKind.{ErrorKind}
use Rattle.tm_values.specs.declared.error.ErrorKind.TheVariants.{InvalidOperation, WriteFailure}
use Rattle.tm_syntax.specs.Named.{put}
use Rattle.tm_meaning.specs.World.{World, Res, Good, Bad}
use Rattle.tm_meaning.specs.Calls.{Asked, has, refused, recurs, runs, Callee, NestedCall, Undo, of_block, run_value, undone, whole, wrapped}
use Rattle.tm_meaning.specs.Calls.{apply_filter, enter_block, perform_test}
use Rattle.tm_objects.specs.Stated.{StatedObjects}
use Rattle.tm_meaning.specs.declared.stream.StreamId.{StreamId}
use Rattle.tm_meaning.specs.declared.stream.TemplateId.TheVariants.{Own}
use Rattle.tm_meaning.specs.Machine.{Capture, End, Finished, Failed, Program, base_of, new_capture, put_in, put_out}
use Rattle.tm_meaning.specs.Steps.{Leads, begins, final}
use Rattle.tm_meaning.specs.Meaning.{Ending, fault, Outcome}
use Rattle.tm_meaning.specs.Runs.{evaluated, first_world, nests_of, rendered, rendered_block}
pub use Rattle.tm_simulation.specs.Called.{as_text, call_by_name, called, maps_in}
use Rattle.tm_state.specs.Answers.{HasOneMore}
use Rattle.tm_state.specs.State.{callee_of, runs_block, saved_of, saved_scopes}
use Rattle.tm_records.specs.declared.saved.Saved.TheVariants as saved
use Rattle.tm_records.specs.declared.results.CallResult.{CallResult}
use Rattle.tm_records.specs.declared.results.CallResult.TheVariants as outcome
use Rattle.tm_records.specs.declared.saved.SavedBlock.{SavedBlock}
use Rattle.tm_output.specs.Counts.{AppendsBeginning, NoFailure, OneFailure, Told}
use Rattle.tm_parts.specs.declared.halt.Halt.{Halt}
use Rattle.tm_parts.specs.declared.halt.Halt.TheVariants as halt
use Rattle.tm_templates.specs.Templates.{Compiled, IsRefused}
use Rattle.tm_shapes.specs.Shaped.{IsShaped}
use Rattle.tm_shapes.specs.Shapes.{Shapes}
use Rattle.tm_safety.specs.Fits.{AllEnter, ids_of}
use Rattle.tm_safety.specs.Runs.{stream_of}
use Rattle.tm_vm.specs.Nested.{WroteBeginning}
use Rattle.template_machine.specs.Environment.{AreOfTrees, EnvironmentValue, TemplateValue, IsTemplateOf, code, host_of, trees}

-- a rendered template, and the world after the render
pub record StateValue (O : Type 0) : Type 0 where
  pub template : TemplateValue O
  pub world : World

-- a text that went to no writer, and the state after the render
pub record CapturedValue (S : Type 0) : Type 0 where
  pub output : List ℕ
  pub state : S

-- the state with a value kept under a name
abbrev pub with_temp : {O : Type 0} → List ℕ → Val → StateValue O → StateValue O
with_temp x value s = record s { world = record s.world { temps = put x value s.world.temps } }

-- the state with another world
abbrev pub with_world : {O : Type 0} → World → StateValue O → StateValue O
with_world w s = record s { world = w }

-- the greatest u64: a counter of state ids is full there, and a count of failures stays there
abbrev pub greatest : ℕ
greatest = 2 ^ 64 - 1

-- ---------------------------------------------------------------- meanings
-- the world at the start of a render, of the state with this number over this context value
abbrev pub first : {O : Type 0} → (O → StatedObjects) → TemplateValue O → ℕ → Val → World
first stated t id context = first_world (host_of stated t) t.id id t.environment.fuel context

-- the world of a state with this number in which nothing runs: that of a render, without its scope
abbrev pub idle : {O : Type 0} → (O → StatedObjects) → TemplateValue O → ℕ → World
idle stated t id = record (first stated t id (undefined false)) { scopes = record { frames = []; outer = 0 } }

-- what a template means from a world, with what the objects state
abbrev pub meaning_from : {O : Type 0} → (O → StatedObjects) → TemplateValue O → World → Outcome
meaning_from stated t w = rendered (host_of stated t) (trees t) w

-- What a template means, rendered in the state with this number over this context value: its tree,
-- run in its environment's host with the environment's fuel.
abbrev pub meaning : {O : Type 0} → (O → StatedObjects) → TemplateValue O → ℕ → Val → Outcome
meaning stated t id context = meaning_from stated t (first stated t id context)

-- the run of a callee, heard, with an empty text
abbrev pub callee_run : {O : Type 0} → (O → StatedObjects) → TemplateValue O → Callee → World → Outcome
callee_run stated t k w = let host = host_of stated t in nests_of host (trees t) (host.limit + 1) k true [] w

-- the value of a call while no template runs
abbrev pub called_value : {O : Type 0} → (O → StatedObjects) → TemplateValue O → Asked → Res Val
called_value stated t asked = called (host_of stated t) (trees t) asked

abbrev pub answer_by : Ending → World → Answer World
answer_by (fault chain) w = Err chain
answer_by e w = Ok w

-- The world at the end, or the chain of the fault.
abbrev pub answer_of : Outcome → Answer World
answer_of m = answer_by m.ending m.world

-- ---------------------------------------------------------------- answers
-- The answer is OutOfMemory.
abbrev pub IsMemory : {A : Type 0} → Result A (List ErrorKind) → Type 0
IsMemory (Ok x) = ⊥
IsMemory (Err chain) = is_want_of_memory chain ≡ true

-- The answer is the end that was meant: the template's state with the final world and no text of
-- its own, or an error with the fault's chain.
abbrev pub IsEnd : {O : Type 0} → TemplateValue O → Result (CapturedValue (StateValue O)) (List ErrorKind) → Outcome → Type 0
IsEnd t (Ok c) m = (c.output ≡ []) × (c.state.template ≡ t) × (answer_of m ≡ Ok c.state.world)
IsEnd t (Err answer) m = answer_of m ≡ Err answer

-- The answer is the text that was meant, or an error with the fault's chain.
abbrev pub IsRenderedText : Result (String Global) (List ErrorKind) → Outcome → Type 0
IsRenderedText (Ok text) m = (string_bytes text ≡ m.text) × (w : World) × (answer_of m ≡ Ok w)
IsRenderedText (Err answer) m = answer_of m ≡ Err answer

-- How a render into a writer ended, which was `told` before and is `now`.
pub data Rendered {O : Type 0} (t : TemplateValue O) (m : Outcome) (result : Result (CapturedValue (StateValue O)) (List ErrorKind))
    (told now : Told) : Type 0 where
  -- as was meant: the answer is the end that was meant, and the writer got the whole text
  as_meant : IsEnd t result m → Appends told.bytes now.bytes m.text → NoFailure told now → Rendered t m result told now
  -- the writer failed, after a beginning of the text
  by_writer : result ≡ Err (WriteFailure ∷ []) → AppendsBeginning told.bytes now.bytes m.text → OneFailure told now →
      Rendered t m result told now
  -- no memory was found, after a beginning of the text
  by_memory : IsMemory result → AppendsBeginning told.bytes now.bytes m.text → NoFailure told now → Rendered t m result told now

-- How a render to a text ended: as was meant, or because memory ran out.
pub data RenderedText (m : Outcome) (result : Result (String Global) (List ErrorKind)) : Type 0 where
  text_as_meant : IsRenderedText result m → RenderedText m result
  text_by_memory : IsMemory result → RenderedText m result

-- The answer is the whole text that was meant, with the template's state and its world, or an error
-- with the fault's chain.
abbrev pub IsCapturedEnd : {O : Type 0} → TemplateValue O → Result (CapturedValue (StateValue O)) (List ErrorKind) → Outcome → Type 0
IsCapturedEnd t (Ok c) m = (c.output ≡ m.text) × (c.state.template ≡ t) × (answer_of m ≡ Ok c.state.world)
IsCapturedEnd t (Err answer) m = answer_of m ≡ Err answer

-- How a render to a text and a state ended: as was meant, or because memory ran out.
pub data RenderedCaptured {O : Type 0} (t : TemplateValue O) (m : Outcome)
    (result : Result (CapturedValue (StateValue O)) (List ErrorKind)) : Type 0 where
  captured_as_meant : IsCapturedEnd t result m → RenderedCaptured t m result
  captured_by_memory : IsMemory result → RenderedCaptured t m result

-- How a render of a source under this name ended: it was refused because it spells no template or
-- memory ran out, and no state was numbered; or it was rendered as the template that it spells, if
-- those of the environment have trees too.
pub data RenderedSource {O : Type 0} (stated : O → StatedObjects) (e : EnvironmentValue O)
    (name source : List ℕ) (old new : ℕ) (context : Val)
    (result : Result (String Global) (List ErrorKind)) : Type 0 where
  source_refused : (chain : List ErrorKind) → result ≡ Err chain → IsRefused e.syntax source chain → new ≡ old →
      RenderedSource stated e name source old new context result
  source_rendered : (t : Compiled) → IsTemplateOf stated e name source t →
      (AreOfTrees e.templates → RenderedText (meaning stated (record { environment = e; id = Own; template = t }) old context) result) →
      new ≡ old + 1 → RenderedSource stated e name source old new context result

-- The answer for a source under this name if the counter is full: why the source was refused, or
-- InvalidOperation because no state can be numbered.
abbrev pub IsUnnumbered :
    {O : Type 0} → (O → StatedObjects) → EnvironmentValue O → List ℕ → List ℕ → Result (String Global) (List ErrorKind) → Type 0
IsUnnumbered stated e name source (Ok text) = ⊥
IsUnnumbered stated e name source (Err chain) =
    IsRefused e.syntax source chain ⊎ ((t : Compiled) × IsTemplateOf stated e name source t × (chain ≡ InvalidOperation ∷ []))

-- what a state is asked for by the name of a filter, a test, a function or a block
abbrev pub filter_asked : {O : Type 0} → (O → StatedObjects) → StateValue O → List ℕ → List Val → Asked
filter_asked stated s x args = apply_filter (host_of stated s.template) x args s.world

abbrev pub test_asked : {O : Type 0} → (O → StatedObjects) → StateValue O → List ℕ → List Val → Asked
test_asked stated s x args = perform_test (host_of stated s.template) x args s.world

abbrev pub name_asked : {O : Type 0} → (O → StatedObjects) → StateValue O → List ℕ → List Val → Asked
name_asked stated s x args = call_by_name (host_of stated s.template) x args s.world

abbrev pub block_asked : {O : Type 0} → (O → StatedObjects) → StateValue O → List ℕ → Asked
block_asked stated s b = enter_block (host_of stated s.template) b s.world

-- The result of a state's call: the value that was meant, or the fault, and the world after it;
-- unless memory ran out.
abbrev pub IsMacroCall : Result Val (List ErrorKind) → Res Val → World → Type 0
IsMacroCall (Ok v) meant w = meant ≡ Good v w
IsMacroCall (Err chain) meant w = is_want_of_memory chain ≡ false → meant ≡ Bad chain w

-- The same for a test, whose value is a boolean.
abbrev pub IsTested : Result Bool (List ErrorKind) → Res Val → World → Type 0
IsTested (Ok b) meant w = meant ≡ Good (boolean b) w
IsTested (Err chain) meant w = is_want_of_memory chain ≡ false → meant ≡ Bad chain w

-- The result of a run in a capture of its own: the text that was meant, or the fault, and the world
-- after it; unless memory ran out.
abbrev pub IsCapturedRun : Result (String Global) (List ErrorKind) → Outcome → World → Type 0
IsCapturedRun (Ok text) m w = (string_bytes text ≡ m.text) × (answer_of m ≡ Ok w)
IsCapturedRun (Err chain) m w = is_want_of_memory chain ≡ false → (m.ending ≡ fault chain) × (m.world ≡ w)

-- The same for a run with one capture.
abbrev pub RanApart : Result (List Capture) Halt → Outcome → World → Type 0
RanApart (Ok new) m w = (answer_of m ≡ Ok w) × (new ≡ record { heard = true; text = m.text } ∷ [])
RanApart (Err halt.Writer) m w = ⊥
RanApart (Err halt.Stuck) m w = ⊥
RanApart (Err (halt.Fault chain)) m w = is_want_of_memory chain ≡ false → (m.ending ≡ fault chain) × (m.world ≡ w)

-- ---------------------------------------------------------------- runs
-- No capture is open, or one that is empty.
abbrev pub IsFresh : List Capture → Type 0
IsFresh captures = (captures ≡ []) ⊎ (captures ≡ new_capture true ∷ [])

-- The answer of a run with captures: finished, with the text added, or a fault with the chain; and
-- the world at the end.
abbrev pub IsRun : Result (List Capture) Halt → World → List Capture → Outcome → Type 0
IsRun (Ok new) left old m = (answer_of m ≡ Ok left) × (new ≡ put_in old m.text)
IsRun (Err (halt.Fault chain)) left old m = (answer_of m ≡ Err chain) × (m.world ≡ left)
IsRun (Err _) left old m = ⊥

-- How a run over captures ended, in the same three ways.
pub data Ran (m : Outcome) (result : Result (List Capture) Halt) (left : World) (old : List Capture) (told now : Told) : Type 0 where
  run_as_meant : IsRun result left old m → Appends told.bytes now.bytes (put_out old m.text) → NoFailure told now →
      Ran m result left old told now
  run_by_writer : result ≡ Err halt.Writer → AppendsBeginning told.bytes now.bytes (put_out old m.text) → OneFailure told now →
      Ran m result left old told now
  run_by_memory : (chain : List ErrorKind) → result ≡ Err (halt.Fault chain) → is_want_of_memory chain ≡ true →
      AppendsBeginning told.bytes now.bytes (put_out old m.text) → NoFailure told now → Ran m result left old told now

-- ---------------------------------------------------------------- blocks
-- what the block of a name means, called from a state's world
abbrev pub block_meaning : {O : Type 0} → (O → StatedObjects) → TemplateValue O → List ℕ → World → Outcome
block_meaning stated t b w = rendered_block (host_of stated t) (trees t) b w

-- The block's run is what is asked for, from the new world; what is restored after it is from the
-- old one.
abbrev pub IsEntered : Asked → SavedBlock → World → World → Type 0
IsEntered asked saved old new =
    (saved ≡ saved_of old) × ((s : StreamId) × (asked ≡ runs_block s old new)) × HasOneMore old new × (new.places ≡ old.places)

-- The answer is the end that was meant, in the final world.
abbrev pub IsBlockEnd : Result (Unit {0}) (List ErrorKind) → World → Outcome → Type 0
IsBlockEnd (Ok x) left m = answer_of m ≡ Ok left
IsBlockEnd (Err chain) left m = (answer_of m ≡ Err chain) × (m.world ≡ left)

-- How a block's render into a writer ended, as `Rendered`.
pub data BlockWritten (m : Outcome) (result : Result (Unit {0}) (List ErrorKind)) (left : World) (told now : Told) : Type 0 where
  block_as_meant : IsBlockEnd result left m → Appends told.bytes now.bytes m.text → NoFailure told now →
      BlockWritten m result left told now
  block_by_writer : result ≡ Err (WriteFailure ∷ []) → AppendsBeginning told.bytes now.bytes m.text → OneFailure told now →
      BlockWritten m result left told now
  block_by_memory : IsMemory result → AppendsBeginning told.bytes now.bytes m.text → NoFailure told now →
      BlockWritten m result left told now

-- ---------------------------------------------------------------- expressions
-- What an expression means, evaluated from this world.
abbrev pub value_meant : {O : Type 0} → (O → StatedObjects) → TemplateValue O → World → Res Val
value_meant stated t w = maps_in (evaluated (host_of stated t) (trees t) w)

-- The answer is the value that was meant, or an error with the fault's chain.
abbrev pub IsValue : Result Val (List ErrorKind) → Res Val → Type 0
IsValue (Ok v) m = (w : World) × (m ≡ Good v w)
IsValue (Err chain) m = (w : World) × (m ≡ Bad chain w)

-- How an evaluation ended: as was meant, or because memory ran out.
pub data Evaluated (m : Res Val) (result : Result Val (List ErrorKind)) : Type 0 where
  value_as_meant : IsValue result m → Evaluated m result
  value_by_memory : IsMemory result → Evaluated m result

-- ---------------------------------------------------------------- lists
-- The lists of blocks and the loaded names are the same as before.
abbrev pub SameLists : World → World → Type 0
SameLists old new = (new.blocks ≡ old.blocks) × (new.loaded ≡ old.loaded)

-- Whether the run of a block is asked for; it uses these lists, and may extend a template.
abbrev pub is_of_block : Undo → Bool
is_of_block (of_block b) = true
is_of_block _ = false

abbrev pub runs_a_block : Asked → Bool
runs_a_block (runs c w) = is_of_block c.undo
runs_a_block _ = false

-- They are the same, or are restored after the run that is needed, which is a macro's.
abbrev pub KeepsLists : CallResult → World → World → Type 0
KeepsLists (outcome.Run e) before w = e.value.saved ≡ saved.Macro (saved_scopes before)
KeepsLists _ before w = SameLists before w

-- ---------------------------------------------------------------- streams
-- the program of a template: its streams, run in its environment's host
abbrev pub program_of : {O : Type 0} → (O → StatedObjects) → TemplateValue O → Program
program_of stated t = record { host = host_of stated t; code = code t }

-- If shapes fit all streams, each loop record of the world is for a loop that is entered in the
-- shape of its place. A world without records satisfies this.
abbrev pub SoundRecords : {O : Type 0} → TemplateValue O → World → Type 0
SoundRecords t w = (shapes : StreamId → Shapes) → ((s : StreamId) → IsShaped (code t s) (shapes s)) → AllEnter (code t) shapes (ids_of w.loops)

-- A callee, heard and with these captures, comes to this end and writes this text, by the machine's
-- steps, whoever made the streams.
abbrev pub RunEnds : {O : Type 0} → (O → StatedObjects) → TemplateValue O → Callee → List Capture → World → List ℕ → End → Type 0
RunEnds stated t k captures w text e =
    let f = base_of true captures w in Leads (program_of stated t) f [] (begins (program_of stated t) f k captures w) (final text e)

-- The same for the stream of a world.
abbrev pub StreamEnds : {O : Type 0} → (O → StatedObjects) → TemplateValue O → List Capture → World → List ℕ → End → Type 0
StreamEnds stated t captures w text e = RunEnds stated t (whole w.stream) captures w text e

-- A writer received a prefix of what that stream writes.
abbrev pub StreamBegins : {O : Type 0} → (O → StatedObjects) → TemplateValue O → List Capture → World → Option (List ℕ) → Option (List ℕ) → Type 0
StreamBegins stated t captures w told now =
    let f = base_of true captures w in WroteBeginning (program_of stated t) f (begins (program_of stated t) f (whole w.stream) captures w) told now

-- The answer of a run with captures is this end: finished, or a fault.
abbrev pub IsStreamRun : Result (List Capture) Halt → World → (End → Type 0) → Type 0
IsStreamRun (Ok new) left Ends = (vs : List Val) × Ends (Finished vs new left)
IsStreamRun (Err (halt.Fault chain)) left Ends = Ends (Failed chain left)
IsStreamRun (Err _) left Ends = ⊥

-- How the run of a stream with captures ended: as its steps do, or because the writer failed or
-- memory ran out.
pub data StreamRan {O : Type 0} (stated : O → StatedObjects) (t : TemplateValue O) (w : World) (result : Result (List Capture) Halt)
    (left : World) (captures : List Capture) (told now : Told) : Type 0 where
  stream_ran : (text : List ℕ) → IsStreamRun result left (StreamEnds stated t captures w text) → Appends told.bytes now.bytes text → NoFailure told now →
      StreamRan stated t w result left captures told now
  stream_by_writer : result ≡ Err halt.Writer → StreamBegins stated t captures w told.bytes now.bytes → OneFailure told now →
      StreamRan stated t w result left captures told now
  stream_by_memory : (chain : List ErrorKind) → result ≡ Err (halt.Fault chain) → is_want_of_memory chain ≡ true →
      StreamBegins stated t captures w told.bytes now.bytes → NoFailure told now → StreamRan stated t w result left captures told now

-- The answer is the text in the capture at the end, or the fault.
abbrev pub IsStreamText : Result (String Global) (List ErrorKind) → World → (End → Type 0) → Type 0
IsStreamText (Ok text) left Ends =
    (vs : List Val) × (heard : Bool) × Ends (Finished vs (record { heard = heard; text = string_bytes text } ∷ []) left)
IsStreamText (Err chain) left Ends = Ends (Failed chain left)

-- How the run of a callee in a capture ended, unless memory ran out.
abbrev pub RunCaptured :
    {O : Type 0} → (O → StatedObjects) → TemplateValue O → Callee → World → Result (String Global) (List ErrorKind) → World → Type 0
RunCaptured stated t k w result left =
    IsMemory result ⊎ ((text : List ℕ) × IsStreamText result left (RunEnds stated t k (new_capture true ∷ []) w text))

-- The same for a stream.
abbrev pub StreamCaptured : {O : Type 0} → (O → StatedObjects) → TemplateValue O → World → Result (String Global) (List ErrorKind) → World → Type 0
StreamCaptured stated t w result left = RunCaptured stated t (whole w.stream) w result left

-- How the run of a callee with one capture ended, with the remaining captures, unless memory ran
-- out.
abbrev pub CalleeRan : {O : Type 0} → (O → StatedObjects) → TemplateValue O → Callee → World → Result (List Capture) Halt → World → Type 0
CalleeRan stated t k w (Ok new) left =
    (text : List ℕ) × (vs : List Val) × RunEnds stated t k (new_capture true ∷ []) w text (Finished vs new left)
CalleeRan stated t k w (Err halt.Writer) left = ⊥
CalleeRan stated t k w (Err halt.Stuck) left = ⊥
CalleeRan stated t k w (Err (halt.Fault chain)) left =
    is_want_of_memory chain ≡ false → (text : List ℕ) × RunEnds stated t k (new_capture true ∷ []) w text (Failed chain left)

-- How the render of a stream to a text ended,
pub data StreamText {O : Type 0} (stated : O → StatedObjects) (t : TemplateValue O) (w : World)
    (result : Result (String Global) (List ErrorKind)) : Type 0 where
  text_streamed : (left : World) → StreamCaptured stated t w result left → StreamText stated t w result

-- and to a text and a state
abbrev pub IsStreamCaptured : {O : Type 0} → TemplateValue O → Result (CapturedValue (StateValue O)) (List ErrorKind) → (End → Type 0) → Type 0
IsStreamCaptured t (Ok c) Ends =
    (vs : List Val) × (heard : Bool) × (c.state.template ≡ t)
    × Ends (Finished vs (record { heard = heard; text = c.output } ∷ []) c.state.world)
IsStreamCaptured t (Err chain) Ends = (left : World) × Ends (Failed chain left)

pub data StreamState {O : Type 0} (stated : O → StatedObjects) (t : TemplateValue O) (w : World)
    (result : Result (CapturedValue (StateValue O)) (List ErrorKind)) : Type 0 where
  state_streamed : (text : List ℕ) → IsStreamCaptured t result (StreamEnds stated t (new_capture true ∷ []) w text) →
      StreamState stated t w result
  state_by_memory : IsMemory result → StreamState stated t w result

-- The answer is the state at the end, without a text of its own, or the fault.
abbrev pub IsStreamEnd : {O : Type 0} → TemplateValue O → Result (CapturedValue (StateValue O)) (List ErrorKind) → (End → Type 0) → Type 0
IsStreamEnd t (Ok c) Ends =
    (vs : List Val) × (new : List Capture) × (c.output ≡ []) × (c.state.template ≡ t) × Ends (Finished vs new c.state.world)
IsStreamEnd t (Err chain) Ends = (left : World) × Ends (Failed chain left)

-- How the run of a stream into a writer ended, with `Says` as what the answer says about the end:
-- in this way, or because the writer failed or memory ran out.
pub data Streamed {O A : Type 0} (stated : O → StatedObjects) (t : TemplateValue O) (w : World) (result : Result A (List ErrorKind))
    (Says : (End → Type 0) → Type 0) (told now : Told) : Type 0 where
  streamed : (text : List ℕ) → Says (StreamEnds stated t [] w text) → Appends told.bytes now.bytes text → NoFailure told now →
      Streamed stated t w result Says told now
  streamed_by_writer : result ≡ Err (WriteFailure ∷ []) → StreamBegins stated t [] w told.bytes now.bytes → OneFailure told now →
      Streamed stated t w result Says told now
  streamed_by_memory : IsMemory result → StreamBegins stated t [] w told.bytes now.bytes → NoFailure told now →
      Streamed stated t w result Says told now

-- the one operand that an expression's stream leaves; InvalidOperation if it leaves none or several
abbrev pub value_at : List Val → World → Res Val
value_at (v ∷ []) w = Good v w
value_at vs w = Bad (InvalidOperation ∷ []) w

-- The answer is the value at the end, with its namespaces as maps, or a fault.
abbrev pub IsStreamValue : Result Val (List ErrorKind) → (End → Type 0) → Type 0
IsStreamValue result Ends =
    ((vs : List Val) × (new : List Capture) × (left : World) × Ends (Finished vs new left) × IsValue result (maps_in (value_at vs left)))
    ⊎ ((chain : List ErrorKind) × (left : World) × Ends (Failed chain left) × (result ≡ Err chain))

-- How the evaluation of a stream ended.
pub data StreamValue {O : Type 0} (stated : O → StatedObjects) (t : TemplateValue O) (w : World) (result : Result Val (List ErrorKind)) : Type 0 where
  value_streamed : (text : List ℕ) → IsStreamValue result (StreamEnds stated t [] w text) → StreamValue stated t w result
  value_without_memory : IsMemory result → StreamValue stated t w result

-- ---------------------------------------------------------------- calls over streams
-- The run that a call needs is of the stream in its world.
abbrev pub IsStarted : CallResult → World → Type 0
IsStarted (outcome.Run e) w = w.stream ≡ stream_of (callee_of e.value.run)
IsStarted _ w = Unit {0}

-- What the end of a call's run in a capture means for the call, after what it replaced is restored.
abbrev pub IsAfterRun : NestedCall → End → Res Val → Type 0
IsAfterRun c (Finished vs (k ∷ []) w) m = m ≡ Good (run_value c.text k.text (undone c.undo w)) (undone c.undo w)
IsAfterRun c (Failed chain w) m = m ≡ Bad (wrapped c.wrap chain) (undone c.undo w)
IsAfterRun c _ m = ⊥

-- What a call leads to: its value, its fault, or what the end of the run that it needs means. No
-- loop is open that it could call.
abbrev pub CallComes : {O : Type 0} → (O → StatedObjects) → TemplateValue O → Asked → Res Val → Type 0
CallComes stated t (has v w) m = m ≡ Good v w
CallComes stated t (refused chain w) m = m ≡ Bad chain w
CallComes stated t (recurs n items w) m = m ≡ Bad (InvalidOperation ∷ []) w
CallComes stated t (runs c w) m =
    (text : List ℕ) × (e : End) × RunEnds stated t c.callee (new_capture true ∷ []) w text e × IsAfterRun c e m

-- How a call of a state ended, with `Says` as what the answer says about the result: in this way,
-- or because memory ran out.
pub data StreamCalled {O A : Type 0} (stated : O → StatedObjects) (t : TemplateValue O) (asked : Asked) (result : Result A (List ErrorKind))
    (Says : Res Val → Type 0) : Type 0 where
  call_streamed : (m : Res Val) → CallComes stated t asked m → Says m → StreamCalled stated t asked result Says
  call_by_memory : IsMemory result → StreamCalled stated t asked result Says

-- How a block of a state ended. It was refused, or memory ran out, and nothing changed; or it ran
-- from this world, and what it replaced was restored in the world after the run.
pub data BlockEnded (asked : Asked) (old new : World) (Fails : List ErrorKind → Type 0) (Ran : World → World → Type 0) : Type 0 where
  block_refused : (chain : List ErrorKind) → Fails chain → (is_want_of_memory chain ≡ false → asked ≡ refused chain old) → new ≡ old →
      BlockEnded asked old new Fails Ran
  block_ran : (c : NestedCall) (w left : World) → asked ≡ runs c w → Ran w left → new ≡ undone c.undo left →
      BlockEnded asked old new Fails Ran

-- into captures and a writer
abbrev pub BlockRan : {O : Type 0} → (O → StatedObjects) → StateValue O → List ℕ → Result (List Capture) Halt → World → List Capture →
    Told → Told → Type 0
BlockRan stated s b result new captures told now =
    BlockEnded (block_asked stated s b) s.world new
    (λ chain. (result ≡ Err (halt.Fault chain)) × (now ≡ told))
    (λ w left. StreamRan stated s.template w result left captures told now)

-- to a text
abbrev pub BlockText : {O : Type 0} → (O → StatedObjects) → StateValue O → List ℕ → Result (String Global) (List ErrorKind) → World → Type 0
BlockText stated s b result new =
    BlockEnded (block_asked stated s b) s.world new (λ chain. result ≡ Err chain) (λ w left. StreamCaptured stated s.template w result left)

-- The answer is the end of the run, or the fault.
abbrev pub IsBlockDone : Result (Unit {0}) (List ErrorKind) → World → (End → Type 0) → Type 0
IsBlockDone (Ok x) left Ends = (vs : List Val) × (new : List Capture) × Ends (Finished vs new left)
IsBlockDone (Err chain) left Ends = Ends (Failed chain left)

-- into a writer
abbrev pub BlockStreamed : {O : Type 0} → (O → StatedObjects) → StateValue O → List ℕ → Result (Unit {0}) (List ErrorKind) → World →
    Told → Told → Type 0
BlockStreamed stated s b result new told now =
    BlockEnded (block_asked stated s b) s.world new (λ chain. (result ≡ Err chain) × (now ≡ told))
    (λ w left. Streamed stated s.template w result (IsBlockDone result left) told now)

-- ---------------------------------------------------------------- runs that are cut short
-- The writer failed, or memory ran out.
abbrev pub is_cut : Halt → Bool
is_cut halt.Writer = true
is_cut halt.Stuck = false
is_cut (halt.Fault chain) = is_want_of_memory chain

-- the world after a run, without its loops if the run was cut short
abbrev pub forgetting : Bool → World → World
forgetting true w = record w { loops = [] }
forgetting false w = w
