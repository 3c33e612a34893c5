-- How chains of kinds arise, and environments whose objects state only some chains.
use Rattle.std.specs.Prelude.{◌≡◌, ◌⊎◌, ℕ, Bool, true, false, List, [], ◌∷◌, Option, None, Some, Ok, Err, slice_get}
use Rattle.std.specs.List.{All}
use Rattle.tm_values.specs.Answer.{Answer}
use Rattle.tm_values.specs.Chain.{is_memory}
use Rattle.tm_values.specs.Val.{Val}
use Rattle.tm_values.specs.declared.error.ErrorKind.{ErrorKind}
use Rattle.tm_values.specs.declared.error.ErrorKind.TheVariants as kinds
use Rattle.tm_meaning.specs.Memory.{is_wrapping}
use Rattle.tm_meaning.specs.World.{HostValue, View, Object, Fallback, Format, Function, callers, languages, find}
use Rattle.tm_meaning.specs.Calls.{method_object}
use Rattle.tm_meaning.specs.declared.reply.Reply.{Reply}
use Rattle.tm_meaning.specs.declared.reply.Reply.TheVariants.{Value as gives, Fault as faults, Further as asks_for}

-- the kinds that a render raises by itself
abbrev pub is_raised : ErrorKind → Bool
is_raised kinds.InvalidOperation = true
is_raised kinds.TooManyArguments = true
is_raised kinds.MissingArgument = true
is_raised kinds.UnknownFilter = true
is_raised kinds.UnknownTest = true
is_raised kinds.UnknownFunction = true
is_raised kinds.UnknownMethod = true
is_raised kinds.UnknownBlock = true
is_raised kinds.TemplateNotFound = true
is_raised kinds.UndefinedError = true
is_raised kinds.CannotUnpack = true
is_raised kinds.BadSerialization = true
is_raised kinds.OutOfFuel = true
is_raised _ = false

-- One of the caller's objects in the environment: a function by number, a filter or a test by name,
-- or the object for a method that a value lacks.
pub data IsObject (host : HostValue) (f : Object) : Type 0 where
  is_function : (n : ℕ) → slice_get host.functions n ≡ Some (callers f) → IsObject host f
  is_filter : (x : List ℕ) → find x host.filters ≡ Some f → IsObject host f
  is_test : (x : List ℕ) → find x host.tests ≡ Some f → IsObject host f
  is_method : (v : Val) (x : List ℕ) → method_object host.unknown_method v x ≡ Some f → IsObject host f

-- A chain arises in a render if it is a raised kind, a kind that wraps a chain that arises, or
-- stated by one of the caller's objects, its formatter, or its function that joins the names of
-- templates.
pub data Arises (host : HostValue) : List ErrorKind → Type 0 where
  raised : {kind : ErrorKind} → is_raised kind ≡ true → Arises host (kind ∷ [])
  wrapped : {kind : ErrorKind} {chain : List ErrorKind} → is_wrapping kind ≡ true → Arises host chain → Arises host (kind ∷ chain)
  by_object : {chain : List ErrorKind} (f : Object) (args : List Val) (view : View) →
      IsObject host f → (f args view).reply ≡ faults chain → Arises host chain
  by_formatter : {chain : List ErrorKind} (f : Format) (v : Val) (view : View) →
      host.formatter ≡ Some f → f v view ≡ Err chain → Arises host chain
  by_join : {chain : List ErrorKind} (name parent : List ℕ) → host.join name parent ≡ Err chain → Arises host chain

-- a property of a chain, unless the chain is empty
abbrev pub IfAny : (List ErrorKind → Type 0) → List ErrorKind → Type 0
IfAny Has [] = Unit {0}
IfAny Has (k ∷ ks) = Has (k ∷ ks)

-- The property holds for each kind that a render raises, and wrapping preserves it.
pub record HasRaised (Has : List ErrorKind → Type 0) : Type 0 where
  pub raised : (kind : ErrorKind) → is_raised kind ≡ true → Has (kind ∷ [])
  pub wrapped : (kind : ErrorKind) (chain : List ErrorKind) → is_wrapping kind ≡ true → Has chain → Has (kind ∷ chain)

-- if it is a fault, it has the property
abbrev pub AnswersOnly : {A : Type 0} → (List ErrorKind → Type 0) → Answer A → Type 0
AnswersOnly Has (Ok a) = Unit {0}
AnswersOnly Has (Err chain) = Has chain

abbrev pub RepliesOnly : (List ErrorKind → Type 0) → Reply → Type 0
RepliesOnly Has (gives v) = Unit {0}
RepliesOnly Has (faults chain) = Has chain
RepliesOnly Has (asks_for c) = Unit {0}

-- Whatever its arguments and whatever it sees, the faults of the object have the property.
abbrev pub ObjectStates : (List ErrorKind → Type 0) → Object → Type 0
ObjectStates Has f = (args : List Val) (view : View) → RepliesOnly Has (f args view).reply

-- Built-in functions have no condition.
abbrev pub FunctionStates : (List ErrorKind → Type 0) → Function → Type 0
FunctionStates Has (callers f) = ObjectStates Has f
FunctionStates Has (languages g) = Unit {0}

abbrev pub FallbackStates : (List ErrorKind → Type 0) → Option Fallback → Type 0
FallbackStates Has None = Unit {0}
FallbackStates Has (Some f) = (v : Val) (x : List ℕ) → ObjectStates Has (f v x)

abbrev pub FormatterStates : (List ErrorKind → Type 0) → Option Format → Type 0
FormatterStates Has None = Unit {0}
FormatterStates Has (Some f) = (v : Val) (view : View) → AnswersOnly Has (f v view)

abbrev pub JoinStates : (List ErrorKind → Type 0) → (List ℕ → List ℕ → Answer (List ℕ)) → Type 0
JoinStates Has join = (name parent : List ℕ) → AnswersOnly Has (join name parent)

-- The same for the object of a name.
abbrev pub NamedStates : (List ErrorKind → Type 0) → List ℕ × Object → Type 0
NamedStates Has named = ObjectStates Has named.1

-- The caller's functions, filters, tests, method object, formatter and function that joins names
-- state only faults with the property.
pub record StatesOnly (Has : List ErrorKind → Type 0) (host : HostValue) : Type 0 where
  pub functions : All (FunctionStates Has) host.functions
  pub filters : All (NamedStates Has) host.filters
  pub tests : All (NamedStates Has) host.tests
  pub unknown_method : FallbackStates Has host.unknown_method
  pub formatter : FormatterStates Has host.formatter
  pub join : JoinStates Has host.join

-- ---------------------------------------------------------------- out of memory
-- the last kind is OutOfMemory
abbrev pub ends_in_memory : List ErrorKind → Bool
ends_in_memory [] = false
ends_in_memory (k ∷ []) = is_memory k
ends_in_memory (k ∷ c ∷ cs) = ends_in_memory (c ∷ cs)

-- a kind that may wrap another fault
abbrev pub MayWrap : ErrorKind → Type 0
MayWrap kind = (kind ≡ kinds.EvalBlock) ⊎ (kind ≡ kinds.BadInclude) ⊎ (kind ≡ kinds.InvalidOperation)

-- Neither the caller's objects nor its formatter nor its function that joins names states a fault
-- that ends in OutOfMemory.
abbrev pub StatesNoMemory : HostValue → Type 0
StatesNoMemory host = StatesOnly (λ chain. ends_in_memory chain ≡ false) host

-- ---------------------------------------------------------------- foreign kinds
-- the kinds for sources, delimiters, writers and streams of instructions, which no render raises
abbrev pub is_foreign : ErrorKind → Bool
is_foreign kinds.SyntaxError = true
is_foreign kinds.InvalidDelimiter = true
is_foreign kinds.WriteFailure = true
is_foreign kinds.BadStream = true
is_foreign _ = false

abbrev pub HasNoForeign : List ErrorKind → Type 0
HasNoForeign chain = All (λ kind. is_foreign kind ≡ false) chain
