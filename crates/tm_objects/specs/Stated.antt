-- The answers of callables.
use Rattle.std.specs.Prelude.{◌≡◌, ◌+◌, ℕ, Bool, true, false, List, [], ◌∷◌, ◌++◌, length, map as each, Option, None, Some, option_map}
use Rattle.std.specs.Prelude.{Result, Ok, Err, String, string_bytes}
use Rattle.std.specs.declared.alloc.Global.{Global}
use Rattle.tm_meaning.specs.Memory.{is_want_of_memory}
use Rattle.tm_values.specs.Answer.{Answer}
use Rattle.tm_values.specs.Val.{Val}
use Rattle.tm_values.specs.declared.error.ErrorKind.{ErrorKind}
use Rattle.tm_values.specs.declared.escape.AutoEscape.{AutoEscape}
use Rattle.tm_meaning.specs.World.{View, Function, Object, Fallback, Format, callers, languages, Stated}
use Rattle.tm_syntax.specs.Named.{Named, put, without}
use Rattle.tm_meaning.specs.declared.reply.Reply.{Reply}
use Rattle.tm_meaning.specs.declared.reply.Reply.TheVariants.{Value as gives, Fault as faults, Further as asks_for}
use Rattle.tm_objects.specs.Language.{language}
use Rattle.tm_objects.specs.declared.callable.Called.{Called}
use Rattle.tm_objects.specs.declared.callable.Called.TheVariants as called

-- The reply is OutOfMemory.
abbrev pub is_for_memory : Reply → Bool
is_for_memory (gives v) = false
is_for_memory (faults chain) = is_want_of_memory chain
is_for_memory (asks_for c) = false

-- The answer is the stated one, unless it is OutOfMemory.
abbrev pub IsStated : Stated → Stated → Type 0
IsStated answer stated = is_for_memory answer.reply ≡ false → answer ≡ stated

-- A formatter's answer is the stated one, unless it is OutOfMemory.
abbrev pub IsFormatted : Result (String Global) (List ErrorKind) → Answer (List ℕ) → Type 0
IsFormatted (Ok text) stated = stated ≡ Ok (string_bytes text)
IsFormatted (Err chain) stated = is_want_of_memory chain ≡ false → stated ≡ Err chain

-- A name joined with that of the running template: the name of the template that is meant.
abbrev pub Join : Type 0
Join = List ℕ → List ℕ → Answer (List ℕ)

-- each name means the template of that name
abbrev pub as_written : Join
as_written name parent = Ok name

-- the join of this object, if there is one; otherwise each name as it is written
abbrev pub join_of : {J : Type 0} → (J → Join) → Option J → Join
join_of joins None = as_written
join_of joins (Some j) = joins j

-- This function was called: an object of the caller gave its stated answer, or a function of the
-- language is to run.
abbrev pub IsCalled : Called → Function → List Val → View → Type 0
IsCalled (called.Answered answer) (callers f) args view = IsStated answer (f args view)
IsCalled (called.Answered answer) (languages g) args view = ⊥
IsCalled (called.Language g) (callers f) args view = ⊥
IsCalled (called.Language g) (languages h) args view = g ≡ h

-- an answer that keeps nothing
abbrev pub just : Reply → Stated
just reply = record { temps = []; reply = reply }

-- an answer that keeps one more value
abbrev pub keeping : List ℕ → Val → Stated → Stated
keeping x v stated = record stated { temps = stated.temps ++ (x, v) ∷ [] }

-- The functions by number: the language's first, if the table has them, and then the caller's. The
-- filters and tests by name, the method object and the formatter, if set, the rule that chooses
-- escapes, and the object that joins names, if set.
pub record Table (C M F R J : Type 0) : Type 0 where
  pub language : Bool
  pub objects : List C
  pub filters : Named C
  pub tests : Named C
  pub fallback : Option M
  pub formatter : Option F
  pub escaping : R
  pub joining : Option J

abbrev pub no_objects : {C M F R J : Type 0} → Bool → R → Table C M F R J
no_objects language escaping =
    record { language = language; objects = []; filters = []; tests = []; fallback = None; formatter = None; escaping = escaping; joining = None }

abbrev pub no_functions : {C M F R J : Type 0} → R → Table C M F R J
no_functions escaping = no_objects false escaping

abbrev pub language_functions : {C M F R J : Type 0} → R → Table C M F R J
language_functions escaping = no_objects true escaping

-- one more function, after all others
abbrev pub with_object : {C M F R J : Type 0} → C → Table C M F R J → Table C M F R J
with_object object t = record t { objects = t.objects ++ object ∷ [] }

abbrev pub language_count : Bool → ℕ
language_count false = 0
language_count true = length language

-- a filter or a test set under a name, or removed
abbrev pub with_filter : {C M F R J : Type 0} → List ℕ → C → Table C M F R J → Table C M F R J
with_filter x object t = record t { filters = put x object t.filters }

abbrev pub without_filter : {C M F R J : Type 0} → List ℕ → Table C M F R J → Table C M F R J
without_filter x t = record t { filters = without x t.filters }

abbrev pub with_test : {C M F R J : Type 0} → List ℕ → C → Table C M F R J → Table C M F R J
with_test x object t = record t { tests = put x object t.tests }

abbrev pub without_test : {C M F R J : Type 0} → List ℕ → Table C M F R J → Table C M F R J
without_test x t = record t { tests = without x t.tests }

-- the method object set, or the formatter
abbrev pub with_fallback : {C M F R J : Type 0} → M → Table C M F R J → Table C M F R J
with_fallback fallback t = record t { fallback = Some fallback }

abbrev pub with_formatter : {C M F R J : Type 0} → F → Table C M F R J → Table C M F R J
with_formatter formatter t = record t { formatter = Some formatter }

-- the rule that chooses escapes set
abbrev pub with_escaping : {C M F R J : Type 0} → R → Table C M F R J → Table C M F R J
with_escaping escaping t = record t { escaping = escaping }

-- the object that joins names set
abbrev pub with_joining : {C M F R J : Type 0} → J → Table C M F R J → Table C M F R J
with_joining joining t = record t { joining = Some joining }

-- the number of the next function that is added
abbrev pub next_number : {C M F R J : Type 0} → Table C M F R J → ℕ
next_number t = language_count t.language + length t.objects

-- the machine's view of callables, from their answers
abbrev pub callables : {C : Type 0} → (C → Object) → List C → List Function
callables answers cs = each (λ c. callers (answers c)) cs

abbrev pub after_language : Bool → List Function → List Function
after_language false fs = fs
after_language true fs = each (λ f. languages f.1) language ++ fs

abbrev pub functions_of : {C M F R J : Type 0} → (C → Object) → Table C M F R J → List Function
functions_of answers t = after_language t.language (callables answers t.objects)

-- the same for callables by name
abbrev pub named_objects : {C : Type 0} → (C → Object) → Named C → Named Object
named_objects {C = C} answers cs = each (λ (c : List ℕ × C). (c.0, answers c.1)) cs

-- All that the machine sees of an environment's objects.
pub record StatedObjects : Type 0 where
  pub functions : List Function
  pub filters : Named Object
  pub tests : Named Object
  pub unknown_method : Option Fallback
  pub formatter : Option Format
  pub escapes : List ℕ → AutoEscape
  pub join : Join

abbrev pub stated_of :
    {C M F R J : Type 0} → (C → Object) → (M → Fallback) → (F → Format) → (R → List ℕ → AutoEscape) → (J → Join) → Table C M F R J →
    StatedObjects
stated_of answers falls formats rules joins t = record {
  functions = functions_of answers t;
  filters = named_objects answers t.filters;
  tests = named_objects answers t.tests;
  unknown_method = option_map falls t.fallback;
  formatter = option_map formats t.formatter;
  escapes = rules t.escaping;
  join = join_of joins t.joining;
}

-- the language's functions, these escapes, names as they are written, and no object of the caller
abbrev pub language_alone : (List ℕ → AutoEscape) → StatedObjects
language_alone escapes = record {
  functions = after_language true [];
  filters = [];
  tests = [];
  unknown_method = None;
  formatter = None;
  escapes = escapes;
  join = as_written;
}

-- An object gave its stated answer, or there is no object and no answer.
abbrev pub IsNamedAnswer : Option Stated → Option Object → List Val → View → Type 0
IsNamedAnswer None found args view = found ≡ None
IsNamedAnswer (Some answer) found args view = (f : Object) × (found ≡ Some f) × IsStated answer (f args view)

-- The formatter gave its stated answer, or there is no formatter and no answer.
abbrev pub IsFormatterAnswer : Option (Result (String Global) (List ErrorKind)) → Option Format → Val → View → Type 0
IsFormatterAnswer None found v view = found ≡ None
IsFormatterAnswer (Some answer) found v view = (f : Format) × (found ≡ Some f) × IsFormatted answer (f v view)
