-- The context of a template, the meaning of a render, and how the program ends.
use Rattle.std.specs.Prelude.{◌≡◌, ◌⊎◌, ℕ, List, [], ◌∷◌, ◌++◌, map as each, min, Option, None, Some, Bool, true, false, string_bytes}
use Rattle.std.specs.Borrow.{Bor}
use Rattle.std.specs.List.{Any}
use Rattle.std.specs.declared.alloc.Global.{Global}
use Rattle.std.specs.declared.string.String.{String}
use Rattle.std.specs.Io.KnownBytes.{Keeps, Appends}
use Rattle.std.specs.Str.{IsUtf8}
use Rattle.tm_values.specs.Val.{Val, text, map, pairs_of}
use Rattle.tm_meaning.specs.Memory.{is_want_of_memory}
use Rattle.tm_values.specs.Map.{put_all}
use Rattle.tm_values.specs.declared.error.ErrorKind.{ErrorKind}
use Rattle.tm_values.specs.declared.error.ErrorKind.TheVariants.{SyntaxError, WriteFailure}
use Rattle.tm_values.specs.declared.escape.AutoEscape.{AutoEscape}
use Rattle.tm_delimiters.specs.Syntax.{Syntax, default_syntax}
use Rattle.tm_syntax.specs.Named.{Named, find, put}
use Rattle.tm_compiler.specs.Spells.{SpellsNone}
use Rattle.tm_meaning.specs.Meaning.{Outcome}
use Rattle.tm_meaning.specs.Runs.{chain_of}
use Rattle.tm_output.specs.Counts.{Tally, saturating_increment, AppendsBeginning}
use Rattle.tm_templates.specs.Defaults.{escape_by_name}
use Rattle.tm_templates.specs.Templates.{Compiled, IsTemplate}
use Rattle.tm_meaning.specs.declared.stream.TemplateId.TheVariants.{Entry}
use Rattle.template_machine.specs.Environment.{IsOfTrees, TemplateValue, expected_environment, greatest_limit}
use Rattle.tm_tables.specs.Stated.{StatedObjects, language_alone}
use Rattle.template_machine.specs.Renders.{meaning}
use Rattle.mj_words.specs.CommandLine.{Text, ArgumentsValue, asked, asked_of, is_input}
use Rattle.mj_words.specs.declared.arguments.Arguments.{Arguments}
use Rattle.mj_json.specs.Json.{members_read}

-- a name and a text as a key and a value
abbrev pub pair_of : Text × Text → Val × Val
pair_of t = (text t.0 false, text t.1 false)

-- the context: the members of a JSON object, and then these names and texts; of equal names, the
-- last one counts
abbrev pub context_of : List (Val × Val) → List (Text × Text) → Val
context_of members ts = map (pairs_of (put_all (members ++ each pair_of ts)))

-- the input of a render: the parsed command line, the members of the JSON object, and the files
-- with their sources, in order
pub record Input : Type 0 where
  pub asked : ArgumentsValue
  pub members : List (Val × Val)
  pub sources : List (Text × Text)

abbrev pub input_of : Arguments → List (Val × Val) → List (Text × Text) → Input
input_of arguments members sources = record { asked = asked_of arguments; members = members; sources = sources }

-- a file and its source as plain data
abbrev pub named : Bor Text × String Global → Text × Text
named p = (p.0.now, string_bytes p.1)

-- the recursion limit of the command line, if it is set
abbrev pub limit_of : Option ℕ → ℕ
limit_of None = greatest_limit
limit_of (Some n) = min n greatest_limit

-- what the program states about objects: the built-in functions, and escapes by name
abbrev pub own_objects : StatedObjects
own_objects = language_alone escape_by_name

-- Compiling the sources, with this syntax and the escapes of their names, and adding them in order
-- turns the first templates into the second.
abbrev pub AreAdded : Syntax → (Text → AutoEscape) → List (Text × Text) → Named Compiled → Named Compiled → Type 0
AreAdded syntax escapes [] before after = before ≡ after
AreAdded syntax escapes (s ∷ more) before after = (t : Compiled) × IsTemplate syntax (escapes s.0) s.0 s.1 t
    × AreAdded syntax escapes more (put s.0 t before) after

-- A source isn't a valid template.
abbrev pub SpellNone : Syntax → List (Text × Text) → Type 0
SpellNone syntax sources = Any (λ (s : Text × Text). SpellsNone syntax s.1) sources

-- The file is the first of these.
abbrev pub BeginWith : Text → List (Text × Text) → Type 0
BeginWith file [] = ⊥
BeginWith file (s ∷ more) = s.0 ≡ file

-- a template with the name of the first file, in a new environment with these templates, the
-- built-in functions, and the fuel and the limit of the command line
abbrev pub template_in : ArgumentsValue → Named Compiled → Compiled → TemplateValue StatedObjects
template_in a templates t = record {
  environment = record (expected_environment own_objects)
      { templates = templates; fuel = a.fuel; limit = limit_of a.limit };
  id = Entry a.file;
  template = t;
}

-- the meaning of its render in the first state: over the context, with the fuel of the command line
abbrev pub meaning_of : Input → Named Compiled → Compiled → Outcome
meaning_of input templates t = meaning (λ stated. stated) (template_in input.asked templates t) 0
    (context_of input.members input.asked.texts)

-- The input means this outcome: all sources are templates under the names of their files, which
-- select their escapes, and the one with the name of the first file is rendered.
abbrev pub Means : Input → Outcome → Type 0
Means input outcome = (templates : Named Compiled) × (t : Compiled)
    × AreAdded default_syntax escape_by_name input.sources [] templates
    × (find input.asked.file templates ≡ Some t)
    × (outcome ≡ meaning_of input templates t)

-- A template made from trees, rendered over a context in the first state, means what the input
-- means.
abbrev pub IsMeant : {P : Type 0} → (P → StatedObjects) → TemplateValue P → Val → Input → Type 0
IsMeant stated t context input = IsOfTrees t × Means input (meaning stated t 0 context)

-- What can be read from a file later can be read from it before.
abbrev pub FilesStay : {T : Type 0} → (T → Text → Option Text → Type 0) → T → T → Type 0
FilesStay of_file old new = (file : Text) → (read : Option Text) → of_file new file read → of_file old file read

-- The same for standard input.
abbrev pub InputStays : {T : Type 0} → (T → Option Text → Type 0) → T → T → Type 0
InputStays of_input old new = (read : Option Text) → of_input new read → of_input old read

abbrev pub either : Bool → Type 0 → Type 0 → Type 0
either true A B = A
either false A B = B

-- the result of reading a file, or standard input if it is `-`: bytes, or None
abbrev pub IsRead : {T : Type 0} → (T → Text → Option Text → Type 0) → (T → Option Text → Type 0) → T → Text → Option Text → Type 0
IsRead of_file of_input texts file read = either (is_input file) (of_input texts read) (of_file texts file read)

-- The sources are the contents of the files.
abbrev pub AreRead : {T : Type 0} → (T → Text → Option Text → Type 0) → (T → Option Text → Type 0) → T → List Text → List (Text × Text) → Type 0
AreRead of_file of_input texts [] sources = sources ≡ []
AreRead of_file of_input texts (file ∷ files) [] = ⊥
AreRead of_file of_input texts (file ∷ files) (s ∷ more) =
    (s.0 ≡ file) × IsRead of_file of_input texts file (Some s.1) × AreRead of_file of_input texts files more

-- The members are those of the object in the JSON file; without a JSON file there are none.
abbrev pub IsMembers : {T : Type 0} → (T → Text → Option Text → Type 0) → T → Option Text → List (Val × Val) → Type 0
IsMembers of_file texts None members = members ≡ []
IsMembers of_file texts (Some file) members = (bytes : Text) × of_file texts file (Some bytes) × IsUtf8 bytes
    × (members_read bytes ≡ Some members)

-- the files of the command line, in order
abbrev pub files_asked : ArgumentsValue → List Text
files_asked a = a.file ∷ a.others

-- The command line is parsed to this, the sources are the contents of its files, and the members
-- are those of its JSON file.
abbrev pub IsInput : {T : Type 0} → (T → Text → Option Text → Type 0) → (T → Option Text → Type 0) → T → List Text → Input → Type 0
IsInput of_file of_input texts words input =
    (asked [] None None None words ≡ Some input.asked)
    × AreRead of_file of_input texts (files_asked input.asked) input.sources
    × IsMembers of_file texts input.asked.json input.members

-- The file can't be read, or isn't a text.
abbrev pub IsUnread : {T : Type 0} → (T → Text → Option Text → Type 0) → (T → Option Text → Type 0) → T → Text → Type 0
IsUnread {T = T} of_file of_input texts file =
    IsRead of_file of_input texts file None ⊎ ((bytes : Text) × IsRead of_file of_input texts file (Some bytes) × (IsUtf8 bytes → ⊥))

-- One of these files is such a file.
abbrev pub HaveUnread : {T : Type 0} → (T → Text → Option Text → Type 0) → (T → Option Text → Type 0) → T → List Text → Type 0
HaveUnread of_file of_input texts files = Any (IsUnread of_file of_input texts) files

-- The JSON file can't be read, or isn't an object without floats.
abbrev pub IsNoObject : {T : Type 0} → (T → Text → Option Text → Type 0) → T → Option Text → Type 0
IsNoObject of_file texts None = ⊥
IsNoObject of_file texts (Some file) = of_file texts file None ⊎ ((bytes : Text) × of_file texts file (Some bytes)
    × (IsUtf8 bytes → members_read bytes ≡ None))

-- The files can't be used: a template's file isn't a text; or all are texts, and the JSON file
-- isn't an object.
abbrev pub IsUseless : {T : Type 0} → (T → Text → Option Text → Type 0) → (T → Option Text → Type 0) → T → ArgumentsValue → Type 0
IsUseless of_file of_input texts a =
    HaveUnread of_file of_input texts (files_asked a)
    ⊎ ((sources : List (Text × Text)) × AreRead of_file of_input texts (files_asked a) sources × IsNoObject of_file texts a.json)

-- The command line is invalid, or its files can't be used.
abbrev pub IsWrongUse : {T : Type 0} → (T → Text → Option Text → Type 0) → (T → Option Text → Type 0) → T → List Text → Type 0
IsWrongUse of_file of_input texts words =
    (asked [] None None None words ≡ None) ⊎ ((a : ArgumentsValue) × (asked [] None None None words ≡ Some a)
    × IsUseless of_file of_input texts a)

-- The input means a render without a fault, and the writer got its text without a failure.
abbrev pub IsRendered : {W : Type 0} → (W → Option Text) → Input → Tally W → Tally W → Type 0
IsRendered contents input old new =
    (outcome : Outcome) × Means input outcome × (chain_of outcome ≡ [])
    × Appends (contents old.writer) (contents new.writer) outcome.text × (new.failures ≡ old.failures)

-- The writer got a beginning of the text that the input means.
abbrev pub IsBegun : Input → Option Text → Option Text → Type 0
IsBegun input old new = (outcome : Outcome) × Means input outcome × AppendsBeginning old new outcome.text

-- A render ends with this error, and the writer has what that error leaves. Its count of failures
-- rose only if a write failed.
pub data IsFault {W : Type 0} (contents : W → Option Text) (input : Input) (chain : List ErrorKind) (old new : Tally W) : Type 0 where
  -- memory ran out: nothing was written, or a beginning of the text
  no_memory : is_want_of_memory chain ≡ true → new.failures ≡ old.failures →
      Keeps (contents old.writer) (contents new.writer) ⊎ IsBegun input (contents old.writer) (contents new.writer) →
      IsFault contents input chain old new
  -- a write failed, after a beginning of the text
  write_failed : chain ≡ WriteFailure ∷ [] → new.failures ≡ saturating_increment old.failures →
      IsBegun input (contents old.writer) (contents new.writer) →
      IsFault contents input chain old new
  -- the flush failed, after the whole text
  flush_failed : chain ≡ WriteFailure ∷ [] → IsRendered contents input old new → IsFault contents input chain old new
  -- a source isn't a valid template
  no_tree : chain ≡ SyntaxError ∷ [] → new.failures ≡ old.failures → Keeps (contents old.writer) (contents new.writer) →
      SpellNone default_syntax input.sources →
      IsFault contents input chain old new
  -- the fault is that of the meaning, after all text that was heard before it
  meant : (outcome : Outcome) → Means input outcome → chain_of outcome ≡ chain → new.failures ≡ old.failures →
      Appends (contents old.writer) (contents new.writer) outcome.text → IsFault contents input chain old new
