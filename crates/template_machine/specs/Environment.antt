-- Environments and templates as plain data, with the caller's objects as one value.
use Rattle.std.specs.Prelude.{◌≡◌, ℕ, max, List, [], map as each, Ok, Err, Option, Some, None, codes}
use Rattle.tm_values.specs.Answer.{Answer, refused}
use Rattle.tm_values.specs.declared.error.ErrorKind.TheVariants.{TemplateNotFound}
use Rattle.tm_values.specs.Val.{Val, function}
use Rattle.tm_values.specs.declared.undefined.UndefinedBehavior.{UndefinedBehavior}
use Rattle.tm_values.specs.declared.undefined.UndefinedBehavior.TheVariants.{Lenient}
use Rattle.tm_trees.specs.Instructions.{Instruction}
use Rattle.tm_syntax.specs.Named.{Named, find, put}
use Rattle.std.specs.List.{AllByRecursion}
use Rattle.tm_delimiters.specs.Syntax.{Syntax, default_syntax}
use Rattle.tm_meaning.specs.declared.stream.StreamId.{StreamId}
use Rattle.tm_meaning.specs.declared.stream.TemplateId.{TemplateId}
use Rattle.tm_meaning.specs.declared.stream.TemplateId.TheVariants.{Own, Entry}
use Rattle.tm_meaning.specs.World.{Bindings, HostValue, Template, World, name_of, or_is}
use Rattle.tm_meaning.specs.Tree.{TemplateTree, Trees, trees_of}
use Rattle.tm_objects.specs.Language.{language_globals}
use Rattle.tm_objects.specs.Stated.{Table, StatedObjects, language_functions, with_object, next_number}
use Rattle.tm_templates.specs.Templates.{Compiled, IsExpression, IsOfTree, IsTemplate, empty_template, part_code, told_of, tree_of}
use Rattle.tm_templates.specs.declared.defaults.EscapeSetting.{EscapeSetting}
use Rattle.tm_templates.specs.declared.defaults.EscapeSetting.TheVariants as escapes

-- The templates by name, the delimiters for later ones, the caller's objects, the globals, how
-- undefined values behave, the fuel that is set, and the greatest depth of scopes.
pub record EnvironmentValue (O : Type 0) : Type 0 where
  pub templates : Named Compiled
  pub syntax : Syntax
  pub objects : O
  pub globals : Bindings
  pub undefined : UndefinedBehavior
  pub fuel : Option ℕ
  pub limit : ℕ
  pub value_limit : ℕ

-- A template, its environment, and its id there: the entry of a name, or `Own` if it is no entry.
pub record TemplateValue (O : Type 0) : Type 0 where
  pub environment : EnvironmentValue O
  pub id : TemplateId
  pub template : Compiled

-- the greatest depth of scopes that can be set
abbrev pub greatest_limit : ℕ
greatest_limit = 500

-- the value limit of a new environment
abbrev pub first_value_limit : ℕ
first_value_limit = 67108864

-- the size of the largest value that a render may make
abbrev pub largest_value : {O : Type 0} → TemplateValue O → ℕ
largest_value t = max t.environment.value_limit 1

abbrev pub empty_environment : {O : Type 0} → O → EnvironmentValue O
empty_environment objects = record {
  templates = [];
  syntax = default_syntax;
  objects = objects;
  globals = [];
  undefined = Lenient;
  fuel = None;
  limit = greatest_limit;
  value_limit = first_value_limit;
}

-- an environment with the names of the language's functions
abbrev pub expected_environment : {O : Type 0} → O → EnvironmentValue O
expected_environment objects = record (empty_environment objects) { globals = language_globals }

-- and with the usual settings: the escape depends on the template's name
abbrev pub new_environment : {C M F R J : Type 0} → EnvironmentValue (Table C M F (EscapeSetting R) J)
new_environment = expected_environment (language_functions escapes.ByName)

-- the template that a source spells in an environment, under a name
abbrev pub IsTemplateOf : {O : Type 0} → (O → StatedObjects) → EnvironmentValue O → List ℕ → List ℕ → Compiled → Type 0
IsTemplateOf stated e name source t = IsTemplate e.syntax ((stated e.objects).escapes name) name source t

-- The template is the environment's entry of this name.
abbrev pub IsEntryOf : {O : Type 0} → EnvironmentValue O → List ℕ → TemplateValue O → Type 0
IsEntryOf e name t = (t.environment ≡ e) × (t.id ≡ Entry name) × (find name e.templates ≡ Some t.template)

-- The template is what a source spells in the environment under this name, and no entry of it.
abbrev pub IsMadeIn : {O : Type 0} → (O → StatedObjects) → EnvironmentValue O → List ℕ → List ℕ → TemplateValue O → Type 0
IsMadeIn stated e name source t = (t.environment ≡ e) × (t.id ≡ Own) × IsTemplateOf stated e name source t.template

-- the rendering without a template: one without statements, under a name that no template has by
-- default
abbrev pub unknown_template : {O : Type 0} → EnvironmentValue O → TemplateValue O
unknown_template e = record { environment = e; id = Own; template = empty_template (codes "<unknown>") }

-- a compiled template as the environment's entry of its name
abbrev pub named_entry : {O : Type 0} → EnvironmentValue O → List ℕ × Compiled → List ℕ × TemplateValue O
named_entry e t = (t.0, record { environment = e; id = Entry t.0; template = t.1 })

-- the templates by name, each as the environment's entry
abbrev pub entries_of : {O : Type 0} → EnvironmentValue O → Named (TemplateValue O)
entries_of e = each (named_entry e) e.templates

-- the value as the global of this name
abbrev pub with_global : {O : Type 0} → List ℕ → Val → EnvironmentValue O → EnvironmentValue O
with_global x value e = record e { globals = put x value e.globals }

-- the object under the next number, and the function of that number as the global of this name
abbrev pub with_function : {C M F R J : Type 0} → List ℕ → C → EnvironmentValue (Table C M F R J) → EnvironmentValue (Table C M F R J)
with_function x object e =
    record e { objects = with_object object e.objects; globals = put x (function (next_number e.objects)) e.globals }

-- the same environment with other objects
abbrev pub with_objects : {O : Type 0} → O → EnvironmentValue O → EnvironmentValue O
with_objects objects e = record e { objects = objects }

-- ---------------------------------------------------------------- what it is to the machine
abbrev pub templates_in : Named Compiled → Named Template
templates_in ts = each (λ (t : List ℕ × Compiled). (t.0, told_of t.1)) ts

-- The template's host, made of its environment and of what the caller's objects state.
abbrev pub host_of : {O : Type 0} → (O → StatedObjects) → TemplateValue O → HostValue
host_of stated t = record {
  own = told_of t.template;
  templates = templates_in t.environment.templates;
  globals = t.environment.globals;
  functions = (stated t.environment.objects).functions;
  filters = (stated t.environment.objects).filters;
  tests = (stated t.environment.objects).tests;
  join = (stated t.environment.objects).join;
  formatter = (stated t.environment.objects).formatter;
  unknown_method = (stated t.environment.objects).unknown_method;
  undefined = t.environment.undefined;
  limit = t.environment.limit;
}

-- the environment's template of this name, from the lookup's result; TemplateNotFound if there is
-- none
abbrev pub entry_at : {O : Type 0} → EnvironmentValue O → List ℕ → Option Compiled → Answer (TemplateValue O)
entry_at e x None = refused TemplateNotFound
entry_at e x (Some t) = Ok (record { environment = e; id = Entry x; template = t })

-- the environment's template of a joined name; the fault of the join
abbrev pub joined_entry : {O : Type 0} → EnvironmentValue O → Answer (List ℕ) → Answer (TemplateValue O)
joined_entry e (Ok x) = entry_at e x (find x e.templates)
joined_entry e (Err chain) = Err chain

-- The template that a name means in a state: the environment's of this name joined with the running
-- template's name.
abbrev pub named_template : {O : Type 0} → (O → StatedObjects) → TemplateValue O → List ℕ → World → Answer (TemplateValue O)
named_template stated t x w =
    joined_entry t.environment ((stated t.environment.objects).join x (name_of (host_of stated t) w))

-- the template that an id means: the rendered one, or the environment's entry, and the rendered one
-- if there is no such entry
abbrev pub meant : {O : Type 0} → TemplateValue O → TemplateId → Compiled
meant t Own = t.template
meant t (Entry x) = or_is (find x t.environment.templates) t.template

-- the instructions of a stream
abbrev pub code : {O : Type 0} → TemplateValue O → StreamId → List Instruction
code t s = part_code (meant t s.template) s.block

-- ---------------------------------------------------------------- trees
-- Each of the templates has a tree.
abbrev pub AreOfTrees : Named Compiled → Type 0
AreOfTrees ts = AllByRecursion (λ (t : List ℕ × Compiled). IsOfTree t.1) ts

-- A template and all of its environment have trees, so that what it runs means what the trees mean.
pub record IsOfTrees {O : Type 0} (t : TemplateValue O) : Type 0 where
  pub own : IsOfTree t.template
  pub others : AreOfTrees t.environment.templates

abbrev pub trees_in : Named Compiled → Named TemplateTree
trees_in ts = each (λ (t : List ℕ × Compiled). (t.0, tree_of t.1)) ts

abbrev pub trees : {O : Type 0} → TemplateValue O → Trees
trees t = trees_of (tree_of t.template) (trees_in t.environment.templates)

-- The expression is what a source spells, in this environment.
abbrev pub IsExpressionIn : {O : Type 0} → EnvironmentValue O → List ℕ → TemplateValue O → Type 0
IsExpressionIn e source x = (x.environment ≡ e) × (x.id ≡ Own) × IsExpression source x.template
