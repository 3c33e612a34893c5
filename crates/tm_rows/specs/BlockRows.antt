-- Streams that load a parent, and how their runs end.
use Rattle.std.specs.Prelude.{ℕ, List, [], ◌∷◌, Option, Some, true, false, codes, pos}
use Rattle.tm_values.specs.Val.{number, text}
use Rattle.tm_trees.specs.Instructions.{Instruction}
use Rattle.tm_trees.specs.Instructions.instructions as i
use Rattle.tm_trees.specs.Trees.{no_statement}
use Rattle.tm_meaning.specs.Tree.{body_of}
use Rattle.tm_meaning.specs.declared.stream.TemplateId.{TemplateId}
use Rattle.tm_meaning.specs.declared.stream.TemplateId.TheVariants.{Own as own, Entry as entry}
use Rattle.tm_meaning.specs.World.{Bindings, World, own_closure}
use Rattle.tm_meaning.specs.Calls.{whole}
use Rattle.tm_meaning.specs.Machine.{Program, base_of}
use Rattle.tm_meaning.specs.Steps.{Final, begins, run_for}
use Rattle.tm_rows.specs.Rows.{Page, Said, said_by, left_by, host_of, world_of, empty}
use Rattle.tm_rows.specs.BlockTrees.{template}
use Rattle.tm_rows.specs.FilterRows.{upper}

-- A page without a tree. Its environment has a template p without a tree, and the filter `upper`
-- under two names.
abbrev pub with_parent : Page
with_parent = record empty {
  templates = template (codes "p") (body_of no_statement) ∷ [];
  filters = (codes "other", upper) ∷ (codes "upper", upper) ∷ [];
}

-- the code of the page's own streams, and that of other templates
abbrev pub code_of_template : List Instruction → List Instruction → TemplateId → List Instruction
code_of_template code parent own = code
code_of_template code parent (entry x) = parent

-- the end of a run of this code, where p has the other code
abbrev pub ended_before : List Instruction → List Instruction → Option Final
ended_before code parent =
    let p : Program = record { host = host_of with_parent; code = λ s. code_of_template code parent s.template } in
    let w = world_of with_parent (Some 1000) in
    let f = base_of true [] w in
    run_for 100 p f [] (begins p f (whole w.stream) [] w)

abbrev pub run_before : List Instruction → List Instruction → Said
run_before code parent = said_by (ended_before code parent)

-- the world after it, its closures, and the closure of the innermost scope
abbrev pub left_before : List Instruction → List Instruction → World
left_before code parent = left_by (ended_before code parent) (world_of with_parent (Some 1000))

abbrev pub closures_before : List Instruction → List Instruction → List Bindings
closures_before code parent = (left_before code parent).closures

abbrev pub own_before : List Instruction → List Instruction → Option ℕ
own_before code parent = own_closure (left_before code parent).scopes.frames

abbrev pub name_of_p : Instruction
name_of_p = i.LoadConst (text (codes "p") false)

-- loads p as the parent, and then runs this
abbrev pub extending : List Instruction → List Instruction
extending after = name_of_p ∷ i.LoadBlocks ∷ after

-- applies a filter to "a", by its cache number
abbrev pub capital : List ℕ → Instruction → List Instruction → List Instruction
capital name last after = i.LoadConst (text (codes "a") false) ∷ i.ApplyFilter name (Some 1) 0 ∷ last ∷ after

-- binds j to a number
abbrev pub stores_j : ℕ → List Instruction → List Instruction
stores_j n after = i.LoadConst (number (pos n)) ∷ i.StoreLocal (codes "j") ∷ after

-- binds j to 1, adds it to the closure of the scope, and runs p there as an import does
abbrev pub imports_under_closure : List Instruction → List Instruction
imports_under_closure after = stores_j 1 (i.Enclose (codes "j") ∷ name_of_p ∷ i.IncludeModule ∷ after)

-- negates a text
abbrev pub negated_text : List Instruction → List Instruction
negated_text after = i.LoadConst (text (codes "x") false) ∷ i.Neg ∷ after

abbrev pub one_left : List Instruction → List Instruction
one_left after = i.LoadConst (number (pos 1)) ∷ after
