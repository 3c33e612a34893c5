-- Templates as plain data.
use Rattle.std.specs.List.Sorted.{IsStrictlySortedBy}
use Rattle.std.specs.BTreeMap.{is_at}
use Rattle.std.specs.Map.{keys_of, set_value}
use Rattle.std.specs.Prelude.{◌≡◌, ℕ, List, [], ◌∷◌, Option, None, Some, ◌<◌, map as each, length, slice_index_or, codes, Bool, false}
use Rattle.std.specs.Borrow.{Bor}
use Rattle.std.specs.List.{All, AllByRecursion}
use Rattle.tm_values.specs.declared.error.ErrorKind.{ErrorKind}
use Rattle.tm_values.specs.declared.escape.AutoEscape.{AutoEscape}
use Rattle.tm_values.specs.declared.escape.AutoEscape.TheVariants as escapes
use Rattle.tm_trees.specs.Trees.{Tree}
use Rattle.tm_trees.specs.Trees.tree_forms as trees
use Rattle.tm_trees.specs.Instructions.{Instruction}
use Rattle.tm_syntax.specs.Blocks.{StreamTree, stream_of, stream_blocks, code_of}
use Rattle.tm_syntax.specs.Names.{undeclared_in}
use Rattle.tm_shapes.specs.BlockCodes.{compiled_blocks}
use Rattle.tm_shapes.specs.Verified.{IsAccepted}
use Rattle.tm_shapes.specs.declared.code.BlockCode.{BlockCode}
use Rattle.tm_syntax.specs.Named.{Named, by_name, find, name_cmp}
use Rattle.tm_delimiters.specs.Syntax.{Syntax}
use Rattle.tm_values.specs.Answer.{Refused}
use Rattle.tm_compiler.specs.Spells.{Spells, SpellsExpr, SpellsNoExpr, SpellsNone}
use Rattle.tm_meaning.specs.Tree.{TemplateTree, card}
use Rattle.tm_scopes.specs.Places.{AreOrdered}
use Rattle.tm_meaning.specs.World.{Card, Template}

-- A template or an expression: its name, its source, its escape, the tree that the source spells,
-- if it has one, and what it runs: its own stream and those of its blocks, by name.
pub record Compiled : Type 0 where
  pub name : List ℕ
  pub source : List ℕ
  pub escape : AutoEscape
  pub tree : Option Tree
  pub root : List Instruction
  pub blocks : Named BlockCode

-- the code of a tree's blocks, by name
abbrev pub block_codes : Tree → Named BlockCode
block_codes tree = by_name (compiled_blocks (stream_blocks (stream_of tree)))

-- the template of a tree
abbrev pub of_tree : List ℕ → List ℕ → AutoEscape → Tree → Compiled
of_tree name source escape tree = record {
  name = name;
  source = source;
  escape = escape;
  tree = Some tree;
  root = code_of (stream_of tree);
  blocks = block_codes tree;
}

-- the template of this name without statements and source, and with no escape
abbrev pub empty_template : List ℕ → Compiled
empty_template name = of_tree name [] escapes.None (trees.Statements [])

-- a named stream as a block that isn't required
abbrev pub given_block : Bor (List ℕ) × List Instruction → List ℕ × BlockCode
given_block b = (b.0.now, record { required = false; code = b.1 })

abbrev pub given_blocks : List (Bor (List ℕ) × List Instruction) → Named BlockCode
given_blocks bs = each given_block bs

-- a template made of streams, without a source and a tree
abbrev pub of_streams : List ℕ → List Instruction → List (Bor (List ℕ) × List Instruction) → AutoEscape → Compiled
of_streams name root blocks escape = record {
  name = name;
  source = [];
  escape = escape;
  tree = None;
  root = root;
  blocks = by_name (given_blocks blocks);
}

-- The template is a tree's.
abbrev pub IsOfTree : Compiled → Type 0
IsOfTree t = (tree : Tree) × (t ≡ of_tree t.name t.source t.escape tree)

-- the names that a tree reads with no earlier assignment in an open scope; none without a tree
abbrev pub undeclared_by : Bool → Option Tree → List (List ℕ)
undeclared_by nested None = []
undeclared_by nested (Some tree) = undeclared_in nested tree

-- ---------------------------------------------------------------- to the machine
abbrev pub carded : List ℕ × BlockCode → List ℕ × Card
carded b = (b.0, record { required = b.1.required })

-- what the machine knows about a template
abbrev pub told_of : Compiled → Template
told_of t = record { name = t.name; escape = t.escape; root = card; blocks = each carded t.blocks }

abbrev pub code_or_none : Option BlockCode → List Instruction
code_or_none None = []
code_or_none (Some b) = b.code

-- the code of a block, or of the template's own stream; none if there is no such block
abbrev pub part_code : Compiled → Option (List ℕ) → List Instruction
part_code t None = t.root
part_code t (Some x) = code_or_none (find x t.blocks)

-- a template as its meaning sees it, which has no statements if there is no tree
abbrev pub tree_or_none : Option Tree → Tree
tree_or_none None = trees.Statements []
tree_or_none (Some tree) = tree

abbrev pub tree_of : Compiled → TemplateTree
tree_of t = record { name = t.name; escape = t.escape; root = stream_of (tree_or_none t.tree) }

-- ---------------------------------------------------------------- by name
-- no template; it stands for what lies beyond the end of a list
abbrev pub nothing : Compiled
nothing = record { name = []; source = []; escape = escapes.None; tree = None; root = []; blocks = [] }

-- the template at a place
abbrev pub template_at : Named Compiled → ℕ → Compiled
template_at entries i = (slice_index_or entries i ([], nothing)).1

-- the templates at these places, each with the name of its place
abbrev pub placed : Named Compiled → Named ℕ → Named Compiled
placed entries places = each (λ (p : List ℕ × ℕ). (p.0, template_at entries p.1)) places

-- the places, with another one for this name if it has one
abbrev pub with_place : List ℕ → ℕ → Named ℕ → Named ℕ
with_place x i places = set_value (is_at (name_cmp x)) places i

-- An entry of this name is at place i.
pub record IsEntryAt (entries : Named Compiled) (x : List ℕ) (i : ℕ) : Type 0 where
  pub in_range : i < length entries
  pub named : (slice_index_or entries i ([], nothing)).0 ≡ x

-- Each name has the place of an entry of that name, and each entry is at the place of its name; the
-- names ascend.
pub record ArePlacesOf (places : Named ℕ) (entries : Named Compiled) : Type 0 where
  pub ordered : AreOrdered places
  pub of_names : (x : List ℕ) (i : ℕ) → find x places ≡ Some i → IsEntryAt entries x i
  pub of_entries : (x : List ℕ) (i : ℕ) → IsEntryAt entries x i → find x places ≡ Some i

-- At each of these places is the entry of its name.
abbrev pub EachPlaced : Named Compiled → Named ℕ → Type 0
EachPlaced entries places = All (λ (p : List ℕ × ℕ). IsEntryAt entries p.0 p.1) places

-- Each of these is what its name means among the templates.
abbrev pub AreFoundIn : Named Compiled → Named Compiled → Type 0
AreFoundIn ts these = All (λ (t : List ℕ × Compiled). find t.0 ts ≡ Some t.1) these

-- ---------------------------------------------------------------- accepted
-- The code of each block is accepted.
abbrev pub AllAccepted : Named BlockCode → Type 0
AllAccepted bs = AllByRecursion (λ (b : List ℕ × BlockCode). IsAccepted b.1.code) bs

-- All streams of a template are accepted.
abbrev pub AreAccepted : Compiled → Type 0
AreAccepted t = (part : Option (List ℕ)) → IsAccepted (part_code t part)

-- The same for each of these templates.
abbrev pub EachAccepted : Named Compiled → Type 0
EachAccepted ts = AllByRecursion (λ (t : List ℕ × Compiled). AreAccepted t.1) ts

-- These are the names of the blocks, which ascend, and `nothing` is an empty stream; all streams
-- are accepted.
pub record AreStreams (root : List Instruction) (blocks : Named BlockCode) (names : List (List ℕ)) (nothing : List Instruction) : Type 0 where
  pub root_accepted : IsAccepted root
  pub blocks_accepted : AllAccepted blocks
  pub names_are : names ≡ keys_of blocks
  pub order : IsStrictlySortedBy name_cmp (keys_of blocks)
  pub nothing_is : nothing ≡ []

-- ---------------------------------------------------------------- of sources
-- a template compiled from a source with this name and escape: its tree is the one that the source
-- spells
pub record IsTemplate (syntax : Syntax) (escape : AutoEscape) (name source : List ℕ) (t : Compiled) : Type 0 where
  pub tree : Tree
  pub is : t ≡ of_tree name source escape tree
  pub spelled : Spells syntax source tree

-- why a source was refused: it spells no tree, or memory ran out
abbrev pub IsRefused : Syntax → List ℕ → List ErrorKind → Type 0
IsRefused syntax source chain = Refused chain (SpellsNone syntax source)

-- the expression that a source spells, under the name of all expressions and with no escape
pub record IsExpression (source : List ℕ) (t : Compiled) : Type 0 where
  pub tree : Tree
  pub is : t ≡ of_tree (codes "<expression>") source escapes.None tree
  pub spelled : SpellsExpr source tree

-- why an expression's source was refused
abbrev pub IsRefusedExpression : List ℕ → List ErrorKind → Type 0
IsRefusedExpression source chain = Refused chain (SpellsNoExpr source)
