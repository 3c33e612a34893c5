-- What a compiled template runs, and what it tells of its blocks.
use Rattle.std.proofs.Common.{◌≡◌, ℕ, List, [], refl, sym, ap, subst, ◌∙◌, Option, Some, None, Bool, false}
use Rattle.std.specs.Option.{option_map}
use Rattle.tm_values.specs.declared.escape.AutoEscape.{AutoEscape}
use Rattle.tm_delimiters.specs.Syntax.{Syntax}
use Rattle.tm_trees.specs.Instructions.{Instruction}
use Rattle.tm_trees.specs.Trees.{Tree}
use Rattle.tm_syntax.specs.Blocks.{FoundBlock, statements, stream_blocks, stream_of, code_of}
use Rattle.tm_shapes.specs.BlockCodes.{block_code}
use Rattle.tm_shapes.specs.declared.code.BlockCode.{BlockCode}
use Rattle.tm_syntax.specs.Named.{Named, find, by_name}
use Rattle.tm_meaning.specs.World.{Card, card_in}
use Rattle.tm_meaning.specs.Calls.{is_required}
use Rattle.tm_meaning.specs.Tree.{part_of, or_empty}
use Rattle.tm_templates.specs.Templates.{Compiled, IsOfTree, IsTemplate, block_codes, code_or_none, of_tree, part_code, told_of, tree_of}
use Rattle.tm_templates.proofs.Named.{find-turned, by_name-turned}

-- ---------------------------------------------------------------- trees
abbrev found_in : Tree → List ℕ → Option FoundBlock
found_in tree x = find x (by_name (stream_blocks (stream_of tree)))

find-codes : (tree : Tree) (x : List ℕ) → find x (block_codes tree) ≡ option_map block_code (found_in tree x)
find-codes tree x =
    ap (find x) (by_name-turned block_code (stream_blocks (stream_of tree))) ∙ find-turned block_code x (by_name (stream_blocks (stream_of tree)))

code_found : (o : Option FoundBlock) (found : Option BlockCode) → found ≡ option_map block_code o → code_or_none found ≡ code_of (statements (or_empty o))
code_found None found e = ap code_or_none e
code_found (Some b) found e = ap code_or_none e

tree_part : (name source : List ℕ) (escape : AutoEscape) (tree : Tree) (part : Option (List ℕ)) →
    part_code (of_tree name source escape tree) part ≡ code_of (part_of (tree_of (of_tree name source escape tree)) part)
tree_part name source escape tree None = refl
tree_part name source escape tree (Some x) = code_found (found_in tree x) (find x (block_codes tree)) (find-codes tree x)

-- the parts of a tree's template have the code of its parts
pub tree_code : (t : Compiled) → IsOfTree t → (part : Option (List ℕ)) → part_code t part ≡ code_of (part_of (tree_of t) part)
tree_code t (tree, is) part =
    subst (λ c. part_code c part ≡ code_of (part_of (tree_of c) part)) (sym is) (tree_part t.name t.source t.escape tree part)

-- ---------------------------------------------------------------- parts
-- a part that is the block of a name
pub part_found : (t : Compiled) (part : Option (List ℕ)) (x y : List ℕ) (found : Option BlockCode) → part ≡ Some x → y ≡ x →
    find y t.blocks ≡ found → code_or_none found ≡ part_code t part
part_found t part x y found is same e =
    ap code_or_none (sym e) ∙ ap (λ z. code_or_none (find z t.blocks)) same ∙ ap (part_code t) (sym is)

abbrev card_of : BlockCode → Card
card_of b = record { required = b.required }

abbrev required_in : Option BlockCode → Bool
required_in None = false
required_in (Some b) = b.required

required_card : (found : Option BlockCode) (c : Option Card) → c ≡ option_map card_of found → required_in found ≡ is_required c
required_card None c e = sym (ap is_required e)
required_card (Some b) c e = sym (ap is_required e)

-- what the code of a block says of it, where a part is that block, and where it isn't there
pub part_required : (t : Compiled) (part : Option (List ℕ)) (x y : List ℕ) (found : Option BlockCode) → part ≡ Some x → y ≡ x →
    find y t.blocks ≡ found → required_in found ≡ is_required (card_in (told_of t) part)
part_required t part x y found is same e =
    required_card found (card_in (told_of t) (Some x))
    (find-turned card_of x t.blocks ∙ ap (option_map card_of) (ap (λ z. find z t.blocks) (sym same) ∙ e))
    ∙ ap (λ p. is_required (card_in (told_of t) p)) (sym is)

-- ---------------------------------------------------------------- sources
pub of_source : (syntax : Syntax) (escape : AutoEscape) (name source : List ℕ) (t : Compiled) → IsTemplate syntax escape name source t → IsOfTree t
of_source syntax escape name source t made =
    (made.tree, subst (λ (c : Compiled). c ≡ of_tree c.name c.source c.escape made.tree) (sym made.is) refl)
