-- The tree of tokens.
use Rattle.std.specs.Prelude.{ℕ, false, List, [], map, IsTrue}
use Rattle.tm_syntax.specs.declared.token.Token.{Token}
use Rattle.tm_syntax.specs.Blocks.{blocks_of, blocks_in}
use Rattle.tm_syntax.specs.Named.{Named}
use Rattle.tm_trees.specs.Trees.{Stmt, statements as row, Tree}
use Rattle.tm_trees.specs.Trees.tree_forms as trees
use Rattle.tm_parser.specs.Distinct.{are_distinct}
use Rattle.tm_expressions.specs.Grammar.{expr, inside}
use Rattle.tm_parser.specs.Statements.{body, inner}

abbrev pub names : {A : Type 0} → Named A → List (List ℕ)
names pairs = map (λ pair. pair.0) pairs

-- the names of the blocks in a statement; each comes after those of the blocks nested in it
abbrev pub names_of : Stmt → List (List ℕ)
names_of s = names (blocks_of s)

abbrev pub block_names : List Stmt → List (List ℕ)
block_names statements = names (blocks_in (row statements))

-- how many brackets, prefixes, else parts and tags may be open at once
abbrev pub nestings : ℕ
nestings = 150

-- The tokens are these statements, outside of any loop, within the limit on nesting, and all blocks
-- have different names.
pub record AreStatements (tokens : List Token) (statements : List Stmt) : Type 0 where
  pub spelled : (body (inside nestings) (inner nestings) false).spells tokens statements []
  pub distinct : IsTrue (are_distinct (block_names statements))

-- The tokens are the tree of a template.
abbrev pub SpellsTemplate : List Token → Tree → Type 0
SpellsTemplate tokens (trees.Statements statements) = AreStatements tokens statements
SpellsTemplate tokens (trees.Expression x) = ⊥

abbrev pub SpellsNoTemplate : List Token → Type 0
SpellsNoTemplate tokens = (tree : Tree) → SpellsTemplate tokens tree → ⊥

-- The tokens are the tree of one expression, within the same limit.
abbrev pub SpellsExpression : List Token → Tree → Type 0
SpellsExpression tokens (trees.Statements statements) = ⊥
SpellsExpression tokens (trees.Expression x) = (expr (inside nestings)).spells tokens x []

abbrev pub SpellsNoExpression : List Token → Type 0
SpellsNoExpression tokens = (tree : Tree) → SpellsExpression tokens tree → ⊥
