-- The tree of a source.
use Rattle.std.specs.Prelude.{ℕ, List}
use Rattle.tm_syntax.specs.declared.token.Token.{Token}
use Rattle.tm_trees.specs.Trees.{Tree}
use Rattle.tm_delimiters.specs.Syntax.{Syntax}
use Rattle.tm_scanner.specs.Spells.{SpellsParts, SpellsTokens}
use Rattle.tm_parser.specs.Template.{SpellsExpression, SpellsTemplate}

-- With these delimiters, the source has these tokens, and they have this tree.
pub record Spells (syntax : Syntax) (source : List ℕ) (tree : Tree) : Type 0 where
  pub tokens : List Token
  pub scanned : SpellsTokens syntax source tokens
  pub parsed : SpellsTemplate tokens tree

abbrev pub SpellsNone : Syntax → List ℕ → Type 0
SpellsNone syntax source = (tree : Tree) → Spells syntax source tree → ⊥

-- Without delimiters, the source has these tokens, and they have this tree of one expression.
pub record SpellsExpr (source : List ℕ) (tree : Tree) : Type 0 where
  pub tokens : List Token
  pub scanned : SpellsParts source tokens
  pub parsed : SpellsExpression tokens tree

abbrev pub SpellsNoExpr : List ℕ → Type 0
SpellsNoExpr source = (tree : Tree) → SpellsExpr source tree → ⊥
