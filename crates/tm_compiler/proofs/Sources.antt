-- What the tokens of a source say of its tree.
use Rattle.std.proofs.Common.{ℕ, List, subst}
use Rattle.tm_syntax.specs.declared.token.Token.{Token}
use Rattle.tm_trees.specs.Trees.{Tree}
use Rattle.tm_delimiters.specs.Syntax.{Syntax}
use Rattle.tm_scanner.specs.Spells.{SpellsParts, SpellsTokens}
use Rattle.tm_scanner.proofs.Parts.{one_parts_of}
use Rattle.tm_scanner.proofs.Sources.{one_list_of}
use Rattle.tm_parser.specs.Template as template
use Rattle.tm_compiler.specs.Spells.{Spells, SpellsNoExpr, SpellsNone}

-- a source that spells no tokens
pub no_tokens : (s : Syntax) (source : List ℕ) → ((ts : List Token) → SpellsTokens s source ts → ⊥) → SpellsNone s source
no_tokens s source none tree h = none h.tokens h.scanned

-- any tokens of a source are those that were found
pub of_tokens : (s : Syntax) (source : List ℕ) (ts : List Token) (tree : Tree) → SpellsTokens s source ts → Spells s source tree →
    template.SpellsTemplate ts tree
of_tokens s source ts tree found h =
    subst (λ us. template.SpellsTemplate us tree) (one_list_of s source h.tokens ts h.scanned found) h.parsed

-- a source whose tokens spell no tree
pub no_tree : (s : Syntax) (source : List ℕ) (ts : List Token) → SpellsTokens s source ts → template.SpellsNoTemplate ts → SpellsNone s source
no_tree s source ts found none tree h = none tree (of_tokens s source ts tree found h)

-- an expression's source that spells no tokens
pub no_parts : (source : List ℕ) → ((ts : List Token) → SpellsParts source ts → ⊥) → SpellsNoExpr source
no_parts source none tree h = none h.tokens h.scanned

-- an expression's source whose tokens spell no tree
pub no_expr : (source : List ℕ) (ts : List Token) → SpellsParts source ts → template.SpellsNoExpression ts → SpellsNoExpr source
no_expr source ts found none tree h =
    none tree (subst (λ us. template.SpellsExpression us tree) (one_parts_of source h.tokens ts h.scanned found) h.parsed)
