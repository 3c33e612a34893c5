use Rattle.std.proofs.Common.{◌≡◌, List, [], sym, ◌∙◌, ap}
use Rattle.tm_syntax.specs.declared.token.Token.{Token}
use Rattle.tm_trees.specs.Trees.{Tree}
use Rattle.tm_trees.specs.Trees.tree_forms as trees
use Rattle.tm_grammar.specs.Laws.{same_got}
use Rattle.tm_expressions.specs.Grammar.{expr, inside}
use Rattle.tm_parser.specs.Template.{nestings, SpellsExpression}
use Rattle.tm_parser.proofs.template.one_expr.Goals as goal

one : (ts : List Token) (a b : Tree) → SpellsExpression ts a → SpellsExpression ts b → a ≡ b
one ts (trees.Expression a) (trees.Expression b) x y =
    let whole = expr (inside nestings) in
    ap trees.Expression (same_got a b [] [] (sym (whole.complete ts a [] x) ∙ whole.complete ts b [] y)).0
one ts (trees.Expression a) (trees.Statements b) x y = absurd y
one ts (trees.Statements a) b x y = absurd x

pub returns : goal.returns
returns c = one
