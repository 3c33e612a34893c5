use Rattle.std.proofs.Common.{◌≡◌, false, List, [], sym, ◌∙◌, ap}
use Rattle.tm_syntax.specs.declared.token.Token.{Token}
use Rattle.tm_trees.specs.Trees.{Tree}
use Rattle.tm_trees.specs.Trees.tree_forms as trees
use Rattle.tm_grammar.specs.Laws.{same_got}
use Rattle.tm_expressions.specs.Grammar.{inside}
use Rattle.tm_parser.specs.Statements.{body, inner}
use Rattle.tm_parser.specs.Template.{nestings, SpellsTemplate}
use Rattle.tm_parser.proofs.template.one_tree.Goals as goal

one : (ts : List Token) (a b : Tree) → SpellsTemplate ts a → SpellsTemplate ts b → a ≡ b
one ts (trees.Statements a) (trees.Statements b) x y =
    let whole = body (inside nestings) (inner nestings) false in
    let same = same_got a b [] [] (sym (whole.complete ts a [] x.spelled) ∙ whole.complete ts b [] y.spelled) in
    ap trees.Statements same.0
one ts (trees.Statements a) (trees.Expression b) x y = absurd y
one ts (trees.Expression a) b x y = absurd x

pub returns : goal.returns
returns c = one
