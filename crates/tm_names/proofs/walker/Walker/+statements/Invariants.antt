use Rattle.std.proofs.Common.{◌≡◌, ◌+◌, ◌*◌, drop}
use Rattle.tm_syntax.specs.Names.{walk_all}
use Rattle.tm_trees.specs.Trees.{statements}
use Rattle.tm_trees.specs.Trees.statement_forms.{CallBlock, For, If, Macro}
use Rattle.tm_syntax.proofs.tree.Stmt.TheLaws.{the_size}
use Rattle.tm_names.proofs.walker.Walker.+statements.Given as goal

abbrev pub invariant-walk_all-loop-statement : goal.invariant-walk_all-loop-statement
invariant-walk_all-loop-statement l =
    walk_all l.nested (statements (drop l.statement-index l.body)) l.self ≡ walk_all l.nested (statements l.body) l.fn.self

-- ---------------------------------------------------------------- measures: a list is as deep as the deepest of it
abbrev pub decreases-walk : goal.decreases-walk
decreases-walk l = 4 * goal.size-walk l + 2

abbrev pub decreases-walk_if : goal.decreases-walk_if
decreases-walk_if l = 4 * the_size (If l.condition.now l.body.now l.other.now)

abbrev pub decreases-walk_for : goal.decreases-walk_for
decreases-walk_for l = 4 * the_size (For l.for_loop.now) + 1

abbrev pub decreases-walk_rounds : goal.decreases-walk_rounds
decreases-walk_rounds l = 4 * the_size (For l.for_loop.now)

abbrev pub decreases-walk_block : goal.decreases-walk_block
decreases-walk_block l = 4 * goal.size-walk_block l + 4

abbrev pub decreases-walk_with : goal.decreases-walk_with
decreases-walk_with l = 4 * goal.size-walk_with l + 4

abbrev pub decreases-walk_macro : goal.decreases-walk_macro
decreases-walk_macro l = 4 * the_size (Macro l.declared.now) + 1

abbrev pub decreases-walk_call_block : goal.decreases-walk_call_block
decreases-walk_call_block l = 4 * the_size (CallBlock l.tag.now) + 1

abbrev pub decreases-walk_body : goal.decreases-walk_body
decreases-walk_body l = 4 * goal.size-walk_body l + 4

abbrev pub decreases-walk_all : goal.decreases-walk_all
decreases-walk_all l = 4 * goal.size-walk_all l + 3
