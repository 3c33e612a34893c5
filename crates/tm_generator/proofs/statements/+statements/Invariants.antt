use Rattle.std.proofs.Common.{◌≡◌, ◌+◌, ◌*◌, drop}
use Rattle.tm_syntax.specs.Blocks.{blocks_in}
use Rattle.tm_syntax.specs.Code.{statements_code}
use Rattle.tm_trees.specs.Trees.{statements}
use Rattle.tm_generator.specs.Building.{put_in}
use Rattle.tm_trees.specs.Trees.statement_forms.{AutoEscape, Block, CallBlock, CaptureBlock, For, If, Macro, With}
use Rattle.tm_syntax.proofs.tree.Stmt.TheLaws.{the_size}
use Rattle.tm_generator.proofs.statements.+statements.Given as goal

abbrev pub invariant-push_statements-loop-statement : goal.invariant-push_statements-loop-statement
invariant-push_statements-loop-statement l =
    let left = drop l.statement-index l.body in
    (l.stream.enclosing ≡ l.fn.stream.enclosing)
    × (put_in (statements_code l.fn.stream.enclosing (statements left)) (blocks_in (statements left)) l.stream
    ≡ put_in (statements_code l.fn.stream.enclosing (statements l.body)) (blocks_in (statements l.body)) l.fn.stream)

-- a list of statements is as deep as the deepest of them
abbrev pub decreases-push_statements : goal.decreases-push_statements
decreases-push_statements l = 5 * goal.size-push_statements l + 3

abbrev pub decreases-push_statement : goal.decreases-push_statement
decreases-push_statement l = 5 * goal.size-push_statement l + 2

abbrev pub decreases-push_call_of_block : goal.decreases-push_call_of_block
decreases-push_call_of_block l = 5 * the_size (Block l.name.now l.required l.body.now) + 1

abbrev pub decreases-push_capture : goal.decreases-push_capture
decreases-push_capture l = 5 * the_size (CaptureBlock l.becomes.now l.filters.now l.body.now)

abbrev pub decreases-push_with : goal.decreases-push_with
decreases-push_with l = 5 * the_size (With l.given.now l.body.now)

abbrev pub decreases-push_escaped : goal.decreases-push_escaped
decreases-push_escaped l = 5 * the_size (AutoEscape l.value.now l.body.now)

abbrev pub decreases-push_if : goal.decreases-push_if
decreases-push_if l = 5 * the_size (If l.condition.now l.body.now l.other.now)

abbrev pub decreases-push_if_true : goal.decreases-push_if_true
decreases-push_if_true l = 5 * goal.size-push_if_true l + 4

abbrev pub decreases-push_for : goal.decreases-push_for
decreases-push_for l = 5 * the_size (For l.for_loop.now) + 1

abbrev pub decreases-push_rounds : goal.decreases-push_rounds
decreases-push_rounds l = 5 * the_size (For l.for_loop.now)

abbrev pub decreases-push_macro : goal.decreases-push_macro
decreases-push_macro l = 5 * the_size (Macro l.declared.now) + 1

abbrev pub decreases-push_call_block : goal.decreases-push_call_block
decreases-push_call_block l = 5 * the_size (CallBlock l.tag.now) + 1

abbrev pub decreases-push_declared : goal.decreases-push_declared
decreases-push_declared l = 5 * goal.size-push_declared l + 5

abbrev pub decreases-push_alone : goal.decreases-push_alone
decreases-push_alone l = 5 * goal.size-push_alone l + 4

abbrev pub decreases-push_within : goal.decreases-push_within
decreases-push_within l = 5 * goal.size-push_within l + 4

abbrev pub decreases-push_block : goal.decreases-push_block
decreases-push_block l = 5 * goal.size-push_block l + 5

abbrev pub decreases-stream : goal.decreases-stream
decreases-stream l = 5 * goal.size-stream l + 4
