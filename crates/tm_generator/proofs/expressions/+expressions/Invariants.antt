use Rattle.std.proofs.Common.{◌≡◌, ◌+◌, ◌*◌, ◌++◌, ◌≤◌, length, drop, reverse}
use Rattle.tm_generator.specs.Building.{put, asked, kept, answered}
use Rattle.tm_generator.specs.Opened.{listing_code, lists_of, maps_of, no_end}
use Rattle.tm_generator.proofs.Spreading.{after}
use Rattle.tm_syntax.specs.Code.{exprs_code, pairs_code, keywords_code, steps_code, links_code}
use Rattle.tm_trees.specs.Trees.{exprs, pairs, arguments, keywords, steps, comparisons}
use Rattle.tm_trees.specs.Trees.expr_forms as e
use Rattle.tm_trees.specs.Trees.step_forms.{Apply, Call}
use Rattle.tm_syntax.proofs.tree.Expr.TheLaws.{the_size as size_of_expr}
use Rattle.tm_syntax.proofs.tree.Step.TheLaws.{the_size}
use Rattle.tm_generator.proofs.expressions.+expressions.Given as goal

abbrev pub invariant-push_exprs-loop-item : goal.invariant-push_exprs-loop-item
invariant-push_exprs-loop-item l = put (exprs_code (exprs (drop l.item-index l.items))) l.code ≡ put (exprs_code (exprs l.items)) l.fn.code

abbrev pub invariant-push_pairs-loop-entry : goal.invariant-push_pairs-loop-entry
invariant-push_pairs-loop-entry l = put (pairs_code (pairs (drop l.entry-index l.entries))) l.code
    ≡ put (pairs_code (pairs l.entries)) l.fn.code

abbrev pub invariant-push_arguments-loop-argument : goal.invariant-push_arguments-loop-argument
invariant-push_arguments-loop-argument l =
    let left = arguments (drop l.argument-index l.given) in
    (put (listing_code l.pending left) l.code ≡ put (listing_code l.fn.before (arguments l.given)) l.fn.code)
    × (after l.ended (lists_of l.pending left) ≡ lists_of l.fn.before (arguments l.given))

abbrev pub invariant-push_keywords-loop-keyword : goal.invariant-push_keywords-loop-keyword
invariant-push_keywords-loop-keyword l =
    let left = keywords (drop l.keyword-index l.named) in
    (put (keywords_code no_end l.pending left) l.code ≡ put (keywords_code no_end 0 (keywords l.named)) l.fn.code)
    × (after l.ended (maps_of l.pending left) ≡ maps_of 0 (keywords l.named))

abbrev pub invariant-push_steps-loop-step : goal.invariant-push_steps-loop-step
invariant-push_steps-loop-step l = put (steps_code (steps (drop l.step-index l.after))) l.code ≡ put (steps_code (steps l.after)) l.fn.code

abbrev pub invariant-push_links-loop-comparison : goal.invariant-push_links-loop-comparison
invariant-push_links-loop-comparison l =
    put (links_code l.operator (comparisons (drop l.comparison-index l.after))) l.code
    ≡ put (links_code l.fn.first (comparisons l.after)) l.fn.code

abbrev pub invariant-push_tests-loop-left : goal.invariant-push_tests-loop-left
invariant-push_tests-loop-left l =
    (l.left ≤ length l.conditions)
    × (l.code ≡ asked (drop l.left l.conditions) l.fn.code)
    × (l.outers ≡ l.fn.outers ++ reverse (kept (drop l.left l.conditions) l.fn.code))

abbrev pub decreases-push_tests-loop-left : goal.decreases-push_tests-loop-left
decreases-push_tests-loop-left l = l.left

abbrev pub invariant-push_otherwise-loop-condition : goal.invariant-push_otherwise-loop-condition
invariant-push_otherwise-loop-condition l =
    answered (reverse l.outers) (drop l.condition-index l.conditions) l.code ≡ answered (reverse l.fn.outers) l.conditions l.fn.code

-- ---------------------------------------------------------------- measures: a list is as deep as the deepest of it
abbrev pub decreases-push_expr : goal.decreases-push_expr
decreases-push_expr l = 8 * goal.size-push_expr l + 5

abbrev pub decreases-push_exprs : goal.decreases-push_exprs
decreases-push_exprs l = 8 * goal.size-push_exprs l + 6

abbrev pub decreases-push_pairs : goal.decreases-push_pairs
decreases-push_pairs l = 8 * goal.size-push_pairs l + 6

abbrev pub decreases-push_arguments : goal.decreases-push_arguments
decreases-push_arguments l = 8 * goal.size-push_arguments l + 6

abbrev pub decreases-push_listed : goal.decreases-push_listed
decreases-push_listed l = 8 * goal.size-push_listed l + 5

abbrev pub decreases-push_keyword : goal.decreases-push_keyword
decreases-push_keyword l = 8 * goal.size-push_keyword l + 5

abbrev pub decreases-push_keywords : goal.decreases-push_keywords
decreases-push_keywords l = 8 * goal.size-push_keywords l + 6

abbrev pub decreases-push_step : goal.decreases-push_step
decreases-push_step l = 8 * goal.size-push_step l + 5

abbrev pub decreases-push_steps : goal.decreases-push_steps
decreases-push_steps l = 8 * goal.size-push_steps l + 6

abbrev pub decreases-push_tests : goal.decreases-push_tests
decreases-push_tests l = 8 * goal.size-push_tests l + 6

abbrev pub decreases-push_otherwise : goal.decreases-push_otherwise
decreases-push_otherwise l = 8 * goal.size-push_otherwise l + 6

abbrev pub decreases-push_over : goal.decreases-push_over
decreases-push_over l = 8 * goal.size-push_over l + 6

abbrev pub decreases-push_comparisons : goal.decreases-push_comparisons
decreases-push_comparisons l = 8 * goal.size-push_comparisons l + 7

abbrev pub decreases-push_links : goal.decreases-push_links
decreases-push_links l = 8 * goal.size-push_links l + 6

abbrev pub decreases-push_open : goal.decreases-push_open
decreases-push_open l = 8 * the_size (Call l.given.now l.named.now)

abbrev pub decreases-push_passed : goal.decreases-push_passed
decreases-push_passed l = 8 * the_size (Call l.given.now l.named.now) + 1

abbrev pub decreases-push_call : goal.decreases-push_call
decreases-push_call l = 8 * size_of_expr (e.Call l.name.now l.given.now l.named.now) + 4

abbrev pub decreases-push_conditional : goal.decreases-push_conditional
decreases-push_conditional l = 8 * size_of_expr (e.Conditional l.value.now l.conditions.now) + 4

abbrev pub decreases-push_applied : goal.decreases-push_applied
decreases-push_applied l = 8 * the_size (Apply l.application l.name.now l.given.now l.named.now) + 4

abbrev pub decreases-push_called : goal.decreases-push_called
decreases-push_called l = 8 * the_size (Call l.given.now l.named.now) + 4
