use Rattle.std.proofs.Common.{◌≡◌, ◌+◌, ◌*◌, drop}
use Rattle.tm_syntax.specs.Names.{walk_exprs, walk_pairs, walk_arguments, walk_keywords, walk_steps, walk_conditions, walk_comparisons}
use Rattle.tm_trees.specs.Trees.{exprs, pairs, arguments, keywords, steps, conditions, comparisons}
use Rattle.tm_names.proofs.walker.Walker.+expressions.Given as goal

abbrev pub invariant-walk_exprs-loop-item : goal.invariant-walk_exprs-loop-item
invariant-walk_exprs-loop-item l = walk_exprs l.nested (exprs (drop l.item-index l.items)) l.self ≡ walk_exprs l.nested (exprs l.items) l.fn.self

abbrev pub invariant-walk_pairs-loop-entry : goal.invariant-walk_pairs-loop-entry
invariant-walk_pairs-loop-entry l = walk_pairs l.nested (pairs (drop l.entry-index l.entries)) l.self ≡ walk_pairs l.nested (pairs l.entries) l.fn.self

abbrev pub invariant-walk_arguments-loop-argument : goal.invariant-walk_arguments-loop-argument
invariant-walk_arguments-loop-argument l = walk_arguments l.nested (arguments (drop l.argument-index l.given)) l.self ≡ walk_arguments l.nested (arguments l.given) l.fn.self

abbrev pub invariant-walk_keywords-loop-keyword : goal.invariant-walk_keywords-loop-keyword
invariant-walk_keywords-loop-keyword l = walk_keywords l.nested (keywords (drop l.keyword-index l.named)) l.self ≡ walk_keywords l.nested (keywords l.named) l.fn.self

abbrev pub invariant-walk_steps-loop-step : goal.invariant-walk_steps-loop-step
invariant-walk_steps-loop-step l = walk_steps l.nested (steps (drop l.step-index l.after)) l.self ≡ walk_steps l.nested (steps l.after) l.fn.self

abbrev pub invariant-walk_conditions-loop-condition : goal.invariant-walk_conditions-loop-condition
invariant-walk_conditions-loop-condition l = walk_conditions l.nested (conditions (drop l.condition-index l.asked)) l.self ≡ walk_conditions l.nested (conditions l.asked) l.fn.self

abbrev pub invariant-walk_comparisons-loop-comparison : goal.invariant-walk_comparisons-loop-comparison
invariant-walk_comparisons-loop-comparison l = walk_comparisons l.nested (comparisons (drop l.comparison-index l.after)) l.self ≡ walk_comparisons l.nested (comparisons l.after) l.fn.self

-- ---------------------------------------------------------------- measures: a list is as deep as the deepest of it
abbrev pub decreases-walk_expr : goal.decreases-walk_expr
decreases-walk_expr l = 4 * goal.size-walk_expr l + 1

abbrev pub decreases-walk_first : goal.decreases-walk_first
decreases-walk_first l = 4 * goal.size-walk_first l + 2

abbrev pub decreases-walk_exprs : goal.decreases-walk_exprs
decreases-walk_exprs l = 4 * goal.size-walk_exprs l + 3

abbrev pub decreases-walk_pairs : goal.decreases-walk_pairs
decreases-walk_pairs l = 4 * goal.size-walk_pairs l + 3

abbrev pub decreases-walk_argument : goal.decreases-walk_argument
decreases-walk_argument l = 4 * goal.size-walk_argument l + 2

abbrev pub decreases-walk_arguments : goal.decreases-walk_arguments
decreases-walk_arguments l = 4 * goal.size-walk_arguments l + 3

abbrev pub decreases-walk_keyword : goal.decreases-walk_keyword
decreases-walk_keyword l = 4 * goal.size-walk_keyword l + 2

abbrev pub decreases-walk_keywords : goal.decreases-walk_keywords
decreases-walk_keywords l = 4 * goal.size-walk_keywords l + 3

abbrev pub decreases-walk_conditions : goal.decreases-walk_conditions
decreases-walk_conditions l = 4 * goal.size-walk_conditions l + 3

abbrev pub decreases-walk_step : goal.decreases-walk_step
decreases-walk_step l = 4 * goal.size-walk_step l + 2

abbrev pub decreases-walk_comparisons : goal.decreases-walk_comparisons
decreases-walk_comparisons l = 4 * goal.size-walk_comparisons l + 3

abbrev pub decreases-walk_steps : goal.decreases-walk_steps
decreases-walk_steps l = 4 * goal.size-walk_steps l + 3
