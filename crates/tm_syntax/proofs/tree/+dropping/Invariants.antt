use Rattle.std.proofs.Common.{◌≡◌, ◌+◌, ◌*◌, ◌<◌, ◌≤◌}
use Rattle.tm_syntax.specs.Dropping.{weight, pair_weight, argument_weight, keyword_weight, condition_weight, comparison_weight, step_weight, total}
use Rattle.tm_syntax.proofs.tree.+dropping.Given as goal

-- What calls for a part of the same weight stands above it.
abbrev pub decreases-Expr::drop : goal.decreases-Expr::drop
decreases-Expr::drop l = 4 * weight l.self + 2

abbrev pub decreases-drop_parts : goal.decreases-drop_parts
decreases-drop_parts l = 4 * weight l.whole + 1

abbrev pub decreases-Expr::drop_shell : goal.decreases-Expr::drop_shell
decreases-Expr::drop_shell l = 4 * weight l.self

abbrev pub decreases-drop_step : goal.decreases-drop_step
decreases-drop_step l = 3

abbrev pub decreases-Expr::exchange : goal.decreases-Expr::exchange
decreases-Expr::exchange l = 4 * weight l.self.now

abbrev pub decreases-exchange_item : goal.decreases-exchange_item
decreases-exchange_item l = 4 * total weight l.items.now

abbrev pub decreases-exchange_in_pairs : goal.decreases-exchange_in_pairs
decreases-exchange_in_pairs l = 4 * total pair_weight l.pairs.now

abbrev pub decreases-exchange_in_arguments : goal.decreases-exchange_in_arguments
decreases-exchange_in_arguments l = 4 * total argument_weight l.given.now

abbrev pub decreases-exchange_in_keywords : goal.decreases-exchange_in_keywords
decreases-exchange_in_keywords l = 4 * total keyword_weight l.named.now

abbrev pub decreases-exchange_in_conditions : goal.decreases-exchange_in_conditions
decreases-exchange_in_conditions l = 4 * total condition_weight l.conditions.now

abbrev pub decreases-exchange_in_comparisons : goal.decreases-exchange_in_comparisons
decreases-exchange_in_comparisons l = 4 * total comparison_weight l.comparisons.now

abbrev pub decreases-exchange_in_steps : goal.decreases-exchange_in_steps
decreases-exchange_in_steps l = 4 * total step_weight l.steps.now

abbrev pub decreases-exchange_passed : goal.decreases-exchange_passed
decreases-exchange_passed l = 4 * (total argument_weight l.given.now + total keyword_weight l.named.now) + 1

abbrev pub decreases-exchange_in_step : goal.decreases-exchange_in_step
decreases-exchange_in_step l = 4 * step_weight l.step.now + 2

abbrev pub invariant-drop_parts-loop-current : goal.invariant-drop_parts-loop-current
invariant-drop_parts-loop-current l =
    record {
      no_more : weight l.current + weight l.above ≤ weight l.fn.whole;
      at_end : weight l.current ≤ 0 → weight l.above ≤ 0;
    }

abbrev pub decreases-drop_parts-loop-current : goal.decreases-drop_parts-loop-current
decreases-drop_parts-loop-current l = weight l.current + weight l.above

abbrev pub invariant-drop_parts-loop-current-2 : goal.invariant-drop_parts-loop-current-2
invariant-drop_parts-loop-current-2 l =
    record {
      no_more : weight l.current + weight l.above ≤ weight l.initial.current + weight l.initial.above;
      holds : 0 < weight l.current;
    }

abbrev pub decreases-drop_parts-loop-current-2 : goal.decreases-drop_parts-loop-current-2
decreases-drop_parts-loop-current-2 l = weight l.current

abbrev pub invariant-exchange_item-loop-last : goal.invariant-exchange_item-loop-last
invariant-exchange_item-loop-last l =
    record {
      no_more : total weight l.items ≤ total weight l.fn.items;
      kept : l.other ≡ l.fn.other;
    }

abbrev pub decreases-exchange_item-loop-last : goal.decreases-exchange_item-loop-last
decreases-exchange_item-loop-last l = total weight l.items

abbrev pub invariant-exchange_in_pairs-loop-last : goal.invariant-exchange_in_pairs-loop-last
invariant-exchange_in_pairs-loop-last l =
    record {
      no_more : total pair_weight l.pairs ≤ total pair_weight l.fn.pairs;
      kept : l.other ≡ l.fn.other;
    }

abbrev pub decreases-exchange_in_pairs-loop-last : goal.decreases-exchange_in_pairs-loop-last
decreases-exchange_in_pairs-loop-last l = total pair_weight l.pairs

abbrev pub invariant-exchange_in_arguments-loop-last : goal.invariant-exchange_in_arguments-loop-last
invariant-exchange_in_arguments-loop-last l =
    record {
      no_more : total argument_weight l.given ≤ total argument_weight l.fn.given;
      kept : l.other ≡ l.fn.other;
    }

abbrev pub decreases-exchange_in_arguments-loop-last : goal.decreases-exchange_in_arguments-loop-last
decreases-exchange_in_arguments-loop-last l = total argument_weight l.given

abbrev pub invariant-exchange_in_keywords-loop-last : goal.invariant-exchange_in_keywords-loop-last
invariant-exchange_in_keywords-loop-last l =
    record {
      no_more : total keyword_weight l.named ≤ total keyword_weight l.fn.named;
      kept : l.other ≡ l.fn.other;
    }

abbrev pub decreases-exchange_in_keywords-loop-last : goal.decreases-exchange_in_keywords-loop-last
decreases-exchange_in_keywords-loop-last l = total keyword_weight l.named

abbrev pub invariant-exchange_in_conditions-loop-last : goal.invariant-exchange_in_conditions-loop-last
invariant-exchange_in_conditions-loop-last l =
    record {
      no_more : total condition_weight l.conditions ≤ total condition_weight l.fn.conditions;
      kept : l.other ≡ l.fn.other;
    }

abbrev pub decreases-exchange_in_conditions-loop-last : goal.decreases-exchange_in_conditions-loop-last
decreases-exchange_in_conditions-loop-last l = total condition_weight l.conditions

abbrev pub invariant-exchange_in_comparisons-loop-last : goal.invariant-exchange_in_comparisons-loop-last
invariant-exchange_in_comparisons-loop-last l =
    record {
      no_more : total comparison_weight l.comparisons ≤ total comparison_weight l.fn.comparisons;
      kept : l.other ≡ l.fn.other;
    }

abbrev pub decreases-exchange_in_comparisons-loop-last : goal.decreases-exchange_in_comparisons-loop-last
decreases-exchange_in_comparisons-loop-last l = total comparison_weight l.comparisons

abbrev pub invariant-exchange_in_steps-loop-last : goal.invariant-exchange_in_steps-loop-last
invariant-exchange_in_steps-loop-last l =
    record {
      no_more : total step_weight l.steps ≤ total step_weight l.fn.steps;
      kept : l.other ≡ l.fn.other;
    }

abbrev pub decreases-exchange_in_steps-loop-last : goal.decreases-exchange_in_steps-loop-last
decreases-exchange_in_steps-loop-last l = total step_weight l.steps
