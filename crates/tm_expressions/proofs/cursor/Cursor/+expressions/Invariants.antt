use Rattle.std.proofs.Common.{◌≡◌, ℕ, ◌+◌, ◌-◌, ◌*◌, length, []}
use Rattle.tm_syntax.specs.declared.token.Sign.TheVariants as sign
use Rattle.tm_expressions.specs.Grammar.{inside, operand, steps_from, conditions_from, more_items, more_passed, pair}
use Rattle.tm_expressions.specs.Levels.{levels}
use Rattle.tm_expressions.specs.Tokens.{postfix_level}
use Rattle.tm_expressions.specs.Waiting.{reached_from, AllAbove, size}
use Rattle.tm_expressions.proofs.cursor.Cursor.+expressions.Given as goal

-- each nesting has room for one call of each method, the higher above the lower
abbrev nesting_room : ℕ
nesting_room = 4096

abbrev pub decreases-inner_expr : goal.decreases-inner_expr
decreases-inner_expr l = nesting_room * l.depth

abbrev pub decreases-inner_operand : goal.decreases-inner_operand
decreases-inner_operand l = nesting_room * l.depth

abbrev pub decreases-keyword : goal.decreases-keyword
decreases-keyword l = nesting_room * l.depth + 1

abbrev pub decreases-argument : goal.decreases-argument
decreases-argument l = nesting_room * l.depth + 1

abbrev pub decreases-spread_map : goal.decreases-spread_map
decreases-spread_map l = nesting_room * l.depth + 1

abbrev pub decreases-spread_list : goal.decreases-spread_list
decreases-spread_list l = nesting_room * l.depth + 1

abbrev pub decreases-one_passed : goal.decreases-one_passed
decreases-one_passed l = nesting_room * l.depth + 2

abbrev pub decreases-more_passed : goal.decreases-more_passed
decreases-more_passed l = nesting_room * l.depth + 3

abbrev pub decreases-all_passed : goal.decreases-all_passed
decreases-all_passed l = nesting_room * l.depth + 4

abbrev pub decreases-in_brackets : goal.decreases-in_brackets
decreases-in_brackets l = nesting_room * l.depth + 5

abbrev pub decreases-one_expr : goal.decreases-one_expr
decreases-one_expr l = nesting_room * l.depth + 1

abbrev pub decreases-more_exprs : goal.decreases-more_exprs
decreases-more_exprs l = nesting_room * l.depth + 2

abbrev pub decreases-exprs : goal.decreases-exprs
decreases-exprs l = nesting_room * l.depth + 3

abbrev pub decreases-one_pair : goal.decreases-one_pair
decreases-one_pair l = nesting_room * l.depth + 1

abbrev pub decreases-more_pairs : goal.decreases-more_pairs
decreases-more_pairs l = nesting_room * l.depth + 2

abbrev pub decreases-pairs : goal.decreases-pairs
decreases-pairs l = nesting_room * l.depth + 3

abbrev pub decreases-tuple : goal.decreases-tuple
decreases-tuple l = nesting_room * l.depth + 4

abbrev pub decreases-list_literal : goal.decreases-list_literal
decreases-list_literal l = nesting_room * l.depth + 4

abbrev pub decreases-map_literal : goal.decreases-map_literal
decreases-map_literal l = nesting_room * l.depth + 4

abbrev pub decreases-part : goal.decreases-part
decreases-part l = nesting_room * l.depth + 1

abbrev pub decreases-last_part : goal.decreases-last_part
decreases-last_part l = nesting_room * l.depth + 2

abbrev pub decreases-slice : goal.decreases-slice
decreases-slice l = nesting_room * l.depth + 3

abbrev pub decreases-called : goal.decreases-called
decreases-called l = nesting_room * l.depth + 6

abbrev pub decreases-named_step : goal.decreases-named_step
decreases-named_step l = nesting_room * l.depth + 6

abbrev pub decreases-given : goal.decreases-given
decreases-given l = nesting_room * l.depth + 6

abbrev pub decreases-filter_step : goal.decreases-filter_step
decreases-filter_step l = nesting_room * l.depth + 7

abbrev pub decreases-passed_to_test : goal.decreases-passed_to_test
decreases-passed_to_test l = nesting_room * l.depth + 7

abbrev pub decreases-tested : goal.decreases-tested
decreases-tested l = nesting_room * l.depth + 8

abbrev pub decreases-test_step : goal.decreases-test_step
decreases-test_step l = nesting_room * l.depth + 9

abbrev pub decreases-subscript : goal.decreases-subscript
decreases-subscript l = nesting_room * l.depth + 5

abbrev pub decreases-call_step : goal.decreases-call_step
decreases-call_step l = nesting_room * l.depth + 6

abbrev pub decreases-named : goal.decreases-named
decreases-named l = nesting_room * l.depth + 7

abbrev pub decreases-closed : goal.decreases-closed
decreases-closed l = nesting_room * l.depth + 8

abbrev pub decreases-bracketed : goal.decreases-bracketed
decreases-bracketed l = nesting_room * l.depth + 9

abbrev pub decreases-primary : goal.decreases-primary
decreases-primary l = nesting_room * l.depth + 10

abbrev pub decreases-operand_start : goal.decreases-operand_start
decreases-operand_start l = nesting_room * l.depth + 11

abbrev pub decreases-right_side : goal.decreases-right_side
decreases-right_side l = nesting_room * l.depth + 12

abbrev pub decreases-one_step : goal.decreases-one_step
decreases-one_step l = nesting_room * l.depth + 10

abbrev pub decreases-steps : goal.decreases-steps
decreases-steps l = nesting_room * l.depth + 11

abbrev pub decreases-with_steps : goal.decreases-with_steps
decreases-with_steps l = nesting_room * l.depth + 12

abbrev pub decreases-after_postfix : goal.decreases-after_postfix
decreases-after_postfix l = nesting_room * l.depth + 13

abbrev pub decreases-operators : goal.decreases-operators
decreases-operators l = nesting_room * l.depth + 14

abbrev pub decreases-climb : goal.decreases-climb
decreases-climb l = nesting_room * l.depth + 15

abbrev pub decreases-operand : goal.decreases-operand
decreases-operand l = nesting_room * l.depth + 16

abbrev pub decreases-whole : goal.decreases-whole
decreases-whole l = nesting_room * l.depth + 16

abbrev pub decreases-else_part : goal.decreases-else_part
decreases-else_part l = nesting_room * l.depth + 1

abbrev pub decreases-one_condition : goal.decreases-one_condition
decreases-one_condition l = nesting_room * l.depth + 17

abbrev pub decreases-conditions : goal.decreases-conditions
decreases-conditions l = nesting_room * l.depth + 18

abbrev pub decreases-expr : goal.decreases-expr
decreases-expr l = nesting_room * l.depth + 20

abbrev pub decreases-conditioned : goal.decreases-conditioned
decreases-conditioned l = nesting_room * l.depth + 19

abbrev pub invariant-conditions-loop-alloc : goal.invariant-conditions-loop-alloc
invariant-conditions-loop-alloc l =
    (conditions_from (inside l.depth) l.conditions).reads l.self ≡ (conditions_from (inside l.depth) []).reads l.fn.self

abbrev pub decreases-conditions-loop-alloc : goal.decreases-conditions-loop-alloc
decreases-conditions-loop-alloc l = length l.self

abbrev pub invariant-climb-loop-found : goal.invariant-climb-loop-found
invariant-climb-loop-found l =
    (levels (inside l.depth) l.level l.end l.value).reads l.self ≡
    (levels (inside l.depth) l.fn.from l.fn.end l.fn.operand).reads l.fn.self

abbrev pub decreases-climb-loop-found : goal.decreases-climb-loop-found
decreases-climb-loop-found l = l.end - l.level

abbrev pub invariant-operators-turns : goal.invariant-operators-turns
invariant-operators-turns l =
    ((reached_from (inside l.depth) l.waiting l.reached).reads l.self ≡
    (levels (inside l.depth) l.fn.from l.fn.end l.fn.operand).reads l.fn.self) × AllAbove l.waiting

abbrev pub decreases-operators-turns : goal.decreases-operators-turns
decreases-operators-turns l = size l.self l.waiting l.reached.level

abbrev pub invariant-steps-loop-link : goal.invariant-steps-loop-link
invariant-steps-loop-link l =
    (steps_from (inside l.depth) (operand (inside l.depth) postfix_level) postfix_level l.steps).reads l.self ≡
    (steps_from (inside l.depth) (operand (inside l.depth) postfix_level) postfix_level []).reads l.fn.self

abbrev pub decreases-steps-loop-link : goal.decreases-steps-loop-link
decreases-steps-loop-link l = length l.self

abbrev pub invariant-more_passed-loop-alloc : goal.invariant-more_passed-loop-alloc
invariant-more_passed-loop-alloc l =
    (more_passed (inside l.depth) l.given).reads l.self ≡ (more_passed (inside l.depth) l.fn.given).reads l.fn.self

abbrev pub decreases-more_passed-loop-alloc : goal.decreases-more_passed-loop-alloc
decreases-more_passed-loop-alloc l = length l.self

abbrev pub invariant-more_exprs-loop-alloc : goal.invariant-more_exprs-loop-alloc
invariant-more_exprs-loop-alloc l =
    (more_items l.close (inside l.depth).expr l.exprs).reads l.self ≡ (more_items l.close (inside l.depth).expr l.fn.exprs).reads l.fn.self

abbrev pub decreases-more_exprs-loop-alloc : goal.decreases-more_exprs-loop-alloc
decreases-more_exprs-loop-alloc l = length l.self

abbrev pub invariant-more_pairs-loop-alloc : goal.invariant-more_pairs-loop-alloc
invariant-more_pairs-loop-alloc l =
    (more_items sign.CloseCurly (pair (inside l.depth)) l.pairs).reads l.self ≡
    (more_items sign.CloseCurly (pair (inside l.depth)) l.fn.first).reads l.fn.self

abbrev pub decreases-more_pairs-loop-alloc : goal.decreases-more_pairs-loop-alloc
decreases-more_pairs-loop-alloc l = length l.self
