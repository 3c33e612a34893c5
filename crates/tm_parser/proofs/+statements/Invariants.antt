use Rattle.std.proofs.Common.{◌≡◌, ℕ, ◌+◌, ◌*◌, length}
use Rattle.tm_expressions.specs.Grammar.{inside}
use Rattle.tm_parser.specs.Statements.{inner, body, more_statements}
use Rattle.tm_parser.proofs.+statements.Given as goal

-- each nesting has room for one call of each method, the higher above the lower
abbrev nesting_room : ℕ
nesting_room = 16

abbrev pub decreases-statements::inner_body : goal.decreases-statements::inner_body
decreases-statements::inner_body l = nesting_room * l.depth

abbrev pub decreases-statements::inner_rest : goal.decreases-statements::inner_rest
decreases-statements::inner_rest l = nesting_room * l.depth

abbrev pub decreases-statements::inner_else_or_end : goal.decreases-statements::inner_else_or_end
decreases-statements::inner_else_or_end l = nesting_room * l.depth

abbrev pub decreases-statements::elif_tag : goal.decreases-statements::elif_tag
decreases-statements::elif_tag l = nesting_room * l.depth + 1

abbrev pub decreases-statements::else_tag : goal.decreases-statements::else_tag
decreases-statements::else_tag l = nesting_room * l.depth + 3

abbrev pub decreases-statements::if_tag : goal.decreases-statements::if_tag
decreases-statements::if_tag l = nesting_room * l.depth + 1

abbrev pub decreases-statements::for_body : goal.decreases-statements::for_body
decreases-statements::for_body l = nesting_room * l.depth + 1

abbrev pub decreases-statements::captured : goal.decreases-statements::captured
decreases-statements::captured l = nesting_room * l.depth + 3

abbrev pub decreases-statements::for_tag : goal.decreases-statements::for_tag
decreases-statements::for_tag l = nesting_room * l.depth + 2

abbrev pub decreases-statements::ended_body : goal.decreases-statements::ended_body
decreases-statements::ended_body l = nesting_room * l.depth + 1

abbrev pub decreases-statements::body_after : goal.decreases-statements::body_after
decreases-statements::body_after l = nesting_room * l.depth + 2

abbrev pub decreases-macros::named_body : goal.decreases-macros::named_body
decreases-macros::named_body l = nesting_room * l.depth + 1

abbrev pub decreases-macros::block_tag : goal.decreases-macros::block_tag
decreases-macros::block_tag l = nesting_room * l.depth + 2

abbrev pub decreases-macros::macro_tag : goal.decreases-macros::macro_tag
decreases-macros::macro_tag l = nesting_room * l.depth + 2

abbrev pub decreases-macros::call_block : goal.decreases-macros::call_block
decreases-macros::call_block l = nesting_room * l.depth + 3

abbrev pub decreases-macros::call_tag : goal.decreases-macros::call_tag
decreases-macros::call_tag l = nesting_room * l.depth + 4

abbrev pub decreases-statements::with_tag : goal.decreases-statements::with_tag
decreases-statements::with_tag l = nesting_room * l.depth + 2

abbrev pub decreases-statements::set_block : goal.decreases-statements::set_block
decreases-statements::set_block l = nesting_room * l.depth + 4

abbrev pub decreases-statements::filter_tag : goal.decreases-statements::filter_tag
decreases-statements::filter_tag l = nesting_room * l.depth + 4

abbrev pub decreases-statements::autoescape_tag : goal.decreases-statements::autoescape_tag
decreases-statements::autoescape_tag l = nesting_room * l.depth + 3

abbrev pub decreases-statements::set_tag : goal.decreases-statements::set_tag
decreases-statements::set_tag l = nesting_room * l.depth + 5

abbrev pub decreases-statements::else_or_end : goal.decreases-statements::else_or_end
decreases-statements::else_or_end l = nesting_room * l.depth + 4

abbrev pub decreases-statements::rest : goal.decreases-statements::rest
decreases-statements::rest l = nesting_room * l.depth + 5

abbrev pub decreases-statements::tag_statement : goal.decreases-statements::tag_statement
decreases-statements::tag_statement l = nesting_room * l.depth + 6

abbrev pub decreases-statements::one_statement : goal.decreases-statements::one_statement
decreases-statements::one_statement l = nesting_room * l.depth + 7

abbrev pub decreases-statements::body : goal.decreases-statements::body
decreases-statements::body l = nesting_room * l.depth + 8

abbrev pub invariant-statements::body-loop-body : goal.invariant-statements::body-loop-body
invariant-statements::body-loop-body l = (more_statements (inside l.depth) (inner l.depth) l.looping l.body).reads l.cursor ≡
    (body (inside l.depth) (inner l.depth) l.looping).reads l.fn.cursor

abbrev pub decreases-statements::body-loop-body : goal.decreases-statements::body-loop-body
decreases-statements::body-loop-body l = length l.cursor
