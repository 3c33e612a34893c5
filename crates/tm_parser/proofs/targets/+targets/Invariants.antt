use Rattle.std.proofs.Common.{◌≡◌, ℕ, ◌+◌, ◌*◌, length}
use Rattle.tm_expressions.specs.Grammar.{inside, more_targets}
use Rattle.tm_parser.proofs.targets.+targets.Given as goal

-- each nesting has room for one call of each method, the higher above the lower
abbrev nesting_room : ℕ
nesting_room = 8

abbrev pub decreases-inner_target : goal.decreases-inner_target
decreases-inner_target l = nesting_room * l.depth

abbrev pub decreases-single : goal.decreases-single
decreases-single l = nesting_room * l.depth + 1

abbrev pub decreases-one_target : goal.decreases-one_target
decreases-one_target l = nesting_room * l.depth + 2

abbrev pub decreases-more_targets : goal.decreases-more_targets
decreases-more_targets l = nesting_room * l.depth + 3

abbrev pub decreases-several : goal.decreases-several
decreases-several l = nesting_room * l.depth + 4

abbrev pub decreases-target : goal.decreases-target
decreases-target l = nesting_room * l.depth + 5

abbrev pub invariant-more_targets-loop-alloc : goal.invariant-more_targets-loop-alloc
invariant-more_targets-loop-alloc l =
    (more_targets (inside l.depth) l.targets).reads l.cursor ≡ (more_targets (inside l.depth) l.fn.first).reads l.fn.cursor

abbrev pub decreases-more_targets-loop-alloc : goal.decreases-more_targets-loop-alloc
decreases-more_targets-loop-alloc l = length l.cursor
