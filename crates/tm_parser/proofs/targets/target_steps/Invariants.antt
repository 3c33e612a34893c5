use Rattle.std.proofs.Common.{◌≡◌, length, []}
use Rattle.tm_expressions.specs.Grammar.{inside, target_steps_from}
use Rattle.tm_parser.proofs.targets.target_steps.Given as goal

abbrev pub invariant-loop-link : goal.invariant-loop-link
invariant-loop-link l = (target_steps_from (inside l.depth) l.steps).reads l.cursor ≡ (target_steps_from (inside l.depth) []).reads l.fn.cursor

abbrev pub decreases-loop-link : goal.decreases-loop-link
decreases-loop-link l = length l.cursor
