use Rattle.std.proofs.Common.{◌≡◌, length}
use Rattle.tm_expressions.specs.Grammar.{more_parts}
use Rattle.tm_expressions.proofs.cursor.Cursor.more_parts.Given as goal

abbrev pub invariant-loop-self : goal.invariant-loop-self
invariant-loop-self l = (more_parts l.name).reads l.self ≡ (more_parts l.fn.first).reads l.fn.self

abbrev pub decreases-loop-self : goal.decreases-loop-self
decreases-loop-self l = length l.self
