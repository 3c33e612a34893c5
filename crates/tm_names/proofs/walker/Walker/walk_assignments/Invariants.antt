use Rattle.std.proofs.Common.{◌≡◌, drop}
use Rattle.tm_syntax.specs.Names.{walk_assignments}
use Rattle.tm_names.proofs.walker.Walker.walk_assignments.Given as goal

abbrev pub invariant-loop-assignment : goal.invariant-loop-assignment
invariant-loop-assignment l =
    walk_assignments l.nested (drop l.assignment-index l.given) l.self ≡ walk_assignments l.nested l.given l.fn.self
