use Rattle.std.proofs.Common.{◌≡◌, drop}
use Rattle.tm_shapes.specs.Placed.{parts_fit}
use Rattle.tm_shapes.specs.declared.before.Before.TheVariants.{Nothing}
use Rattle.tm_shapes.proofs.placed.parts_fit.Given as goal

-- What is left fits where all does.
abbrev pub invariant-loop-place : goal.invariant-loop-place
invariant-loop-place l = parts_fit l.code l.place (l.before) (drop l.place l.code) ≡ parts_fit l.code 0 Nothing l.code
