use Rattle.std.proofs.Common.{rules}
use Rattle.tm_primitives.proofs.places.bound.Goals as goal

pub returns-then-place-low : goal.returns-then-place-low
returns-then-place-low c = search rules fits 100

pub returns-then-high-place : goal.returns-then-high-place
returns-then-high-place c = search rules fits 100

pub returns-else-high-place : goal.returns-else-high-place
returns-else-high-place c = search rules fits 100
