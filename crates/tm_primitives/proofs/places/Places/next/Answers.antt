use Rattle.std.proofs.lemmas.Grind.{common_steps}
use Rattle.std.proofs.Common.{arith, ◌<◌, rules}
use Rattle.std.proofs.lemmas.Int.{to_z-of_z}
use Rattle.tm_primitives.proofs.Steps.{next_fits}
use Rattle.tm_primitives.proofs.places.Places.next.Goals as goal

pub overflow_add-self : goal.overflow_add-self
overflow_add-self c =
    let more : 1 < c.self.inside.left = omega arith in
    let fits = next_fits c.self.inside.next c.self.inside.step c.self.inside.left c.self.invariant more in
    search (arith, to_z-of_z, fits)

pub returns-then-self-eq0-clause-some : goal.returns-then-self-eq0-clause-some
returns-then-self-eq0-clause-some c = search rules fits 100

pub returns-then-self-eq0-clause-none : goal.returns-then-self-eq0-clause-none
returns-then-self-eq0-clause-none c = search rules fits 100

pub returns-then-self-gt0-clause-some : goal.returns-then-self-gt0-clause-some
returns-then-self-gt0-clause-some c = grind (arith, common_steps)

pub returns-then-self-gt0-clause-none : goal.returns-then-self-gt0-clause-none
returns-then-self-gt0-clause-none c = search rules fits 100

pub returns-else-self-gt0-clause-some : goal.returns-else-self-gt0-clause-some
returns-else-self-gt0-clause-some c = search rules fits 100

pub returns-else-self-gt0-clause-none : goal.returns-else-self-gt0-clause-none
returns-else-self-gt0-clause-none c = search rules fits 100
