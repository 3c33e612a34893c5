use Rattle.std.proofs.Common.{refl}
use Rattle.tm_shapes.specs.Flows.{replaces, replaces_counted}
use Rattle.tm_shapes.proofs.Levels.{told}
use Rattle.tm_shapes.proofs.flow.replaces_counted.Goals as goal

pub returns-in-Some : goal.returns-in-Some
returns-in-Some c =
    told c.args.cells.now c.args.cells.now c.args.cells.now c.args.shape c.args.shape (λ site s. replaces_counted site c.args.count.now s)
    (λ site s. replaces site c.in-Some.count 1 s) _
    (λ site s h. (s, rw c.in-Some.is refl, h)) c.replaces.ensures
