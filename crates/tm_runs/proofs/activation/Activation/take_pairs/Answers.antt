use Rattle.std.proofs.Common.{◌<◌, ◌+◌, length, [], arith, sym}
use Rattle.tm_parts.proofs.Operands.{taken_too_many}
use Rattle.tm_runs.proofs.activation.Activation.take_pairs.Goals.{then-held-count-via-then-held-count}
use Rattle.tm_runs.proofs.activation.Activation.take_pairs.Goals.{then-held-count-via-else-held-count+then-held-count-2}
use Rattle.tm_runs.proofs.activation.Activation.take_pairs.Goals as goal

pub returns-then-held-count-clause-taken : goal.returns-then-held-count-clause-taken
returns-then-held-count-clause-taken c =
    let few : length c.self.inside.operands < c.args.count + c.args.count =
    elim c.then-held-count.branch [
      | then-held-count-via-then-held-count w ↦ omega (arith, w.if-held-count.true, c.len-held.ensures)
      | then-held-count-via-else-held-count+then-held-count-2 w ↦ omega (arith, w.if-held-count-2.true, c.len-held.ensures)
    ] in
    rw (sym c.self.view_is) (taken_too_many (c.args.count + c.args.count) [] c.self.inside.operands few)
