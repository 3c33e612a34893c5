use Rattle.std.proofs.Common.{ℕ, Option, Some, Ok, subst, length}
use Rattle.tm_printing.proofs.Begun.{after_it}
use Rattle.tm_printing.specs.Left.{Begins}
use Rattle.tm_printing.specs.declared.rest.Rest.{Rest}
use Rattle.tm_printing.proofs.walk.write_parts.Goals as goal

pub returns-in-Some : goal.returns-in-Some
returns-in-Some g c =
    let r = g.R.Records.records c.args.records.now in
    let took = g.T.Target.took in
    let stopped = g.T.Target.stopped in
    let text = g.N.Notation.rest_text r in
    let whole = g.N.Notation.value_text r (length r.namespaces) c.args.value.now in
    let begun : Begins took stopped (Ok c.in_ok-begun.begun) c.args.target.now whole text c.begin.new.target =
    subst (λ (levels : ℕ). Begins took stopped (Ok c.in_ok-begun.begun) c.args.target.now (g.N.Notation.value_text r levels
    c.args.value.now) text c.begin.new.target)
    c.namespace_count.ensures c.in_ok-begun.ensures.text in
    let before : Begins took stopped (Ok (Some c.in-Some.rest)) c.args.target.now whole text c.begin.new.target =
    subst (λ (o : Option Rest). Begins took stopped (Ok o) c.args.target.now whole text c.begin.new.target) c.in-Some.is begun in
    after_it took stopped g.met.T.Target.laws c.args.target.now c.begin.new.target c.write_rest.new.target whole before.0
    (text c.in-Some.rest) c.write_rest.result before.1.0 before.1.1 c.write_rest.ensures
