use Rattle.std.proofs.Common.{◌≡◌, ◌+◌, ◌++◌, ℕ, List, ap, sym, subst, ◌∙◌, arith}
use Rattle.tm_printing.proofs.Begun.{Begun, beginning}
use Rattle.tm_printing.proofs.Steps.{left_text-push, left_weight-push, closed, at_value}
use Rattle.tm_printing.proofs.Steps.{written_whole, opened, closed_lighter, step_lighter, opened_lighter}
use Rattle.tm_printing.proofs.Weights.{positive}
use Rattle.tm_printing.specs.Left.{left_text, left_weight, rest_weight, weight}
use Rattle.tm_printing.proofs.walk.write_rest.Goals as goal

pub loop-left-smaller-in-Ok : goal.loop-left-smaller-in-Ok
loop-left-smaller-in-Ok g c =
    let r = g.R.Records.records c.args.records.now in
    let k = weight r in
    let step = c.in-Some.step in
    let next = step_lighter k c.loop-left.rest c.in_ok-next.next step c.in-Some.is c.in_ok-next.ensures.weight (positive r.namespaces) in
    let begun = opened_lighter r step.levels step.value.now c.in_ok-begun-in-Some.begun c.in-Some-begun.inside c.in-Some-begun.is
    c.in_ok-begun-in-Some.ensures.weight in
    let more : left_weight k c.push.new.self.items ≡ left_weight k c.loop-left.left.items + rest_weight k step.after =
    ap (left_weight k) c.in-Ok.ensures.items ∙ left_weight-push k c.loop-left.left.items step.after in
    omega (arith, next, begun, more)

pub loop-left-preserved-in-Ok : goal.loop-left-preserved-in-Ok
loop-left-preserved-in-Ok g c =
    let r = g.R.Records.records c.args.records.now in
    let took = g.T.Target.took in
    let stopped = g.T.Target.stopped in
    let laws = g.met.T.Target.laws in
    let text = g.N.Notation.rest_text r in
    let value = g.N.Notation.value_text r in
    let whole = text c.args.first in
    let left = c.loop-left.left.items in
    let step = c.in-Some.step in
    let here = at_value took stopped laws value text c.args.target.now whole c.loop-left.target c.loop-left.rest left c.loop-left.invariant
    c.advance.new.target c.in_ok-next.next step c.in-Some.is (c.in_ok-next.ensures.text r) in
    let inside = opened took stopped laws text c.args.target.now whole c.advance.new.target _ _ here c.begin.new.target
    c.in_ok-begun-in-Some.begun c.in-Some-begun.inside c.in-Some-begun.is c.in_ok-begun-in-Some.ensures.text in
    let more : left_text text c.push.new.self.items ≡ text step.after ++ left_text text left =
    ap (left_text text) c.in-Ok.ensures.items ∙ left_text-push text left step.after in
    subst (λ (l : List ℕ). Begun took c.args.target.now whole c.begin.new.target (text c.in-Some-begun.inside ++ l)) (sym more) inside

pub returns-in-Err : goal.returns-in-Err
returns-in-Err g c =
    let r = g.R.Records.records c.args.records.now in
    let took = g.T.Target.took in
    let stopped = g.T.Target.stopped in
    let laws = g.met.T.Target.laws in
    let text = g.N.Notation.rest_text r in
    let value = g.N.Notation.value_text r in
    let whole = text c.args.first in
    let left = c.loop-left.left.items in
    let step = c.in-Some.step in
    let here = at_value took stopped laws value text c.args.target.now whole c.loop-left.target c.loop-left.rest left c.loop-left.invariant
    c.advance.new.target c.in_ok-next.next step c.in-Some.is (c.in_ok-next.ensures.text r) in
    let inside = opened took stopped laws text c.args.target.now whole c.advance.new.target _ _ here c.begin.new.target
    c.in_ok-begun-in-Some.begun c.in-Some-begun.inside c.in-Some-begun.is c.in_ok-begun-in-Some.ensures.text in
    beginning took stopped laws c.args.target.now c.begin.new.target whole _ inside

pub loop-left-smaller-in-None-begun : goal.loop-left-smaller-in-None-begun
loop-left-smaller-in-None-begun g c =
    let r = g.R.Records.records c.args.records.now in
    let k = weight r in
    let next = step_lighter k c.loop-left.rest c.in_ok-next.next c.in-Some.step c.in-Some.is c.in_ok-next.ensures.weight
    (positive r.namespaces) in
    omega (arith, next)

pub loop-left-preserved-in-None-begun : goal.loop-left-preserved-in-None-begun
loop-left-preserved-in-None-begun g c =
    let r = g.R.Records.records c.args.records.now in
    let took = g.T.Target.took in
    let stopped = g.T.Target.stopped in
    let laws = g.met.T.Target.laws in
    let text = g.N.Notation.rest_text r in
    let value = g.N.Notation.value_text r in
    let whole = text c.args.first in
    let left = c.loop-left.left.items in
    let here = at_value took stopped laws value text c.args.target.now whole c.loop-left.target c.loop-left.rest left c.loop-left.invariant
    c.advance.new.target c.in_ok-next.next c.in-Some.step c.in-Some.is (c.in_ok-next.ensures.text r) in
    written_whole took stopped laws text c.args.target.now whole c.advance.new.target _ _ here c.begin.new.target
    c.in_ok-begun-in-Some.begun c.in-None-begun.is c.in_ok-begun-in-Some.ensures.text

pub loop-left-smaller : goal.loop-left-smaller
loop-left-smaller g c =
    let r = g.R.Records.records c.args.records.now in
    let k = weight r in
    let some = closed_lighter k c.loop-left.rest c.in_ok-next.next c.in-None.is c.in_ok-next.ensures.weight (positive r.namespaces) in
    let less : left_weight k c.loop-left.left.items ≡ left_weight k c.pop.new.self.items + rest_weight k c.in-Some-pop.outer =
    ap (left_weight k) c.in-Some-pop.ensures.items ∙ left_weight-push k c.pop.new.self.items c.in-Some-pop.outer in
    omega (arith, some, less)

pub loop-left-preserved : goal.loop-left-preserved
loop-left-preserved g c =
    let r = g.R.Records.records c.args.records.now in
    let took = g.T.Target.took in
    let stopped = g.T.Target.stopped in
    let laws = g.met.T.Target.laws in
    let text = g.N.Notation.rest_text r in
    let value = g.N.Notation.value_text r in
    let whole = text c.args.first in
    let left = c.loop-left.left.items in
    let below = closed took stopped laws value text c.args.target.now whole c.loop-left.target c.loop-left.rest left c.loop-left.invariant
    c.advance.new.target c.in_ok-next.next c.in-None.is (c.in_ok-next.ensures.text r) in
    let less : left_text text left ≡ text c.in-Some-pop.outer ++ left_text text c.pop.new.self.items =
    ap (left_text text) c.in-Some-pop.ensures.items ∙ left_text-push text c.pop.new.self.items c.in-Some-pop.outer in
    subst (λ (l : List ℕ). Begun took c.args.target.now whole c.advance.new.target l) less below
