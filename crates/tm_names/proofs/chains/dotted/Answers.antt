use Rattle.std.proofs.lemmas.List.{drop_all}
use Rattle.tm_names.proofs.Forms.{next, more-dotted, last-dotted, no_more-dotted}
use Rattle.tm_names.proofs.chains.dotted.Goals as goal

pub returns-in-None : goal.returns-in-None
returns-in-None c =
    last-dotted _ _ c.step-item.result _ _ _
    (next c.args.after.now c.loop-step.step-index c.step-item.result c.loop-step-test.true c.step-item.is) c.in-None.ensures
    c.in_ok-push_last-in-None.ensures c.loop-step.invariant

pub loop-step-preserved : goal.loop-step-preserved
loop-step-preserved c =
    more-dotted _ _ c.step-item.result c.in-Some.member.now _ _ _
    (next c.args.after.now c.loop-step.step-index c.step-item.result c.loop-step-test.true c.step-item.is) c.in-Some.ensures
    c.in_ok-push_member-in-Some.ensures c.loop-step.invariant

pub returns : goal.returns
returns c = no_more-dotted _ _ _ (drop_all c.loop-step.step-index c.args.after.now c.loop-step-test.false) c.loop-step.invariant
