use Rattle.std.proofs.lemmas.List.{drop_all}
use Rattle.tm_parser.proofs.Calls.{one_more, no_more}
use Rattle.tm_parser.proofs.emissions.ends_in_call.Goals as goal

pub loop-step-preserved : goal.loop-step-preserved
loop-step-preserved c =
    one_more c.loop-step.last c.calls-last.result c.args.steps.now c.loop-step.step-index c.step-item.result _ c.loop-step-test.true
    c.step-item.is c.calls-last.ensures c.loop-step.invariant

pub returns : goal.returns
returns c = no_more c.loop-step.last _ _ (drop_all c.loop-step.step-index c.args.steps.now c.loop-step-test.false) c.loop-step.invariant
