use Rattle.std.proofs.lemmas.List.{drop_all}
use Rattle.std.proofs.lemmas.Result.{on_ok_weaker}
use Rattle.tm_generator.proofs.PutExpressions.{next}
use Rattle.tm_generator.proofs.PutTargets.{made-unpack, more-targets, no_more-targets}
use Rattle.tm_generator.proofs.targets.+targets.Goals as goal

pub push_target-returns-in_ok-emit-in-Unpack : goal.push_target-returns-in_ok-emit-in-Unpack
push_target-returns-in_ok-emit-in-Unpack t c =
    rw c.in-Unpack.is (on_ok_weaker c.push_targets.result
    (made-unpack c.args.code.now c.emit-in-Unpack.new.self c.push_targets.new.code _ c.in-Unpack.parts
    c.len.ensures c.in_ok-emit-in-Unpack.ensures) (rw (← c.as_slice.ensures) c.push_targets.ensures))

pub push_targets-loop-part-preserved : goal.push_targets-loop-part-preserved
push_targets-loop-part-preserved t c =
    more-targets _ _ c.part-item.result _ _ _
    (next c.args.parts.now c.loop-part.part-index c.part-item.result c.loop-part-test.true c.part-item.is) c.in_ok-push_target.ensures
    c.loop-part.invariant

pub push_targets-returns : goal.push_targets-returns
push_targets-returns t c = no_more-targets _ _ _
    (drop_all c.loop-part.part-index c.args.parts.now c.loop-part-test.false) c.loop-part.invariant
