use Rattle.std.proofs.Common.{arith, ◌≡◌, ◌<◌, length, slice_get, Some}
use Rattle.std.proofs.lemmas.Option.{slice_get_within}
use Rattle.tm_syntax.specs.Dropping.{step_weight, total}
use Rattle.tm_syntax.proofs.Dropping.{item_weighs}
use Rattle.tm_syntax.proofs.Replaced.{is_last}
use Rattle.tm_syntax.proofs.tree.+dropping.Goals as goal

-- what is dropped is the step that was searched
pub exchange_in_steps-drop_step-requires : goal.exchange_in_steps-drop_step-requires
exchange_in_steps-drop_step-requires t c =
    let found : slice_get c.loop-last.steps c.saturating_sub.result ≡ Some c.in-Some.last.now = c.in-Some.ensures.value in
    let within : c.saturating_sub.result < length c.loop-last.steps = slice_get_within _ _ _ found in
    let weighs : step_weight c.in-Some.last.now < total step_weight c.loop-last.steps = (item_weighs step_weight _ _ _ found).1 in
    let same : c.in-Some-pop.step ≡ c.exchange_in_step.new.step =
    is_last c.loop-last.steps c.pop.new.self c.saturating_sub.result _ _ (omega arith) c.in-Some-pop.ensures
    in
    let empty : step_weight c.exchange_in_step.new.step ≡ 0 = (c.exchange_in_step.ensures.left c.if-exchange_in_step.false).0 in
    (omega arith, rw same empty)
