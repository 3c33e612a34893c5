use Rattle.std.proofs.Common.{◌≡◌, ◌∙◌, Err, ap, sym, subst}
use Rattle.tm_values.specs.Val.{Val}
use Rattle.tm_state.specs.State.{put_back}
use Rattle.template_machine.specs.Renders.{IsMacroCall, SoundRecords, StateValue, StreamCalled}
use Rattle.template_machine.proofs.Answered.{passed}
use Rattle.template_machine.proofs.Sound.{sound_put}
use Rattle.template_machine.proofs.StreamCalls.{fault_streamed, run_streamed}
use Rattle.template_machine.proofs.state.StateOf.value_of_run.Goals as goal

pub invariant_of-self-2 : goal.invariant_of-self-2
invariant_of-self-2 g c =
    let r = c.self-2.inside.rendering in
    subst (SoundRecords r) (sym c.put_back.ensures) (sound_put r c.args.run.saved c.self-2.inside.kept c.self-2.invariant)

pub returns-in_err-captured-clause-streams : goal.returns-in_err-captured-clause-streams
returns-in_err-captured-clause-streams g c = λ asked needs.
    let stated = g.O.Parties.stated in
    let t = c.args.self.now.template in
    let e = c.args.run in
    let why = c.in_err-captured.field-0.0 in
    let left = c.run_in_capture-result.new.self.world in
    let is : c.put_back.new.self ≡ put_back e.saved left =
    c.put_back.ensures ∙ ap (λ (s : StateValue g.row.O.Denot). put_back e.saved s.world) c.self-2.view_is in
    passed c.from_residual.result (λ r. StreamCalled stated t asked r (λ m. IsMacroCall r m c.put_back.new.self)) why c.from_residual.ensures.1
    (subst (λ x. StreamCalled {A = Val} stated t asked (Err why) (λ m. IsMacroCall (Err why) m x)) (sym is)
    (fault_streamed stated t e c.args.self.now.world left asked needs why c.in_err-captured.ensures.streams))

pub returns-clause-streams : goal.returns-clause-streams
returns-clause-streams g c = λ asked needs.
    let e = c.args.run in
    let left = c.run_in_capture-result.new.self.world in
    let is : c.put_back.new.self ≡ put_back e.saved left =
    c.put_back.ensures ∙ ap (λ (s : StateValue g.row.O.Denot). put_back e.saved s.world) c.self-2.view_is in
    run_streamed g.O.Parties.stated c.args.self.now.template e c.args.self.now.world left asked needs c.in_ok-captured.captured
    c.as_str.result.now c.escape.result c.run_value.result c.put_back.new.self is c.as_str.ensures.value c.escape.ensures
    c.in_ok-captured.ensures.streams c.run_value.ensures.ok c.run_value.ensures.kind
