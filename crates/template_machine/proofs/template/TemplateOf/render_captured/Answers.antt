use Rattle.std.proofs.Common.{Ok, Err, subst, sym}
use Rattle.tm_meaning.specs.World.{World}
use Rattle.template_machine.specs.Renders.{SoundRecords, StreamCaptured, StreamState, first}
use Rattle.template_machine.proofs.Answered.{passed}
use Rattle.template_machine.proofs.StreamRuns.{state_done, state_failed}
use Rattle.template_machine.specs.Environment.{TemplateValue}
use Rattle.template_machine.proofs.template.TemplateOf.render_captured.Goals as goal

pub returns-in_err-text-clause-streams : goal.returns-in_err-text-clause-streams
returns-in_err-text-clause-streams g c = λ h.
    let t = c.args.self.now in
    let w : World = first g.O.Parties.stated t c.args.ids.now c.args.context in
    let left = c.run_in_capture.new.state in
    let why = c.in_err-text.field-0.0 in
    let sound : SoundRecords t c.in_ok-state.state =
    subst (λ (w : World). SoundRecords t w) (sym c.in_ok-state.ensures.state) (λ shapes all. tt) in
    passed c.from_residual-in_err-text.result (λ r. StreamState g.O.Parties.stated t w r) why c.from_residual-in_err-text.ensures.1
    (state_failed g.O.Parties.stated t w left why
    (subst (λ (w : World). StreamCaptured g.O.Parties.stated t w (Err why) left) c.in_ok-state.ensures.state (c.in_err-text.ensures.streams sound)))

pub returns-clause-streams : goal.returns-clause-streams
returns-clause-streams g c = λ h.
    let t = c.args.self.now in
    let w : World = first g.O.Parties.stated t c.args.ids.now c.args.context in
    let left = c.run_in_capture.new.state in
    let sound : SoundRecords t c.in_ok-state.state =
    subst (λ (w : World). SoundRecords t w) (sym c.in_ok-state.ensures.state) (λ shapes all. tt) in
    state_done g.O.Parties.stated t w left c.rendering.result c.in_ok-text.text c.new.result c.new-2.result c.rendering.ensures.same
    c.new.ensures c.new-2.ensures
    (subst (λ (w : World). StreamCaptured g.O.Parties.stated t w (Ok c.in_ok-text.text) left) c.in_ok-state.ensures.state
    (c.in_ok-text.ensures.streams sound))

pub new-requires : goal.new-requires
new-requires g c =
    let t = c.args.self.now in
    let sound : SoundRecords t c.in_ok-state.state =
    subst (λ (w : World). SoundRecords t w) (sym c.in_ok-state.ensures.state) (λ shapes all. tt) in
    subst (λ (r : TemplateValue g.row.O.Denot). SoundRecords r c.run_in_capture.new.state) (sym c.rendering.ensures.same)
    (c.in_ok-text.ensures.sound sound)
